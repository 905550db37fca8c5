-- `PointBuilder::append_version` raises the count and puts the version behind the used bytes. Assumes nothing.
use mathlib.Core.Path.{refl}
use Rattle.builder.specs.Add.{continued_buffer}
use Rattle.builder.proofs.PointBuilder.append_version.Goals as goal

pub returns : goal.returns
unfolding continued_buffer
returns c = record { answer = refl; left = cc }
