-- `put_version` puts the fields of a version one behind the other. Assumes nothing.
use native.Mathlib.Omega.{arith}
use Rattle.builder.proofs.PartLaws.{version_put}
use Rattle.builder.proofs.put_version.Goals as goal

pub returns : goal.returns
returns c = let s = c.args in
    cc (version_put s.raw.now s.at s.version (omega arith))
