-- `put_size` puts the size of a value alone. Assumes nothing.
use Rattle.std.specs.Prelude.{Ok}
use native.Mathlib.Omega.{arith}
use mathlib.Core.Path.{refl, sym}
use Rattle.words.proofs.Laws.{splice_sets}
use Rattle.finish.specs.Finish.{finished_values}
use Rattle.finish.proofs.RowLaws.{splice_none}
use Rattle.kiban_c.proofs.lent.put_size.Goals as goal

pub returns-in-Ok : goal.returns-in-Ok
returns-in-Ok c = rw c.in-Ok.is (refl, splice_sets c.args.answer.now 0 (finished_values (Ok c.in-Ok.size)) (omega (arith, c.requires)))

pub returns-in-Err : goal.returns-in-Err
returns-in-Err c = rw c.in-Err.is (c.number.ensures, sym (splice_none _ 0))
