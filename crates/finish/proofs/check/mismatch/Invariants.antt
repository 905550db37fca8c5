-- `mismatch` meets its contract. The loop's invariant: no slot below s is unfilled or mismatched. Assumes nothing.
use mathlib.Core.Path.{◌≡◌}
use mathlib.Core.Bool.{false}
use Rattle.laws.specs.Steps.{any_below}
use Rattle.finish.specs.Finish.{unmatched_at}
use Rattle.finish.proofs.check.mismatch.Given as goal

abbrev pub invariant-loop-s : goal.invariant-loop-s
invariant-loop-s l = any_below (unmatched_at l.hs l.pilots l.slots) l.s ≡ false
