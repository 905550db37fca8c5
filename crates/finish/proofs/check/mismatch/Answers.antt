-- `mismatch` meets its contract. The loop's invariant: no slot below s is unfilled or mismatched. Assumes nothing.
use native.Mathlib.Omega.{arith}
use mathlib.Core.Path.{sym, ap, ◌∙◌}
use Rattle.laws.specs.Steps.{any_below}
use Rattle.laws.proofs.StepsLaws.{any_none, any_some, any_miss}
use Rattle.finish.specs.Finish.{unmatched_at, mismatch}
use Rattle.finish.proofs.check.mismatch.Goals as goal

pub loop-s-init : goal.loop-s-init
loop-s-init c = any_none _

pub returns-then-unmatched : goal.returns-then-unmatched
unfolding mismatch unmatched_at
returns-then-unmatched c = sym (any_some _ c.loop-s.s _ (omega arith) (sym c.unmatched.ensures ∙ c.if-unmatched.true))

pub loop-s-preserved : goal.loop-s-preserved
unfolding unmatched_at
loop-s-preserved c = any_miss _ c.loop-s.s (sym c.unmatched.ensures ∙ c.if-unmatched.false) c.loop-s.invariant

pub returns : goal.returns
unfolding mismatch
returns c = sym (ap (any_below _) (omega arith) ∙ c.loop-s.invariant)
