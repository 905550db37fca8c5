-- `construct::twins::has_twins` meets its contract. The loop's invariant: no member before j has met its hash. Assumes nothing.
use mathlib.Core.Path.{sym, ap, ◌∙◌}
use native.Mathlib.Omega.{arith}
use Rattle.laws.specs.Steps.{any_below}
use Rattle.laws.proofs.StepsLaws.{any_none, any_some, any_miss}
use Rattle.construct.specs.Construct.{twins}
use Rattle.construct.proofs.twins.has_twins.Goals as goal

pub loop-j-init : goal.loop-j-init
loop-j-init c = any_none _

pub returns-then-met_before : goal.returns-then-met_before
unfolding twins
returns-then-met_before c = sym (any_some _ c.loop-j.j _ c.loop-j-test.true (sym c.met_before.ensures ∙ c.if-met_before.true))

pub loop-j-preserved : goal.loop-j-preserved
loop-j-preserved c = any_miss _ c.loop-j.j (sym c.met_before.ensures ∙ c.if-met_before.false) c.loop-j.invariant

pub returns : goal.returns
unfolding twins
returns c = sym (ap (any_below _) (omega arith) ∙ c.loop-j.invariant)
