-- `construct::single::place_singles` meets its contract. The loop's invariant: the buckets below k are passed, and the slots below `from`
-- are taken. Assumes nothing.
use native.Mathlib.Omega.{arith}
use Rattle.laws.proofs.StepsLaws.{steps_none}
use Rattle.construct.specs.Construct.{place_size}
use Rattle.construct.proofs.StepLaws.{steps_at, step_more, step_fails}
use Rattle.construct.proofs.single.place_singles.Goals as goal

pub loop-k-init : goal.loop-k-init
loop-k-init c = (steps_none _ _, omega arith, λ x l. absurd (omega arith))

pub returns-in_default : goal.returns-in_default
unfolding place_size
returns-in_default c = step_fails _ _ _ _ c.loop-k.invariant.0 _ (omega arith) c.in_default.ensures

pub loop-k-preserved : goal.loop-k-preserved
loop-k-preserved c = let e = c.in-Some.ensures in
    (step_more _ _ _ _ c.loop-k.invariant.0 _ e.1, e.0, e.2)

pub returns : goal.returns
unfolding place_size
returns c = steps_at _ _ _ _ _ (omega arith) c.loop-k.invariant.0
