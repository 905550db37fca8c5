-- `construct::place::place_size` meets its contract. The loop's invariant: the buckets below k are passed. Assumes nothing.
use native.Mathlib.Omega.{arith}
use Rattle.laws.proofs.StepsLaws.{steps_none}
use Rattle.construct.specs.Construct.{place_size}
use Rattle.construct.proofs.StepLaws.{steps_at, step_more, step_fails}
use Rattle.construct.proofs.place.place_size.Goals as goal

pub loop-k-init : goal.loop-k-init
loop-k-init c = steps_none _ _

pub returns-then-not-place_of : goal.returns-then-not-place_of
unfolding place_size
returns-then-not-place_of c = step_fails _ _ _ _ c.loop-k.invariant _ (omega arith) c.if-not-place_of.ensures

pub loop-k-preserved : goal.loop-k-preserved
loop-k-preserved c = step_more _ _ _ _ c.loop-k.invariant _ c.if-not-place_of.ensures

pub returns : goal.returns
unfolding place_size
returns c = steps_at _ _ _ _ _ (omega arith) c.loop-k.invariant
