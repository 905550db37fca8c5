-- `construct::place::place_sizes` meets its contract. The loop's invariant: the passes of the sizes above s are made. Assumes nothing.
use native.Mathlib.Omega.{arith}
use Rattle.laws.proofs.StepsLaws.{steps_none}
use Rattle.construct.proofs.StepLaws.{steps_at, down_more, down_fails}
use Rattle.construct.proofs.place.place_sizes.Goals as goal

pub loop-s-init : goal.loop-s-init
loop-s-init c = (omega arith, steps_at _ _ _ _ _ (omega arith) (steps_none _ _))

pub returns-then-not-place_size : goal.returns-then-not-place_size
returns-then-not-place_size c = down_fails _ _ _ _ _ (omega arith) (omega arith) c.loop-s.invariant.1 c.if-not-place_size.ensures

pub loop-s-preserved : goal.loop-s-preserved
loop-s-preserved c = (omega arith, down_more _ _ _ _ _ (omega arith) (omega arith) c.loop-s.invariant.1 _ c.if-not-place_size.ensures)
