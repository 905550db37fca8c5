-- `construct::seat::seat_members` meets its contract. The loop's invariant: the first j members sit. Assumes nothing.
use native.Mathlib.Omega.{arith}
use Rattle.construct.proofs.SeatsLaws.{seat_none, seat_more, seat_stuck}
use Rattle.construct.proofs.seat.seat_members.Goals as goal

pub loop-j-init : goal.loop-j-init
loop-j-init c = seat_none _ _ _ _

pub returns-then-slots-at-ne0 : goal.returns-then-slots-at-ne0
returns-then-slots-at-ne0 c = record {
  most = omega arith;
  seats = c.loop-j.invariant;
  stuck = λ _. seat_stuck _ _ _ _ _ _ _ c.spot-at.ensures.value c.loop-j.invariant c.if-slots-at-ne0.true;
}

pub loop-j-preserved : goal.loop-j-preserved
loop-j-preserved c = seat_more _ _ _ _ _ _ _ c.spot-at.ensures.value c.loop-j.invariant c.if-slots-at-ne0.false
