-- `construct::seat::unseat` meets its contract. The loop's invariant: of the members that sat, the first j still do. Assumes nothing.
use native.Mathlib.Omega.{arith}
use Rattle.construct.proofs.SeatsLaws.{seat_off, seat_back}
use Rattle.construct.proofs.seat.unseat.Goals as goal

pub loop-j-preserved : goal.loop-j-preserved
loop-j-preserved c = λ s h. seat_back _ _ _ _ _ _ _ c.loop-j-test.true c.spot-at.ensures.value (c.loop-j.invariant s h)

pub returns : goal.returns
returns c = λ s h. seat_off _ _ _ _ _ _ (omega arith) (c.loop-j.invariant s h)
