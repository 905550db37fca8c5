-- `construct::seat::find_pilot` meets its contract. The loop's invariant: no pilot before p seats the members, and the slots are as they
-- were. Assumes nothing.
use native.Mathlib.Omega.{arith}
use Rattle.construct.specs.Construct.{tries}
use Rattle.construct.proofs.SeatsLaws.{tried_yes, search_hit, search_miss}
use Rattle.construct.proofs.seat.find_pilot.Goals as goal

pub returns-then-try_pilot : goal.returns-then-try_pilot
unfolding tries
returns-then-try_pilot c =
    search_hit _ _ _ _ c.loop-p.invariant.1 _ (omega arith)
    (tried_yes _ _ _ _ _ _ _ c.loop-p.invariant.0 c.try_pilot.ensures c.if-try_pilot.true)

pub returns : goal.returns
unfolding tries
returns c = search_miss _ _ _ _ c.loop-p.invariant.1 _ c.loop-p.invariant.0 (omega arith)
