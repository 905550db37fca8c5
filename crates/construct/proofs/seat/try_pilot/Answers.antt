-- `construct::seat::try_pilot` meets its contract. All members sit, or those that do are taken off again. Assumes nothing.
use Rattle.construct.proofs.SeatsLaws.{sat_few}
use Rattle.construct.proofs.seat.try_pilot.Goals as goal

pub returns : goal.returns
returns c = let seat-members = c.seat_members-sat in
    let if1 = c.if-sat-members in
    let unseat = c.unseat in
    (sat_few _ _ _ _ _ _ seat-members.ensures if1.false, unseat.ensures _ seat-members.ensures.seats)
