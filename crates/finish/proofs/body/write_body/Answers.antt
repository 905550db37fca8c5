-- `write_body` meets its contract: header and pilots, slots, arena, each right behind the last. Assumes nothing.
use native.Mathlib.Omega.{arith}
use Rattle.finish.proofs.BodyLaws.{room_start, slots_asked, body_written}
use Rattle.finish.proofs.body.write_body.Goals as goal

pub write_front-requires : goal.write_front-requires
write_front-requires c = let pre = c.requires in
    let room = room_start _ _ _ _ _ _ _ pre.0 pre.1 in
    (pre.0.most, omega arith)

pub write_slots-requires : goal.write_slots-requires
write_slots-requires c = let pre = c.requires in
    slots_asked _ _ _ _ _ c.list_places.new.wide c.write_front.new.out _ _ pre.0 pre.1 c.list_places.auto.wide c.write_front.auto.out

pub returns : goal.returns
returns c = let pre = c.requires in
    body_written _ _ _ _ _ _ _ _ _ _ _ _ pre.0 pre.1 c.list_places.ensures c.arena_start.ensures
    c.write_front.ensures c.write_slots.ensures c.copy_at.ensures
