-- `slot_of` is the place of the slot that the hash's pilot gives it; the slot stands before the arena. Assumes nothing.
use native.Mathlib.Omega.{arith}
use Rattle.layout.proofs.HeaderLaws.{headed, keys_are, buckets_are, slot_is, slot_stands, slot_low, slot_inside}
use Rattle.point.proofs.slot_of.Goals as goal

pub slot_at-requires : goal.slot_at-requires
slot_at-requires c = let pre = c.requires in
    let a = c.args in
    let d = headed _ a.headed.now.passed in
    let few = d.dims.few in
    let low = slot_low _ a.h d pre in
    let e = slot_is _ a.h _ _ _ (keys_are _ a.headed.now.read) c.pilot_of.ensures c.slot_by-i.ensures in
    (omega arith, omega arith)

pub returns : goal.returns
returns c = let pre = c.requires in
    let a = c.args in
    let d = headed _ a.headed.now.passed in
    let s = slot_inside _ a.h d pre in
    let i = slot_is _ a.h _ _ _ (keys_are _ a.headed.now.read) c.pilot_of.ensures c.slot_by-i.ensures in
    let e = slot_stands _ a.h _ _ _ (buckets_are _ a.headed.now.read) i c.slot_at.ensures in
    (e, omega arith)
