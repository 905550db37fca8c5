-- `write_slots` meets its contract. The loop's invariant: the first s slots are written. Assumes nothing.
use Prim.Native.Nat.{ℕ, ◌+◌, ◌-◌, ◌*◌, ◌≤◌, ◌<◌}
use native.Mathlib.Omega.{arith}
use mathlib.Core.Path.{sym, ap, ap₂, ◌∙◌}
use mathlib.Core.List.{List}
use lib.ListN.{length, get_or}
use lib.Seq.{get_or-take, get_or-drop}
use Rattle.words.specs.Field.{splice}
use Rattle.mixing.specs.Mixing.{fingerprint_of}
use Rattle.finish.specs.Body.{slot_bytes}
use Rattle.finish.specs.Inner.Needs.{listed_slot}
use Rattle.finish.proofs.BodyLaws.{listed_long}
use Rattle.finish.proofs.RowLaws.{row_none, row_more}
use Rattle.finish.proofs.body.write_slots.Goals as goal

pub loop-s-init : goal.loop-s-init
loop-s-init c = let a = c.args in sym (row_none (listed_slot a.wide.now (length a.slots.now)) a.out.now a.at a.slots.now)

pub loop-s-preserved : goal.loop-s-preserved
unfolding listed_slot
loop-s-preserved c = let l = c.loop-s in
    let a = c.args in
    let x = get_or a.slots.now l.s 0 in
    let n = length a.slots.now in
    let low : l.s < length a.slots.now = omega arith in
    let room : a.at + 12 * l.s ≤ length a.out.now = omega arith in
    let at = c.split_at.ensures in
    let filled = c.requires.0.filled l.s low in
    let key = c.requires.0.keys l.s low in
    c.write_slot.ensures
    ∙ ap₂ (λ (y z : ℕ). splice l.out (a.at + 12 * l.s) (slot_bytes y z)) (ap (λ (z : List ℕ). get_or z (x - 1) 0) at.back ∙ get_or-drop n a.wide.now (x - 1) 0)
    (c.fingerprint.ensures ∙ ap fingerprint_of (ap (λ (z : List ℕ). get_or z (x - 1) 0) at.front ∙ get_or-take n a.wide.now (x - 1) 0 (omega arith)))
    ∙ ap (λ (z : List ℕ). splice z (a.at + 12 * l.s) (listed_slot a.wide.now n x)) l.invariant
    ∙ row_more (listed_slot a.wide.now n) 12 (listed_long a.wide.now n) a.out.now a.at a.slots.now l.s low room
