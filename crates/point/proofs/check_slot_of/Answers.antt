-- `check_slot_of` refuses by 26, by the slot's offset and its 32 bits of fingerprint. Assumes nothing.
use mathlib.Core.Path.{sym}
use Rattle.layout.proofs.HeaderLaws.{arena_is}
use Rattle.point.proofs.ValidateLaws.{slot_elsewhere, slot_differs, slot_right}
use Rattle.point.proofs.check_slot_of.Goals as goal

pub returns-then-u64_at-p : goal.returns-then-u64_at-p
returns-then-u64_at-p c =
    sym (slot_elsewhere _ _ c.args.p _ _ _ c.slot_of-s.ensures.0 c.u64_at.ensures (arena_is _ c.args.headed.now.read) c.if-u64_at-p.true)

pub returns-then-u32_at-fingerprint : goal.returns-then-u32_at-fingerprint
returns-then-u32_at-fingerprint c =
    sym (slot_differs _ _ c.args.p _ _ _ c.slot_of-s.ensures.0 c.u64_at.ensures (arena_is _ c.args.headed.now.read) c.if-u64_at-p.false _ _ c.u32_at.ensures
    c.fingerprint.ensures c.if-u32_at-fingerprint.true)

pub returns : goal.returns
returns c =
    sym (slot_right _ _ c.args.p _ _ _ c.slot_of-s.ensures.0 c.u64_at.ensures (arena_is _ c.args.headed.now.read) c.if-u64_at-p.false _ _ c.u32_at.ensures
    c.fingerprint.ensures c.if-u32_at-fingerprint.false)
