-- `locate_hash` follows the hash's pilot and slot, and compares 16 bits of fingerprint, as `locate_hash` says. Assumes nothing.
use mathlib.Core.Path.{sym, ◌∙◌}
use Rattle.layout.proofs.HeaderLaws.{headed, keys_are, arena_is}
use Rattle.point.proofs.GetLaws.{locate_past, locate_other, locate_out, locate_at}
use native.Mathlib.Omega.{arith}
use borrow.Author.Tests.{leb-true, leb-false}
use Rattle.point.proofs.locate_hash.Goals as goal

pub returns-then-direct_past : goal.returns-then-direct_past
returns-then-direct_past c =
    sym (locate_past _ c.args.h _ _ (keys_are _ c.args.headed.now.read) c.pilot_of.ensures (leb-true _ _ (sym c.direct_past.ensures ∙ c.if-direct_past.true)))

pub returns-then-u16_at-fingerprint : goal.returns-then-u16_at-fingerprint
returns-then-u16_at-fingerprint c =
    sym (locate_other _ c.args.h _ _ (keys_are _ c.args.headed.now.read) c.pilot_of.ensures
    (leb-false _ _ (sym c.direct_past.ensures ∙ c.if-direct_past.false)) _ _ _ c.slot_of-s.ensures.0 c.u16_at.ensures c.fingerprint.ensures
    c.if-u16_at-fingerprint.true)

pub overflow_sub-body : goal.overflow_sub-body
overflow_sub-body c = let h = headed _ c.args.headed.now.passed in omega (arith, arena_is _ c.args.headed.now.read)

pub returns-then-body-arena : goal.returns-then-body-arena
returns-then-body-arena c = let h = headed _ c.args.headed.now.passed in
    sym
    (locate_out _ c.args.h _ _ (keys_are _ c.args.headed.now.read) c.pilot_of.ensures (leb-false _ _ (sym c.direct_past.ensures ∙ c.if-direct_past.false))
    _ _ _ c.slot_of-s.ensures.0 c.u16_at.ensures c.fingerprint.ensures _ _
    c.if-u16_at-fingerprint.false (arena_is _ c.args.headed.now.read) c.u64_at-offset.ensures (omega arith))

pub returns : goal.returns
returns c = let h = headed _ c.args.headed.now.passed in
    sym
    (locate_at _ c.args.h _ _ (keys_are _ c.args.headed.now.read) c.pilot_of.ensures (leb-false _ _ (sym c.direct_past.ensures ∙ c.if-direct_past.false))
    _ _ _ c.slot_of-s.ensures.0 c.u16_at.ensures c.fingerprint.ensures _ _
    c.if-u16_at-fingerprint.false (arena_is _ c.args.headed.now.read) c.u64_at-offset.ensures (omega (arith, arena_is _ c.args.headed.now.read)))
