-- `Piloted::check_arena` refuses by the rule that stops the walk over the arena. The loop's invariant: the walk from here on stops by the
-- same rule as the whole walk. Assumes nothing.
use Rattle.std.specs.Prelude.{Some}
use Prim.Native.Nat.{ℕ, ◌+◌, ◌-◌}
use native.Mathlib.Nat.{sub-zero}
use mathlib.Core.Path.{◌≡◌, refl, sym, ap, ◌∙◌}
use Rattle.numbers.proofs.NumberLaws.{number_nonzero, passed_on}
use Rattle.layout.proofs.HeaderLaws.{keys_are, arena_is}
use Rattle.records.specs.Walk.{Walk}
use Rattle.records.proofs.RuleLaws.{entered}
use Rattle.records.proofs.WalkLaws.{walk_end, walk_stop, walk_on}
use Rattle.point.specs.Validate.{slot_refusal}
use Rattle.point.proofs.ValidateLaws.{arena_start_lem, step_first, step_next}
use native.Mathlib.Omega.{arith}
use Rattle.point.proofs.Piloted.check_arena.Goals as goal

-- the rule of a walk
abbrev rule : Walk → ℕ
rule w = w.rule

pub loop-init : goal.loop-init
loop-init c = let s = c.args.self.now in
    let e = arena_is _ s.headed.read in (
      step_first _ _ s.checked e,
      rw (sub-zero s.headed.header.keys) (arena_start_lem _ _ _ _ e (keys_are _ s.headed.read)),
    )

pub returns-in_err-check_entry : goal.returns-in_err-check_entry
returns-in_err-check_entry c = let l = c.loop in
    let a = c.args in
    passed_on _ _ _ c.from_residual.ensures.1
    (sym (ap rule (walk_stop (slot_refusal a.self.now.headed.body.now) _ (Some a.data_length) l.prev l.p _ (omega arith) _ c.in_err-check_entry.ensures (number_nonzero _)))
    ∙ l.invariant.1)

pub next_entry-next-requires : goal.next_entry-next-requires
next_entry-next-requires c = let l = c.loop in
    let a = c.args in
    (entered (slot_refusal a.self.now.headed.body.now) _ (Some a.data_length) l.prev l.p (sym c.in_ok-check_entry.ensures)).next

pub loop-preserved : goal.loop-preserved
loop-preserved c = let l = c.loop in
    let a = c.args in
    let s = slot_refusal a.self.now.headed.body.now in
    let z = sym c.in_ok-check_entry.ensures in
    let e = entered s _ (Some a.data_length) l.prev l.p z in
    let n = a.self.now.headed.header.keys in
    let d : n - (l.counter + 1) ≡ n - l.counter - 1 = omega arith in (
      step_next _ a.data_length l.prev l.p _ l.invariant.0 e c.next_entry-next.ensures,
      rw d (sym (ap rule (walk_on s _ (Some a.data_length) l.prev l.p _ (omega arith) _ z c.next_entry-next.ensures)) ∙ l.invariant.1),
    )

pub returns : goal.returns
returns c = let l = c.loop in
    let a = c.args in
    c.check_end.ensures
    ∙ sym (ap rule (walk_end (slot_refusal a.self.now.headed.body.now) _ (Some a.data_length) l.prev l.p _ _ (omega arith) refl)) ∙ l.invariant.1
