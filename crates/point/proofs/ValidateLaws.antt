-- The laws of validation, a test at a time: pilots and slots. Assumes nothing.
use Rattle.std.specs.Prelude.{Some, Ok}
use Prim.Native.Nat.{ℕ, zero, suc, ◌+◌, ◌-◌, ◌<◌, ◌≤◌}
use native.Mathlib.Nat.{eq-or-lt_of_le}
use native.Mathlib.Numerals.{add-one}
use native.Mathlib.Omega.{arith}
use mathlib.Core.Path.{◌≡◌, refl, ap, ap₂, ◌∙◌}
use mathlib.Core.List.{List}
use mathlib.Core.Bool.{true, false, not}
use mathlib.Core.Logic.{⊎_elim}
use lib.Dec.{eqb}
use borrow.Author.Tests.{eqb-true, not-false, eq-eqb, ne_eqb}
use Rattle.laws.proofs.RefusalLaws.{or_else_zero}
use Rattle.numbers.specs.Numbers.{answered}
use Rattle.words.specs.Field.{le}
use Rattle.mixing.specs.Mixing.{hash_of, fingerprint_of, bucket_of, bucket_of_lt}
use Rattle.layout.specs.Layout.{header_refusal, seed_in, keys_in, buckets_in, arena_in, pilot_at, pilot_of, direct_past, slot_of, slot_place, record_offset, fingerprint_wide}
use Rattle.layout.proofs.HeaderLaws.{passes, headed}
use Rattle.records.specs.Places.{key_at, next_entry}
use Rattle.records.specs.Walk.{walk_from}
use Rattle.records.proofs.RuleLaws.{Entered}
use Rattle.point.specs.Validate.{pilots_refusal, slot_test, slot_refusal, arena_refusal, validation_refusal, validate_of, Checked}
use Rattle.point.specs.Inner.Walking.{Stepping}

-- ---- 22, a pilot at a time

module _ (body : List ℕ) (n i b : ℕ) where
  pub pilots_past : i < b → direct_past n (pilot_at body i) ≡ true → pilots_refusal body n i (b - i) ≡ 22
  unfolding pilots_refusal
  pilots_past h e =
      let s : b - i ≡ suc (b - (i + 1)) = omega arith in
      ap (pilots_refusal body n i) s ∙ rw e

  pub pilots_next : i < b → direct_past n (pilot_at body i) ≡ false → pilots_refusal body n i (b - i) ≡ pilots_refusal body n (i + 1) (b - (i + 1))
  unfolding pilots_refusal
  pilots_next h e =
      let s : b - i ≡ suc (b - (i + 1)) = omega arith in
      ap (pilots_refusal body n i) s ∙ rw (e, ← add-one i)

  pub pilots_end : b ≤ i → pilots_refusal body n i (b - i) ≡ 0
  unfolding pilots_refusal
  pilots_end h = let s : b - i ≡ 0 = omega arith in ap (pilots_refusal body n i) s

-- no pilot that 22 passed is past the end
pilots_near : (body : List ℕ) (n i k j : ℕ) → pilots_refusal body n i k ≡ 0 → i ≤ j → j < i + k → direct_past n (pilot_at body j) ≡ false
unfolding pilots_refusal
pilots_near body n i zero j e l u = absurd (let z : j < i = omega arith in omega arith)
pilots_near body n i (suc k) j e l u =
    let s = passes (direct_past n (pilot_at body i)) 21 (pilots_refusal body n (suc i) k) e in
    ⊎_elim (λ (q : i ≡ j). rw q at s.0) (λ (q : i < j). pilots_near body n (suc i) k j s.1 (omega arith) (omega arith)) (eq-or-lt_of_le l)

-- so no hash's pilot is
pub checked_near : (body : List ℕ) (h : ℕ) → Checked body → direct_past (keys_in body) (pilot_of body h) ≡ false
unfolding pilot_of
checked_near body h c =
    let d = headed body c.header in
    let z : 0 < buckets_in body = omega arith in
    pilots_near body (keys_in body) 0 (buckets_in body) (bucket_of h (buckets_in body)) c.pilots (omega arith) (omega (arith, bucket_of_lt h (buckets_in body) z))

-- ---- 26: slot s, offset o, arena start a, fingerprint f, u the 32 bits read

module _ (body : List ℕ) (h p s o a : ℕ) (iss : s ≡ slot_place body (slot_of body h)) (iso : o ≡ le 8 body s) (isa : a ≡ arena_in body) where
  pub slot_elsewhere : (o ≡ p - a → ⊥) → slot_test body h p ≡ 26
  unfolding slot_test
  slot_elsewhere n = rw (← iss, ← iso, ← isa, ne_eqb o (p - a) n)

  module _ (same : o ≡ p - a) (u f : ℕ) (isu : u ≡ le 4 body (s + 8)) (isf : f ≡ fingerprint_of h) where
    pub slot_differs : (u ≡ f → ⊥) → slot_test body h p ≡ 26
    unfolding slot_test
    slot_differs n = rw (← iss, ← iso, ← isa, eq-eqb o (p - a) same, ← isu, ← isf, ne_eqb u f n)

    pub slot_right : u ≡ f → slot_test body h p ≡ 0
    unfolding slot_test
    slot_right e = rw (← iss, ← iso, ← isa, eq-eqb o (p - a) same, ← isu, ← isf, eq-eqb u f e)

-- what 26 says of the slot of the key at p
pub record Slotted (body : List ℕ) (h p : ℕ) : Type 0 where
  pub offset : record_offset body (slot_place body (slot_of body h)) ≡ p - arena_in body
  pub fingerprint : fingerprint_wide body (slot_place body (slot_of body h)) ≡ fingerprint_of h

pub slotted : (body : List ℕ) (p : ℕ) → slot_refusal body p ≡ 0 → Slotted body (hash_of (seed_in body) (key_at body p)) p
unfolding slot_refusal slot_test
slotted body p e =
    let s = slot_place body (slot_of body (hash_of (seed_in body) (key_at body p))) in
    let e1 = passes (not (eqb (record_offset body s) (p - arena_in body))) 25 _ e in
    let e2 = passes (not (eqb (fingerprint_wide body s) (fingerprint_of (hash_of (seed_in body) (key_at body p))))) 25 _ e1.1 in
    record { offset = eqb-true _ _ (not-false _ e1.0); fingerprint = eqb-true _ _ (not-false _ e2.0) }

-- the test of the key at p, as the code hashes it
pub slot_of_key : (body key : List ℕ) (p seed h r : ℕ) → key ≡ key_at body p → seed ≡ seed_in body → h ≡ hash_of seed key → r ≡ slot_test body h p → r ≡ slot_refusal body p
unfolding slot_refusal
slot_of_key body key p seed h r ek es eh er = er ∙ ap (λ (g : ℕ). slot_test body g p) (eh ∙ ap₂ hash_of es ek)

-- ---- the arena

pub arena_start_lem : (body : List ℕ) (size a n : ℕ) → a ≡ arena_in body → n ≡ keys_in body
    → (walk_from (slot_refusal body) body (Some size) a a n).rule ≡ arena_refusal body size
arena_start_lem body size a n ea en = rw (ea, en)

-- the walk begins, and goes on past an entry that passed
pub step_first : (body : List ℕ) (a : ℕ) → Checked body → a ≡ arena_in body → Stepping body a a
step_first body a c e =
    let d = headed body c.header in
    record { here = omega arith; walking = record { here = omega arith; before = λ n. absurd (n refl) } }

pub step_next : (body : List ℕ) (size prev p q : ℕ) → Stepping body prev p → Entered (slot_refusal body) body (Some size) prev p → q ≡ next_entry body p → Stepping body p q
step_next body size prev p q s e eq =
    let n = e.next in
    let h = s.here in
    record { here = omega arith; walking = record { here = omega arith; before = λ z. e.key.whole } }

-- ---- the whole

answered_zero : (n : ℕ) → answered {A = Unit {0}} n (record {}) ≡ Ok (record {}) → n ≡ 0
answered_zero zero e = refl
answered_zero (suc n) e = absurd (let z : ◌≡◌ {A = ℕ} 0 1 = cc in omega arith)

-- what an accepted body passed
pub record ValidationPassed (body : List ℕ) (size : ℕ) : Type 0 where
  pub checked : Checked body
  pub arena : arena_refusal body size ≡ 0

pub validation_passed : (body : List ℕ) (size : ℕ) → validate_of body size ≡ Ok (record {}) → ValidationPassed body size
unfolding validate_of validation_refusal
validation_passed body size e =
    let s = or_else_zero (header_refusal body) _ (answered_zero _ e) in
    let t = or_else_zero (pilots_refusal body (keys_in body) 0 (buckets_in body)) _ s.1 in
    record { checked = record { header = s.0; pilots = t.0 }; arena = t.1 }

pub accepted : (body : List ℕ) (size : ℕ) → ValidationPassed body size → validate_of body size ≡ Ok (record {})
unfolding validate_of validation_refusal
accepted body size p = rw (p.checked.header, p.checked.pilots, p.arena)
