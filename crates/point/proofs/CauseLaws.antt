-- Validation's numbers are given exactly for their causes, and are 20 to 30. Assumes nothing.
use Rattle.std.specs.Prelude.{Some}
use Prim.Native.Nat.{ℕ, zero, suc, ◌+◌, ◌<◌, ◌≤◌}
use native.Mathlib.Nat.{eq-or-lt_of_le}
use native.Mathlib.Omega.{arith}
use mathlib.Core.Path.{◌≡◌, refl, sym, ap, ◌∙◌}
use mathlib.Core.List.{List, [], ◌∷◌}
use mathlib.Core.Bool.{Bool, true, false, cond, ◌&&◌, and-eq-true_iff, true≢false}
use mathlib.Core.Logic.{⊎_elim}
use lib.Dec.{leb, eqb, lit<}
use borrow.Author.Tests.{leb-true, eqb-true}
use Rattle.laws.specs.Refusals.{Cause, first_of, First, here, later, None, Numbered, or_else}
use Rattle.laws.proofs.RefusalLaws.{first_given, first_only, first_positive, none_given, none_only}
use Rattle.laws.specs.Refusals.Numbered.{numbered_none, numbered_more}
use Rattle.laws.specs.Refusals.{FirstOfTwo}
use Rattle.laws.proofs.RefusalLaws.{two_given, two_only}
use Rattle.laws.specs.Refusals.FirstOfTwo.{by_first_is, by_second}
use Rattle.numbers.specs.Numbers.{number, refusal_of, answered, number_of}
use Rattle.layout.specs.Layout.{keys_in, buckets_in, arena_in, magic_causes, magic_refusal, body_causes, header_refusal, pilot_at, direct_past}
use Rattle.records.specs.Limits.{DataLength}
use Rattle.records.specs.Rules.{key_causes, version_causes}
use Rattle.records.specs.Causes.{VersionsStop, EntryStops, WalkStops}
use Rattle.records.specs.Causes.VersionsStop.{version_here, version_later}
use Rattle.records.specs.Causes.EntryStops.{by_key, by_slot, by_versions}
use Rattle.records.specs.Causes.WalkStops.{entry_here, entry_later, left_over}
use Rattle.records.proofs.CauseLaws.{walk_stops, walk_some, stops_walk}
use Rattle.point.specs.Validate.{pilots_refusal, slot_causes, slot_test, slot_refusal, arena_refusal, validation_refusal, validate_of}
use Rattle.point.specs.Causes.{ValidationStops}
use Rattle.point.specs.Causes.ValidationStops.{magic_wrong, dimensions_wrong, pilot_past, arena_stops}

-- 26 by its row of causes, both ways
pub slot_exact : (body : List ℕ) (h p n : ℕ) → 0 < n → slot_test body h p ≡ n → First n (slot_causes body h p)
unfolding slot_test
slot_exact body h p n l e = first_only n (slot_causes body h p) l e

pub slot_given : (body : List ℕ) (h p n : ℕ) → First n (slot_causes body h p) → slot_test body h p ≡ n
unfolding slot_test
slot_given body h p n f = first_given f

-- 22 for a direct pilot at or past n among those from i on, both ways
record PilotPast (body : List ℕ) (n i k : ℕ) : Type 0 where
  number : ℕ
  from : i ≤ number
  low : number < i + k
  past : direct_past n (pilot_at body number) ≡ true

pilots_past : (body : List ℕ) (n i k r : ℕ) → 0 < r → pilots_refusal body n i k ≡ r → (r ≡ 22) × PilotPast body n i k
unfolding pilots_refusal
pilots_past body n i zero r h e = absurd (omega arith)
pilots_past body n i (suc k) r h e = go (direct_past n (pilot_at body i)) refl (pilots_past body n (suc i) k r h) e
  where
    go : (b : Bool) → direct_past n (pilot_at body i) ≡ b → (pilots_refusal body n (suc i) k ≡ r → (r ≡ 22) × PilotPast body n (suc i) k)
        → cond b 22 (pilots_refusal body n (suc i) k) ≡ r → (r ≡ 22) × PilotPast body n i (suc k)
    go true q rest f = (sym f, record { number = i; from = omega arith; low = omega arith; past = q })
    go false q rest f =
        let s = rest f in
        (s.0, record { number = s.1.number; from = omega (arith, s.1.from); low = omega (arith, s.1.low); past = s.1.past })

past_pilots : (body : List ℕ) (n i k : ℕ) → PilotPast body n i k → pilots_refusal body n i k ≡ 22
unfolding pilots_refusal
past_pilots body n i zero s = absurd (omega (arith, s.from, s.low))
past_pilots body n i (suc k) s = go (direct_past n (pilot_at body i)) refl (past_pilots body n (suc i) k)
  where
    go : (b : Bool) → direct_past n (pilot_at body i) ≡ b → (PilotPast body n (suc i) k → pilots_refusal body n (suc i) k ≡ 22)
        → cond b 22 (pilots_refusal body n (suc i) k) ≡ 22
    go true q rest = refl
    go false q rest =
        let not-here : s.number ≡ i → ⊥ = λ e. true≢false (sym s.past ∙ ap (λ (j : ℕ). direct_past n (pilot_at body j)) e ∙ q) in
        rest (record { number = s.number; from = omega (arith, s.from, not-here); low = omega (arith, s.low); past = s.past })

-- ---- there is no number below 20 or above 30

-- every number of a row is from 20 to 30
between : List Cause → Bool
between [] = true
between (c ∷ cs) = (leb 20 c.number && leb c.number 30) && between cs

first_between : (cs : List Cause) (n : ℕ) → between cs ≡ true → First n cs → (20 ≤ n) × (n ≤ 30)
unfolding between
first_between [] n t f = elim f [ ]
first_between (c ∷ cs) n t (here h e) =
    let low = leb 20 c.number in
    let high = leb c.number 30 in
    let p = (and-eq-true_iff low high).0 ((and-eq-true_iff (low && high) (between cs)).0 t).0 in
    (omega (arith, leb-true 20 c.number p.0), omega (arith, leb-true c.number 30 p.1))
first_between (c ∷ cs) n t (later h f) = first_between cs n ((and-eq-true_iff (leb 20 c.number && leb c.number 30) (between cs)).0 t).1 f

versions_between : {bytes : List ℕ} {test : DataLength} {r prev p k : ℕ} → VersionsStop bytes test r prev p k → (20 ≤ r) × (r ≤ 30)
unfolding between
versions_between {bytes} {test} {r} {prev} {p} (version_here f) = first_between (version_causes bytes test prev p) r refl f
versions_between (version_later n s) = versions_between s

entry_between : {body : List ℕ} {test : DataLength} {r prev p : ℕ} → EntryStops (slot_refusal body) body test r prev p → (20 ≤ r) × (r ≤ 30)
unfolding between slot_refusal
entry_between {body} {test} {r} {prev} {p} (by_key f) = first_between (key_causes body prev p) r refl f
entry_between {body} {test} {r} {prev} {p} (by_slot n is s) = first_between (slot_causes body _ p) r refl (slot_exact body _ p r is s)
entry_between (by_versions n z v) = versions_between v

walk_between : {body : List ℕ} {test : DataLength} {r prev p k : ℕ} → WalkStops (slot_refusal body) body test r prev p k → (20 ≤ r) × (r ≤ 30)
walk_between (entry_here s) = entry_between s
walk_between (entry_later z s) = walk_between s
walk_between (left_over e n) = (omega arith, omega arith)

-- THEOREM: what stops validation has a number from 20 to 30
pub stops_between : {body : List ℕ} {size r : ℕ} → ValidationStops body size r → (20 ≤ r) × (r ≤ 30)
unfolding between
stops_between {body} {size} {r} (magic_wrong f) = first_between (magic_causes body) r refl f
stops_between {body} {size} {r} (dimensions_wrong n f) =
    first_between (body_causes body) r refl f
stops_between (pilot_past h e i l q) = (omega arith, omega arith)
stops_between (arena_stops c w) = walk_between w

-- each of the k numbers from 20 on is a refusal's
named : ℕ → Bool
named zero = true
named (suc k) = eqb (number (refusal_of (20 + k))) (20 + k) && named k

number_named : (k n : ℕ) → named k ≡ true → 20 ≤ n → n < 20 + k → number (refusal_of n) ≡ n
unfolding named
number_named zero n t low high = absurd (omega arith)
number_named (suc k) n t low high =
    let p = (and-eq-true_iff (eqb (number (refusal_of (20 + k))) (20 + k)) (named k)).0 t in
    let l : n ≤ 20 + k = omega arith in
    ⊎_elim (λ (q : n ≡ 20 + k). rw q (eqb-true _ _ p.0)) (λ (q : n < 20 + k). number_named k n p.1 low q) (eq-or-lt_of_le l)

-- ---- the exact cause of each

magic_numbered : (body : List ℕ) → Numbered (magic_causes body)
magic_numbered body = numbered_more (lit< tt) (numbered_more (lit< tt) numbered_none)

dimensions_numbered : (body : List ℕ) → Numbered (body_causes body)
dimensions_numbered body =
    numbered_more (lit< tt) (numbered_more (lit< tt) (numbered_more (lit< tt) (numbered_more (lit< tt) (numbered_more (lit< tt) numbered_none))))

module _ (body : List ℕ) (size : ℕ) where
  magic_passes : magic_refusal body ≡ 0 → None (magic_causes body)
  unfolding magic_refusal
  magic_passes e = none_only (magic_numbered body) e

  abbrev dimensions : ℕ
  dimensions = first_of (body_causes body)

  abbrev pilots : ℕ
  pilots = pilots_refusal body (keys_in body) 0 (buckets_in body)

  module _ (r : ℕ) (is : 0 < r) where
    header_stops : header_refusal body ≡ r → ValidationStops body size r
    unfolding header_refusal magic_refusal
    header_stops e = go (two_only r (magic_refusal body) dimensions e)
      where
        go : FirstOfTwo r (magic_refusal body) dimensions → ValidationStops body size r
        go (by_first_is m) = magic_wrong (first_only r (magic_causes body) is m)
        go (by_second z d) = dimensions_wrong (magic_passes z) (first_only r (body_causes body) is d)

    after_header : header_refusal body ≡ 0 → FirstOfTwo r pilots (arena_refusal body size) → ValidationStops body size r
    after_header h (by_first_is e) =
        let s = pilots_past body (keys_in body) 0 (buckets_in body) r is e in
        pilot_past h s.0 s.1.number (omega (arith, s.1.low)) s.1.past
    after_header h (by_second z e) =
        arena_stops (record { header = h; pilots = z }) (walk_stops (slot_refusal body) body (Some size) r is (arena_in body) (arena_in body) (keys_in body) e)

    refusal_stops : validation_refusal body size ≡ r → ValidationStops body size r
    unfolding validation_refusal
    refusal_stops e = go (two_only r (header_refusal body) _ e)
      where
        go : FirstOfTwo r (header_refusal body) (or_else pilots (arena_refusal body size)) → ValidationStops body size r
        go (by_first_is h) = header_stops h
        go (by_second z s) = after_header z (two_only r pilots (arena_refusal body size) s)

  -- the number of the answer is the refusal
  validate_number : number_of (validate_of body size) ≡ validation_refusal body size
  unfolding validate_of named
  validate_number = go (validation_refusal body size) refl
    where
      go : (n : ℕ) → validation_refusal body size ≡ n → number_of (answered {A = Unit {0}} n (record {})) ≡ n
      go zero e = refl
      go (suc n) e = let b = stops_between (refusal_stops (suc n) (omega arith) e) in number_named 11 (suc n) refl b.0 (omega (arith, b.1))

  module _ (r : ℕ) (is : 0 < r) where
    -- THEOREM: validation gives a number above 0 only for its cause
    pub validate_cause : number_of (validate_of body size) ≡ r → ValidationStops body size r
    validate_cause e = refusal_stops r is (sym validate_number ∙ e)

    header_refused : FirstOfTwo r (magic_refusal body) dimensions → validation_refusal body size ≡ r
    unfolding validation_refusal header_refusal
    header_refused f = two_given r _ _ is (by_first_is (two_given r _ _ is f))

  -- a cause has a number above 0
  stops_some : {r : ℕ} → ValidationStops body size r → 0 < r
  stops_some (magic_wrong f) = first_positive (magic_numbered body) f
  stops_some (dimensions_wrong n f) = first_positive (dimensions_numbered body) f
  stops_some (pilot_past h e i l q) = omega arith
  stops_some (arena_stops c w) = walk_some (slot_refusal body) body (Some size) w

  stops_refusal : {r : ℕ} → ValidationStops body size r → validation_refusal body size ≡ r
  unfolding validation_refusal magic_refusal
  stops_refusal {r} s = go s (stops_some s)
    where
      go : ValidationStops body size r → 0 < r → validation_refusal body size ≡ r
      go (magic_wrong f) is = header_refused r is (by_first_is (first_given f))
      go (dimensions_wrong n f) is = header_refused r is (by_second (none_given n) (first_given f))
      go (pilot_past h e i l q) is =
          let s = past_pilots body (keys_in body) 0 (buckets_in body) (record { number = i; from = omega arith; low = omega (arith, l); past = q }) in
          two_given r _ _ is (by_second h (two_given r _ _ is (by_first_is (s ∙ sym e))))
      go (arena_stops c w) is =
          two_given r _ _ is (by_second c.header (two_given r _ _ is (by_second c.pilots (stops_walk (slot_refusal body) body (Some size) (arena_in body) (arena_in body) (keys_in body) w))))

  -- THEOREM: and wherever that cause stands
  pub cause_validate : (r : ℕ) → ValidationStops body size r → number_of (validate_of body size) ≡ r
  cause_validate r s = validate_number ∙ stops_refusal s
