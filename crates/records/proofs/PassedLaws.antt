-- The keys that pass in a row, and where they stand; the walk passes such a row, and any such row is passed by the walk. Assumes nothing.
use Prim.Native.Nat.{ℕ, zero, suc, ◌<◌, ◌≤◌}
use native.Mathlib.Nat.{not-suc-le-zero, eq-or-lt_of_le}
use native.Mathlib.Omega.{arith}
use mathlib.Core.Path.{◌≡◌, refl, sym, ap}
use mathlib.Core.List.{List}
use mathlib.Core.Bool.{Bool, true, false, cond}
use mathlib.Core.Logic.{⊎_elim}
use lib.ListN.{length, get_or}
use lib.Dec.{eqb}
use borrow.Author.Tests.{eqb-true, eqb-false}
use Rattle.laws.proofs.Cases.{lt_or_ge}
use Rattle.records.specs.Limits.{DataLength}
use Rattle.records.specs.Walk.{Walk}
use Rattle.records.specs.Model.{Entry}
use Rattle.records.specs.Places.{next_entry, entry_at, entries_from, entry_place}
use Rattle.records.specs.Rules.{entry_refusal}
use Rattle.records.specs.Walk.{passed, walk_from}
use Rattle.records.proofs.RuleLaws.{Entered, entered, key_short, entry_passes, entry_key}

-- n keys pass in a row from p on, after the entry at prev
pub data Passed (slots : ℕ → ℕ) (bytes : List ℕ) (test : DataLength) : (prev p n : ℕ) → Type 0 where
  passed_none : {prev p : ℕ} → Passed slots bytes test prev p 0
  passed_more : {prev p n : ℕ} → Entered slots bytes test prev p → Passed slots bytes test p (next_entry bytes p) n → Passed slots bytes test prev p (suc n)

-- the entry at p keeps the rules, after some place
pub record EnteredAt (slots : ℕ → ℕ) (bytes : List ℕ) (test : DataLength) (p : ℕ) : Type 0 where
  pub prev : ℕ
  pub rules : Entered slots bytes test prev p

-- a walk was stopped by the rule that the entry at its end breaks
pub record Stopped (slots : ℕ → ℕ) (bytes : List ℕ) (test : DataLength) (w : Walk) : Type 0 where
  pub prev : ℕ
  pub broken : w.rule ≡ entry_refusal slots bytes test prev w.end
  pub refused : w.rule ≡ 0 → ⊥

-- ---- where the entries stand

pub place_up : (bytes : List ℕ) (p i : ℕ) → p ≤ entry_place bytes p i
unfolding entry_place
place_up bytes p zero = omega arith
place_up bytes p (suc i) = omega (arith, place_up bytes (next_entry bytes p) i)

-- places rise
pub place_rises : (bytes : List ℕ) (p i j : ℕ) → i < j → entry_place bytes p i < entry_place bytes p j
unfolding entry_place
place_rises bytes p i zero l = absurd (not-suc-le-zero l)
place_rises bytes p zero (suc j) l = omega (arith, place_up bytes (next_entry bytes p) j)
place_rises bytes p (suc i) (suc j) l = place_rises bytes (next_entry bytes p) i j (omega arith)

-- no two entries stand at one place
pub place_apart : (bytes : List ℕ) (p i j : ℕ) → entry_place bytes p i ≡ entry_place bytes p j → i ≡ j
place_apart bytes p i j e =
    ⊎_elim (λ (l : i < j). absurd (let z = place_rises bytes p i j l in omega arith))
    (λ (h : j ≤ i).
    ⊎_elim (λ (q : j ≡ i). sym q) (λ (l : j < i). absurd (let z = place_rises bytes p j i l in omega arith)) (eq-or-lt_of_le h))
    (lt_or_ge i j)

-- one place more
pub place_next : (bytes : List ℕ) (p i : ℕ) → entry_place bytes p (suc i) ≡ next_entry bytes (entry_place bytes p i)
unfolding entry_place
place_next bytes p zero = refl
place_next bytes p (suc i) = place_next bytes (next_entry bytes p) i

-- as many entries as are read, and the i-th of them stands at its place
pub entries_count : (bytes : List ℕ) (p k : ℕ) → length (entries_from bytes p k) ≡ k
unfolding entries_from
entries_count bytes p zero = refl
entries_count bytes p (suc k) = ap suc (entries_count bytes (next_entry bytes p) k)

pub entries_at : (bytes : List ℕ) (d : Entry) (p k i : ℕ) → i < k → get_or (entries_from bytes p k) i d ≡ entry_at bytes (entry_place bytes p i)
unfolding entries_from entry_place
entries_at bytes d p zero i l = absurd (not-suc-le-zero l)
entries_at bytes d p (suc k) zero l = refl
entries_at bytes d p (suc k) (suc i) l = entries_at bytes d (next_entry bytes p) k i (omega arith)

-- ---- a row of keys that pass

module _ {slots : ℕ → ℕ} {bytes : List ℕ} {test : DataLength} where
  -- it ends inside the bytes
  pub passed_end : {prev p n : ℕ} → Passed slots bytes test prev p n → p ≤ length bytes → entry_place bytes p n ≤ length bytes
  unfolding entry_place
  passed_end passed_none h = h
  passed_end (passed_more e r) h = passed_end r e.next

  -- each of its entries keeps the rules
  pub passed_at : {prev p n : ℕ} (i : ℕ) → i < n → Passed slots bytes test prev p n → EnteredAt slots bytes test (entry_place bytes p i)
  unfolding entry_place
  passed_at i l passed_none = absurd (not-suc-le-zero l)
  passed_at {prev} zero l (passed_more e r) = record { prev = prev; rules = e }
  passed_at (suc i) l (passed_more e r) = passed_at i (omega arith) r

-- ---- the walk

module _ (slots : ℕ → ℕ) (bytes : List ℕ) (test : DataLength) where
  -- the walk from the entry after the one at p, and the walk from p by whether the entry there passes
  abbrev pub rest : (p k : ℕ) → Walk
  rest p k = walk_from slots bytes test p (next_entry bytes p) k

  abbrev pub stepped : (prev p k : ℕ) → Bool → Walk
  stepped prev p k b = cond b (passed (rest p k)) (record { keys = 0; end = p; rule = entry_refusal slots bytes test prev p })

  -- what the walk says it passed has passed
  pub walk_passed : (prev p k : ℕ) → Passed slots bytes test prev p (walk_from slots bytes test prev p k).keys
  unfolding walk_from
  walk_passed prev p zero = passed_none
  walk_passed prev p (suc k) = go (eqb (entry_refusal slots bytes test prev p) 0) refl (walk_passed p (next_entry bytes p) k)
    where
      go : (b : Bool) → eqb (entry_refusal slots bytes test prev p) 0 ≡ b → Passed slots bytes test p (next_entry bytes p) (rest p k).keys
          → Passed slots bytes test prev p (stepped prev p k b).keys
      go true e r = passed_more (entered slots bytes test prev p (eqb-true _ _ e)) r
      go false e r = passed_none

  -- and ends at the place after the last whole key
  pub walk_ends : (prev p k : ℕ) → (walk_from slots bytes test prev p k).end ≡ entry_place bytes p (walk_from slots bytes test prev p k).keys
  unfolding walk_from entry_place
  walk_ends prev p zero = refl
  walk_ends prev p (suc k) = go (eqb (entry_refusal slots bytes test prev p) 0) (walk_ends p (next_entry bytes p) k)
    where
      go : (b : Bool) → (rest p k).end ≡ entry_place bytes (next_entry bytes p) (rest p k).keys
          → (stepped prev p k b).end ≡ entry_place bytes p (stepped prev p k b).keys
      go true r = r
      go false r = refl

  -- a walk that no rule stopped has passed all its keys, to the end of the bytes
  pub walk_whole : (prev p k : ℕ) → (walk_from slots bytes test prev p k).rule ≡ 0 → ((walk_from slots bytes test prev p k).keys ≡ k) × ((walk_from slots bytes test prev p k).end ≡ length bytes)
  unfolding walk_from
  walk_whole prev p zero e = go (eqb p (length bytes)) refl e
    where
      go : (b : Bool) → eqb p (length bytes) ≡ b → cond {A = ℕ} b 0 30 ≡ 0 → (◌≡◌ {A = ℕ} 0 0) × (p ≡ length bytes)
      go true q z = (refl, eqb-true p (length bytes) q)
      go false q z = absurd (omega arith)
  walk_whole prev p (suc k) e = go (eqb (entry_refusal slots bytes test prev p) 0) refl (walk_whole p (next_entry bytes p) k) e
    where
      go : (b : Bool) → eqb (entry_refusal slots bytes test prev p) 0 ≡ b
          → ((rest p k).rule ≡ 0 → ((rest p k).keys ≡ k) × ((rest p k).end ≡ length bytes))
          → (stepped prev p k b).rule ≡ 0
          → ((stepped prev p k b).keys ≡ suc k) × ((stepped prev p k b).end ≡ length bytes)
      go true q ih z = (ap suc (ih z).0, (ih z).1)
      go false q ih z = absurd (eqb-false _ _ q z)

  -- a walk that passed all its keys was stopped by bytes left over, or by nothing
  pub walk_done : (prev p k : ℕ) → (walk_from slots bytes test prev p k).keys ≡ k → (walk_from slots bytes test prev p k).rule ≡ cond (eqb (walk_from slots bytes test prev p k).end (length bytes)) 0 30
  unfolding walk_from
  walk_done prev p zero e = refl
  walk_done prev p (suc k) e = go (eqb (entry_refusal slots bytes test prev p) 0) (walk_done p (next_entry bytes p) k) e
    where
      go : (b : Bool) → ((rest p k).keys ≡ k → (rest p k).rule ≡ cond (eqb (rest p k).end (length bytes)) 0 30)
          → (stepped prev p k b).keys ≡ suc k
          → (stepped prev p k b).rule ≡ cond (eqb (stepped prev p k b).end (length bytes)) 0 30
      go true ih q = ih (omega arith)
      go false ih q = absurd (omega arith)

  -- a walk that passed fewer was stopped by the rule that the next entry breaks
  pub walk_stopped : (prev p k : ℕ) → (walk_from slots bytes test prev p k).keys < k → Stopped slots bytes test (walk_from slots bytes test prev p k)
  unfolding walk_from
  walk_stopped prev p zero l = absurd (not-suc-le-zero l)
  walk_stopped prev p (suc k) l = go (eqb (entry_refusal slots bytes test prev p) 0) refl (walk_stopped p (next_entry bytes p) k) l
    where
      go : (b : Bool) → eqb (entry_refusal slots bytes test prev p) 0 ≡ b
          → ((rest p k).keys < k → Stopped slots bytes test (rest p k))
          → (stepped prev p k b).keys < suc k
          → Stopped slots bytes test (stepped prev p k b)
      go true q ih m = let s = ih (omega arith) in record { prev = s.prev; broken = s.broken; refused = s.refused }
      go false q ih m = record { prev = prev; broken = refl; refused = eqb-false _ _ q }

  -- n keys that pass are passed by a walk of n keys
  pub passed_walk : {prev p n : ℕ} → Passed slots bytes test prev p n
      → walk_from slots bytes test prev p n ≡ record { keys = n; end = entry_place bytes p n; rule = cond (eqb (entry_place bytes p n) (length bytes)) 0 30 }
  unfolding walk_from entry_place
  passed_walk passed_none = refl
  passed_walk {prev} {p} (passed_more e r) =
      rw (entry_passes slots bytes test prev p e.key e.slot e.versions) (ap passed (passed_walk r))

  -- n keys that pass and end with the bytes are what a walk of n keys or more passes
  pub passed_whole : {prev p n : ℕ} (most : ℕ) → Passed slots bytes test prev p n → n ≤ most → entry_place bytes p n ≡ length bytes
      → ((walk_from slots bytes test prev p most).keys ≡ n) × ((walk_from slots bytes test prev p most).end ≡ length bytes)
  unfolding walk_from entry_place
  passed_whole zero passed_none h e = (refl, e)
  passed_whole {prev} {p} (suc k) passed_none h e =
      let s : 23 ≡ entry_refusal slots bytes test prev p = entry_key slots bytes test prev p 23 (key_short bytes prev p (omega arith)) (λ z. omega arith) in
      rw (← s) (refl, e)
  passed_whole zero (passed_more t r) h e = absurd (not-suc-le-zero h)
  passed_whole {prev} {p} (suc k) (passed_more t r) h e =
      let w = passed_whole {prev = p} {p = next_entry bytes p} k r (omega arith) e in
      rw (entry_passes slots bytes test prev p t.key t.slot t.versions) (ap suc w.0, w.1)
