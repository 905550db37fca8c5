-- On an accepted body, the opening of a key finds its versions, or nothing where it is no key of the body; and the records of a key in the
-- body's table. Assumes nothing.
use Rattle.std.specs.Prelude.{Ok}
use Prim.Native.Nat.{ℕ, zero, suc, ◌+◌, ◌<◌}
use native.Mathlib.Nat.{not-suc-le-zero}
use native.Mathlib.Omega.{arith}
use mathlib.Core.Path.{◌≡◌, refl, sym, ap, ◌∙◌}
use mathlib.Core.List.{List, [], append-nil}
use mathlib.Core.Bool.{Bool, true, false}
use mathlib.Core.Logic.{◌⊎◌, inl, inr, ⊎_elim}
use borrow.Author.Tests.{leb-false}
use Rattle.laws.proofs.Cases.{eq_or_ne}
use Rattle.laws.specs.Pigeonhole.{Hit}
use Rattle.words.specs.Part.{same_as}
use Rattle.words.proofs.Laws.{le_lt, le_join}
use Rattle.words.specs.Field.{AllBytes}
use Rattle.words.proofs.Ordered.{same_equal, same_self}
use Rattle.mixing.specs.Mixing.{hash_of, fingerprint_of, fingerprint_of_lt}
use Rattle.layout.specs.Layout.{seed_in, keys_in, arena_in, slot_place, record_offset, fingerprint_low, fingerprint_wide}
use Rattle.layout.proofs.HeaderLaws.{headed, slot_inside}
use Rattle.records.specs.Model.{records_of}
use Rattle.records.specs.Places.{key_at, first_version, version_count, next_entry, versions_from, entry_at, entries_from, entry_place}
use Rattle.point.specs.declared.Versions.{Versions}
use Rattle.point.specs.declared.Located.TheVariants as located
use Rattle.point.specs.declared.Opened.TheVariants as opened
use Rattle.point.specs.Validate.{validate_of}
use Rattle.point.specs.Get.{locate_of, open_of}
use Rattle.point.specs.Table.{table_of, key_place, body_key, key_slot}
use Rattle.point.proofs.GetLaws.{locate_on, locate_other, locate_at, open_is, record_whole}
use Rattle.point.proofs.ValidateLaws.{validation_passed}
use Rattle.point.proofs.SlotLaws.{key_entered, key_belongs, hash_near, hash_slot, slots_apart, slot_hit}

-- the versions of the i-th key
abbrev pub versions_of : List ℕ → ℕ → Versions
versions_of body i = record { first = first_version body (key_place body i); count = version_count body (key_place body i) }

module _ (body : List ℕ) (size : ℕ) (ok : validate_of body size ≡ Ok (record {})) (all : AllBytes body) (key : List ℕ) where
  -- the key's slot, which belongs to some key
  owner : Hit (keys_in body) (λ i. key_slot body (body_key body i)) (key_slot body key)
  owner = slot_hit body size ok (key_slot body key) (hash_slot body size ok (hash_of (seed_in body) key))

  module _ (i : ℕ) (l : i < keys_in body) (q : key_slot body (body_key body i) ≡ key_slot body key) where
    place_is : arena_in body + record_offset body (slot_place body (key_slot body key)) ≡ key_place body i
    place_is = ap (λ (s : ℕ). arena_in body + record_offset body (slot_place body s)) (sym q) ∙ (key_belongs body size ok i l).place

    -- the low 16 bits of a right fingerprint are the fingerprint
    fingerprint_is : fingerprint_low body (slot_place body (key_slot body key)) ≡ fingerprint_of (hash_of (seed_in body) (body_key body i))
    fingerprint_is =
        let d = headed body (validation_passed body size ok).checked.header in
        let s = slot_inside body (hash_of (seed_in body) key) d (hash_near body size ok (hash_of (seed_in body) key)) in
        let e : fingerprint_wide body (slot_place body (key_slot body key)) ≡ fingerprint_of (hash_of (seed_in body) (body_key body i)) =
        ap (λ (t : ℕ). fingerprint_wide body (slot_place body t)) (sym q) ∙ (key_belongs body size ok i l).fingerprint in
        let j = le_join 2 2 body (slot_place body (key_slot body key) + 8) (omega arith) in
        let b = fingerprint_of_lt (hash_of (seed_in body) (body_key body i)) in
        let a = le_lt 2 body (slot_place body (key_slot body key) + 8) all in
        omega arith

    located_at : fingerprint_low body (slot_place body (key_slot body key)) ≡ fingerprint_of (hash_of (seed_in body) key) → locate_of body key ≡ located.At (key_place body i)
    located_at f =
        let p = place_is in
        let k = (key_entered body size ok i l).rules.key in
        locate_on body key _ refl (validation_passed body size ok).checked.header
        ∙ locate_at body (hash_of (seed_in body) key) _ _ refl refl (leb-false _ _ (hash_near body size ok (hash_of (seed_in body) key))) _ _ _ refl refl refl _ _ f refl refl (omega arith)
        ∙ ap located.At p

    located_nothing : (fingerprint_low body (slot_place body (key_slot body key)) ≡ fingerprint_of (hash_of (seed_in body) key) → ⊥) → locate_of body key ≡ located.Nothing
    located_nothing n =
        locate_on body key _ refl (validation_passed body size ok).checked.header
        ∙ locate_other body (hash_of (seed_in body) key) _ _ refl refl (leb-false _ _ (hash_near body size ok (hash_of (seed_in body) key))) _ _ _ refl refl refl n

    -- the owner has the key
    open_found : same_as (body_key body i) key ≡ true → open_of body key ≡ opened.Open (versions_of body i)
    open_found e =
        let k = (key_entered body size ok i l).rules.key in
        let f : fingerprint_low body (slot_place body (key_slot body key)) ≡ fingerprint_of (hash_of (seed_in body) key) =
        fingerprint_is ∙ ap (λ (x : List ℕ). fingerprint_of (hash_of (seed_in body) x)) (same_equal (body_key body i) key e) in
        open_is body key _ (sym (located_at f)) ∙ record_whole body key (key_place body i) k.whole true e

    -- the owner has another key
    open_nothing : same_as (body_key body i) key ≡ false → open_of body key ≡ opened.Nothing
    open_nothing e =
        let k = (key_entered body size ok i l).rules.key in
        ⊎_elim
        (λ (f : fingerprint_low body (slot_place body (key_slot body key)) ≡ fingerprint_of (hash_of (seed_in body) key)).
        open_is body key _ (sym (located_at f)) ∙ record_whole body key (key_place body i) k.whole false e)
        (λ (n : fingerprint_low body (slot_place body (key_slot body key)) ≡ fingerprint_of (hash_of (seed_in body) key) → ⊥). open_is body key _ (sym (located_nothing n)))
        (eq_or_ne (fingerprint_low body (slot_place body (key_slot body key))) (fingerprint_of (hash_of (seed_in body) key)))

    -- no key of the body but the owner has the key
    others : (j : ℕ) → j < keys_in body → (j ≡ i → ⊥) → same_as (body_key body j) key ≡ false
    others j m n = go (same_as (body_key body j) key) refl
      where
        go : (t : Bool) → same_as (body_key body j) key ≡ t → t ≡ false
        go true e = absurd (n (slots_apart body size ok j i m l (ap (key_slot body) (same_equal (body_key body j) key e) ∙ sym q)))
        go false e = refl

-- ---- the records of a key

module _ (body key : List ℕ) where
  records_none : (p k : ℕ) → ((i : ℕ) → i < k → same_as (key_at body (entry_place body p i)) key ≡ false) → records_of (entries_from body p k) key ≡ []
  unfolding records_of entries_from entry_at entry_place
  records_none p zero h = refl
  records_none p (suc k) h = rw (h zero (omega arith)) (records_none (next_entry body p) k (λ i l. h (suc i) (omega arith)))

  records_one : (p k i : ℕ) → i < k → same_as (key_at body (entry_place body p i)) key ≡ true
      → ((j : ℕ) → j < k → (j ≡ i → ⊥) → same_as (key_at body (entry_place body p j)) key ≡ false)
      → records_of (entries_from body p k) key ≡ versions_from body (first_version body (entry_place body p i)) (version_count body (entry_place body p i))
  unfolding records_of entries_from entry_at entry_place
  records_one p zero i l e h = absurd (not-suc-le-zero l)
  records_one p (suc k) zero l e h = rw (e, records_none (next_entry body p) k (λ j m. h (suc j) (omega arith) (λ z. omega arith)), append-nil)
  records_one p (suc k) (suc i) l e h =
      rw (h zero (omega arith) (λ z. omega arith)) (records_one (next_entry body p) k i (omega arith) e (λ j m n. h (suc j) (omega arith) (λ z. n (omega arith))))

-- ---- the opening

-- the i-th key is this one, the opening finds its versions, and they are the key's records in the table
pub record KeyOpened (body key : List ℕ) : Type 0 where
  pub index : ℕ
  pub low : index < keys_in body
  pub same : body_key body index ≡ key
  pub opening : open_of body key ≡ opened.Open (versions_of body index)
  pub records : records_of (table_of body) key ≡ versions_from body (versions_of body index).first (versions_of body index).count

-- no key of the body is this one, the opening finds nothing, and the table has no record of it
pub record KeyMissing (body key : List ℕ) : Type 0 where
  pub absent : (i : ℕ) → i < keys_in body → body_key body i ≡ key → ⊥
  pub opening : open_of body key ≡ opened.Nothing
  pub records : records_of (table_of body) key ≡ []

module _ (body : List ℕ) (size : ℕ) (ok : validate_of body size ≡ Ok (record {})) (all : AllBytes body) (key : List ℕ) where
  opening_found : (t : Hit (keys_in body) (λ i. key_slot body (body_key body i)) (key_slot body key)) → same_as (body_key body t.index) key ≡ true → KeyOpened body key
  unfolding table_of key_place
  opening_found t e =
      record {
        index = t.index;
        low = t.low;
        same = same_equal (body_key body t.index) key e;
        opening = open_found body size ok all key t.index t.low t.is e;
        records = records_one body key (arena_in body) (keys_in body) t.index t.low e (others body size ok all key t.index t.low t.is);
      }

  opening_missing : (t : Hit (keys_in body) (λ i. key_slot body (body_key body i)) (key_slot body key)) → same_as (body_key body t.index) key ≡ false → KeyMissing body key
  unfolding table_of key_place
  opening_missing t e =
      record {
        absent = λ i l s. absurd (let u = none i l in let v : same_as (body_key body i) key ≡ true = ap (same_as (body_key body i)) (sym s) ∙ same_self (body_key body i) in let z : ◌≡◌ {A = ℕ} 0 1 = cc in omega arith);
        opening = open_nothing body size ok all key t.index t.low t.is e;
        records = records_none body key (arena_in body) (keys_in body) none;
      }
    where
      none : (i : ℕ) → i < keys_in body → same_as (body_key body i) key ≡ false
      none i l =
          ⊎_elim (λ (z : i ≡ t.index). rw z e) (λ (n : i ≡ t.index → ⊥). others body size ok all key t.index t.low t.is i l n) (eq_or_ne i t.index)

  -- THEOREM: a key is opened exactly where it is a key of the body
  pub opening_is : KeyOpened body key ⊎ KeyMissing body key
  opening_is = go (same_as (body_key body (owner body size ok all key).index) key) refl
    where
      go : (b : Bool) → same_as (body_key body (owner body size ok all key).index) key ≡ b → KeyOpened body key ⊎ KeyMissing body key
      go true e = inl (opening_found (owner body size ok all key) e)
      go false e = inr (opening_missing (owner body size ok all key) e)
