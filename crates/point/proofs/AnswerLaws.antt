-- What locating, opening and getting answer, by number and values: 14 exactly where each meets damage, 0 exactly where it leads to its
-- values, else 1; and what is not located or not opened is the answer. Assumes nothing.
use Rattle.std.specs.Prelude.{None, Some}
use Prim.Native.Nat.{ℕ, zero, suc, ◌+◌, ◌<◌, ◌≤◌}
use native.Mathlib.Omega.{arith}
use mathlib.Core.Path.{◌≡◌, refl, sym, ap, ◌∙◌}
use mathlib.Core.List.{List, [], ◌∷◌}
use mathlib.Core.Bool.{Bool, true, false, cond}
use mathlib.Core.Logic.{◌⊎◌, inl, inr}
use lib.Dec.{ltb, eqb}
use lib.ListN.{length}
use borrow.Author.Tests.{ltb-true, ltb-false, eqb-true, eqb-false, lt-ltb, le-ltb, eq-eqb}
use Rattle.words.specs.Part.{same_as}
use Rattle.numbers.specs.declared.Refusal.TheVariants as refusal
use Rattle.mixing.specs.Mixing.{hash_of, fingerprint_of}
use Rattle.layout.specs.Layout.{seed_in, keys_in, arena_in, header_refusal, pilot_of, direct_past, slot_place, record_offset, fingerprint_low}
use Rattle.records.specs.Limits.{Limit}
use Rattle.records.specs.declared.Record.{Record}
use Rattle.records.specs.declared.Within.{Within}
use Rattle.records.specs.declared.Within.TheVariants as within
use Rattle.records.specs.Model.{within as holds, kind_byte}
use Rattle.records.specs.Places.{key_at, first_version, version_count, sequence_at, kind_at, record_at}
use Rattle.records.specs.Rules.{bad_kind}
use Rattle.records.specs.Cursor.{head_of, head_at, version_at}
use Rattle.records.specs.Within.{within_or, first_within}
use Rattle.records.proofs.CursorLaws.{head_short, head_cut}
use Rattle.point.specs.declared.Versions.{Versions}
use Rattle.point.specs.declared.Located.{Located}
use Rattle.point.specs.declared.Located.TheVariants as located
use Rattle.point.specs.declared.Opened.{Opened}
use Rattle.point.specs.declared.Opened.TheVariants as opened
use Rattle.point.specs.declared.Answer.{Answer}
use Rattle.point.specs.declared.Answer.TheVariants.{Found, Nothing, Refused}
use Rattle.point.specs.Get.{locate_hash, locate_of, open_head, open_record_of, open_at, open_of, first_for, answer_of, answer_from, get_of, located_number, located_values, opened_number, opened_values, answer_number, answer_values}
use Rattle.point.specs.Table.{key_slot}
use Rattle.point.specs.Causes.{Leads, RecordOpens, Opens, LocatingDamaged, RecordDamaged, OpeningDamaged, VersionDamaged, DamageMet}
use Rattle.point.specs.Causes.LocatingDamaged.{header_damaged, pilot_damaged, start_outside}
use Rattle.point.specs.Causes.RecordDamaged.{header_outside, key_outside}
use Rattle.point.specs.Causes.OpeningDamaged.{locating_damaged, record_damaged}
use Rattle.point.specs.Causes.VersionDamaged.{outside, bad_kind_is, later}
use Rattle.point.specs.Causes.DamageMet.{opening_damaged, version_damaged, value_outside}
use Rattle.point.proofs.GetLaws.{locate_refused, record_head, record_whole, answer_past}

-- the versions of the record at a place
abbrev here : List ℕ → ℕ → Versions
here body p = record { first = first_version body p; count = version_count body p }

-- how a call ends: with a value (0), with nothing (1), or by damage (14)
data Outcome {A : Type 0} (number : A → ℕ) (Value Nought : A → Type 0) (Damage : Type 0) (a : A) : Type 0 where
  valued : number a ≡ 0 → Value a → Outcome number Value Nought Damage a
  empty : number a ≡ 1 → Nought a → Outcome number Value Nought Damage a
  damaged : number a ≡ 14 → Damage → Outcome number Value Nought Damage a

module _ {A : Type 0} {number : A → ℕ} {Value Nought : A → Type 0} {Damage : Type 0} {a : A} where
  by_value : Outcome number Value Nought Damage a → number a ≡ 0 → Value a
  by_value (valued z v) e = v
  by_value (empty z n) e = absurd (omega arith)
  by_value (damaged z d) e = absurd (omega arith)

  by_nought : Outcome number Value Nought Damage a → number a ≡ 1 → Nought a
  by_nought (valued z v) e = absurd (omega arith)
  by_nought (empty z n) e = n
  by_nought (damaged z d) e = absurd (omega arith)

  by_damage : Outcome number Value Nought Damage a → number a ≡ 14 → Damage
  by_damage (valued z v) e = absurd (omega arith)
  by_damage (empty z n) e = absurd (omega arith)
  by_damage (damaged z d) e = d

  by_numbers : Outcome number Value Nought Damage a → (number a ≡ 0) ⊎ ((number a ≡ 1) ⊎ (number a ≡ 14))
  by_numbers (valued z v) = inl z
  by_numbers (empty z n) = inr (inl z)
  by_numbers (damaged z d) = inr (inr z)

-- ---- locating

module _ (body key : List ℕ) where
  abbrev asked : ℕ
  asked = hash_of (seed_in body) key

  abbrev slot : ℕ
  slot = slot_place body (key_slot body key)

  abbrev named : ℕ
  named = arena_in body + record_offset body slot

  -- where the slot leads, by the four tests: header, pilot, fingerprint, place
  abbrev located_by : (a b c d : Bool) → Located
  located_by a b c d = cond a (cond b located.Damaged (cond c (cond d located.Damaged (located.At named)) located.Nothing)) located.Damaged

  leading : eqb (header_refusal body) 0 ≡ true → direct_past (keys_in body) (pilot_of body asked) ≡ false → eqb (fingerprint_low body slot) (fingerprint_of asked) ≡ true → Leads body key named
  leading h q f = record { header = eqb-true _ _ h; pilot = q; fingerprint = eqb-true _ _ f; place = refl }

  -- what locating leads to
  abbrev Place : Located → Type 0
  Place l = (p : ℕ) × (Leads body key p × (p ≤ length body) × (located_values l ≡ p ∷ []))

  abbrev Locates : Located → Type 0
  Locates = Outcome located_number Place (λ l. l ≡ located.Nothing) (LocatingDamaged body key)

  locates : Locates (locate_of body key)
  unfolding locate_of locate_hash
  locates = go (eqb (header_refusal body) 0) (direct_past (keys_in body) (pilot_of body asked)) (eqb (fingerprint_low body slot) (fingerprint_of asked)) (ltb (length body) named) refl refl refl refl
    where
      go : (a b c d : Bool) → eqb (header_refusal body) 0 ≡ a → direct_past (keys_in body) (pilot_of body asked) ≡ b
          → eqb (fingerprint_low body slot) (fingerprint_of asked) ≡ c → ltb (length body) named ≡ d → Locates (located_by a b c d)
      go false b c d qa qb qc qd = damaged refl (header_damaged (eqb-false _ _ qa))
      go true true c d qa qb qc qd = damaged refl (pilot_damaged (eqb-true _ _ qa) qb)
      go true false false d qa qb qc qd = empty refl refl
      go true false true true qa qb qc qd = damaged refl (start_outside named (leading qa qb qc) (ltb-true _ _ qd))
      go true false true false qa qb qc qd = valued refl (named, (leading qa qb qc, ltb-false _ _ qd, refl))

  leads_at : (p : ℕ) → Leads body key p → p ≤ length body → locate_of body key ≡ located.At p
  unfolding locate_of locate_hash
  leads_at p l h =
      rw (eq-eqb (header_refusal body) 0 l.header, l.pilot, eq-eqb (fingerprint_low body slot) (fingerprint_of asked) l.fingerprint, l.place, le-ltb (length body) p h)

  damage_located : LocatingDamaged body key → locate_of body key ≡ located.Damaged
  unfolding locate_of locate_hash
  damage_located (header_damaged n) = locate_refused body key (header_refusal body) refl n
  damage_located (pilot_damaged h q) = rw (eq-eqb (header_refusal body) 0 h, q)
  damage_located (start_outside p l h) =
      rw (eq-eqb (header_refusal body) 0 l.header, l.pilot, eq-eqb (fingerprint_low body slot) (fingerprint_of asked) l.fingerprint, l.place, lt-ltb (length body) p h)

  -- THEOREM: locating gives 14 exactly where it meets damage
  pub locate_cause : located_number (locate_of body key) ≡ 14 → LocatingDamaged body key
  locate_cause = by_damage locates

  pub cause_locate : LocatingDamaged body key → located_number (locate_of body key) ≡ 14
  cause_locate d = ap located_number (damage_located d)

  -- THEOREM: it gives 0, and a place inside the body, exactly where the key's slot leads there
  pub locate_place : located_number (locate_of body key) ≡ 0 → (p : ℕ) × (Leads body key p × (p ≤ length body) × (located_values (locate_of body key) ≡ p ∷ []))
  locate_place = by_value locates

  pub place_locate : (p : ℕ) → Leads body key p → p ≤ length body → (located_number (locate_of body key) ≡ 0) × (located_values (locate_of body key) ≡ p ∷ [])
  place_locate p d h = let e = leads_at p d h in (ap located_number e, ap located_values e)

  -- THEOREM: else 1
  pub locate_numbers : (located_number (locate_of body key) ≡ 0) ⊎ ((located_number (locate_of body key) ≡ 1) ⊎ (located_number (locate_of body key) ≡ 14))
  locate_numbers = by_numbers locates

  -- ---- opening the record at a place

  module _ (p : ℕ) where
    -- what opening it leads to
    abbrev RecordOpensTo : Opened → Type 0
    RecordOpensTo =
        Outcome opened_number (λ o. RecordOpens body key p × (opened_values o ≡ first_version body p ∷ version_count body p ∷ [])) (λ o. o ≡ opened.Nothing) (RecordDamaged body p)

    record_opens : RecordOpensTo (open_record_of body p key)
    unfolding open_record_of head_at
    record_opens = go (ltb (length body) (p + 8)) (ltb (length body) (first_version body p)) refl refl
      where
        whole : (c : Bool) → same_as (key_at body p) key ≡ c → first_version body p ≤ length body → RecordOpensTo (cond c (opened.Open (here body p)) opened.Nothing)
        whole true q h = valued refl (record { whole = h; same = q }, refl)
        whole false q h = empty refl refl

        go : (a b : Bool) → ltb (length body) (p + 8) ≡ a → ltb (length body) (first_version body p) ≡ b
            → RecordOpensTo (open_head body p key (cond a None (cond b None (Some (head_of body p)))))
        go true b qa qb = damaged refl (header_outside (ltb-true _ _ qa))
        go false true qa qb = damaged refl (key_outside (ltb-false _ _ qa) (ltb-true _ _ qb))
        go false false qa qb = whole (same_as (key_at body p) key) refl (ltb-false _ _ qb)

    outside_opened : RecordDamaged body p → open_record_of body p key ≡ opened.Damaged
    outside_opened (header_outside h) = record_head body key p _ (sym (head_short body p h))
    outside_opened (key_outside h q) = record_head body key p _ (sym (head_cut body p h q))

    -- THEOREM: opening the record at a place gives 14 exactly where its header or its key is outside the body
    pub record_cause : opened_number (open_record_of body p key) ≡ 14 → RecordDamaged body p
    record_cause = by_damage record_opens

    pub cause_record : RecordDamaged body p → opened_number (open_record_of body p key) ≡ 14
    cause_record d = ap opened_number (outside_opened d)

    -- THEOREM: it gives 0, where the first version stands and how many there are, exactly where the record there is the key's
    pub record_versions : opened_number (open_record_of body p key) ≡ 0 → RecordOpens body key p × (opened_values (open_record_of body p key) ≡ first_version body p ∷ version_count body p ∷ [])
    record_versions = by_value record_opens

    pub versions_record : RecordOpens body key p → (opened_number (open_record_of body p key) ≡ 0) × (opened_values (open_record_of body p key) ≡ first_version body p ∷ version_count body p ∷ [])
    versions_record o = let e = record_whole body key p o.whole true o.same in (ap opened_number e, ap opened_values e)

    -- THEOREM: else 1
    pub record_numbers : (opened_number (open_record_of body p key) ≡ 0) ⊎ ((opened_number (open_record_of body p key) ≡ 1) ⊎ (opened_number (open_record_of body p key) ≡ 14))
    record_numbers = by_numbers record_opens

  -- ---- opening a key

  -- THEOREM: what is not located is opening's answer
  pub locate_open : (n : ℕ) → located_number (locate_of body key) ≡ suc n → opened_number (open_of body key) ≡ suc n
  unfolding open_of
  locate_open n = go (locate_of body key)
    where
      go : (l : Located) → located_number l ≡ suc n → opened_number (open_at body key l) ≡ suc n
      go (located.At p) e = absurd (omega arith)
      go located.Nothing e = e
      go located.Damaged e = e

  open_at_lem : (p : ℕ) → locate_of body key ≡ located.At p → open_of body key ≡ open_record_of body p key
  unfolding open_of
  open_at_lem p e = rw e

  unlocated_nothing : locate_of body key ≡ located.Nothing → open_of body key ≡ opened.Nothing
  unfolding open_of
  unlocated_nothing e = rw e

  unlocated : LocatingDamaged body key → open_of body key ≡ opened.Damaged
  unfolding open_of
  unlocated d = rw (damage_located d)

  damaged_record : (p : ℕ) → Leads body key p → RecordDamaged body p → open_of body key ≡ opened.Damaged
  damaged_record p l d = go (ltb (length body) p) refl
    where
      go : (b : Bool) → ltb (length body) p ≡ b → open_of body key ≡ opened.Damaged
      go true q = unlocated (start_outside p l (ltb-true _ _ q))
      go false q = open_at_lem p (leads_at p l (ltb-false _ _ q)) ∙ outside_opened p d

  damage_opened : OpeningDamaged body key → open_of body key ≡ opened.Damaged
  damage_opened (locating_damaged d) = unlocated d
  damage_opened (record_damaged p l d) = damaged_record p l d

  opens_at : (p : ℕ) → Opens body key p → open_of body key ≡ opened.Open (here body p)
  opens_at p o =
      let w = o.opens.whole in
      open_at_lem p (leads_at p o.leads (omega arith)) ∙ record_whole body key p w true o.opens.same

  -- what opening leads to
  abbrev OpensTo : Opened → Type 0
  OpensTo =
      Outcome opened_number (λ o. (p : ℕ) × (Opens body key p × (opened_values o ≡ first_version body p ∷ version_count body p ∷ []))) (λ o. o ≡ opened.Nothing) (OpeningDamaged body key)

  opens : OpensTo (open_of body key)
  opens = go locates
    where
      led : (p : ℕ) → Leads body key p → {o : Opened} → RecordOpensTo p o → OpensTo o
      led p l (valued z d) = valued z (p, (record { leads = l; opens = d.0 }, d.1))
      led p l (empty z n) = empty z n
      led p l (damaged z d) = damaged z (record_damaged p l d)

      go : Locates (locate_of body key) → OpensTo (open_of body key)
      go (valued z (p, (l, h, v))) = rw (open_at_lem p (leads_at p l h)) (led p l (record_opens p))
      go (empty z n) = empty (locate_open 0 z) (unlocated_nothing n)
      go (damaged z d) = damaged (locate_open 13 z) (locating_damaged d)

  -- THEOREM: opening gives 14 exactly where it meets damage
  pub open_cause : opened_number (open_of body key) ≡ 14 → OpeningDamaged body key
  open_cause = by_damage opens

  pub cause_open : OpeningDamaged body key → opened_number (open_of body key) ≡ 14
  cause_open d = ap opened_number (damage_opened d)

  -- THEOREM: it gives 0, where the first version stands and how many there are, exactly where the key's record opens
  pub open_record : opened_number (open_of body key) ≡ 0 → (p : ℕ) × (Opens body key p × (opened_values (open_of body key) ≡ first_version body p ∷ version_count body p ∷ []))
  open_record = by_value opens

  pub record_open : (p : ℕ) → Opens body key p → (opened_number (open_of body key) ≡ 0) × (opened_values (open_of body key) ≡ first_version body p ∷ version_count body p ∷ [])
  record_open p o = let e = opens_at p o in (ap opened_number e, ap opened_values e)

  -- THEOREM: else 1
  pub open_numbers : (opened_number (open_of body key) ≡ 0) ⊎ ((opened_number (open_of body key) ≡ 1) ⊎ (opened_number (open_of body key) ≡ 14))
  open_numbers = by_numbers opens

-- what is not located, or not opened, has no values
pub unlocated_values : (l : Located) → 0 < located_number l → located_values l ≡ []
unlocated_values (located.At p) h = absurd (omega arith)
unlocated_values located.Nothing h = refl
unlocated_values located.Damaged h = refl

pub unopened_values : (o : Opened) → 0 < opened_number o → opened_values o ≡ []
unopened_values (opened.Open v) h = absurd (omega arith)
unopened_values opened.Nothing h = refl
unopened_values opened.Damaged h = refl

-- ---- getting

-- a damaged version among those visited, both ways
first_damaged : (body : List ℕ) (limit : Limit) (p k : ℕ) → first_within body limit p k ≡ within.Damaged → VersionDamaged body limit p k
unfolding first_within version_at record_at
first_damaged body limit p zero e = absurd (let z : ◌≡◌ {A = ℕ} 0 1 = cc in omega arith)
first_damaged body limit p (suc k) e = go (ltb (length body) (p + 21)) (bad_kind (kind_at body p)) refl refl (first_damaged body limit (p + 21) k) e
  where
    behind : (c : Bool) → p + 21 ≤ length body → bad_kind (kind_at body p) ≡ false → holds limit (sequence_at body p) ≡ c
        → (first_within body limit (p + 21) k ≡ within.Damaged → VersionDamaged body limit (p + 21) k)
        → cond c (within.Found (record_at body p)) (first_within body limit (p + 21) k) ≡ within.Damaged → VersionDamaged body limit p (suc k)
    behind true h q s rest f = absurd (let z : ◌≡◌ {A = ℕ} 0 1 = cc in omega arith)
    behind false h q s rest f = later h q s (rest f)

    go : (a b : Bool) → ltb (length body) (p + 21) ≡ a → bad_kind (kind_at body p) ≡ b
        → (first_within body limit (p + 21) k ≡ within.Damaged → VersionDamaged body limit (p + 21) k)
        → within_or limit (cond a None (cond b None (Some (record_at body p)))) (first_within body limit (p + 21) k) ≡ within.Damaged → VersionDamaged body limit p (suc k)
    go true b qa qb rest f = outside (ltb-true _ _ qa)
    go false true qa qb rest f = bad_kind_is (ltb-false _ _ qa) qb
    go false false qa qb rest f = behind (holds limit (sequence_at body p)) (ltb-false _ _ qa) qb refl rest f

damaged_first : (body : List ℕ) (limit : Limit) (p k : ℕ) → VersionDamaged body limit p k → first_within body limit p k ≡ within.Damaged
unfolding first_within version_at record_at
damaged_first body limit p zero d = elim d [ ]
damaged_first body limit p (suc k) (outside h) = rw (lt-ltb (length body) (p + 21) h)
damaged_first body limit p (suc k) (bad_kind_is h q) = rw (le-ltb (length body) (p + 21) h, q)
damaged_first body limit p (suc k) (later h q s v) = rw (le-ltb (length body) (p + 21) h, q, s) (damaged_first body limit (p + 21) k v)

module _ (body : List ℕ) (size : ℕ) (key : List ℕ) (limit : Limit) where
  open_damaged : OpensTo body key (open_of body key) → first_for body (open_of body key) limit ≡ within.Damaged → DamageMet body size key limit
  unfolding first_for
  open_damaged (valued z (p, (d, v))) f =
      version_damaged p d (first_damaged body limit (first_version body p) (version_count body p) (sym (ap (λ (o : Opened). first_for body o limit) (opens_at body key p d)) ∙ f))
  open_damaged (empty z n) f = absurd (let q = sym (ap (λ (o : Opened). first_for body o limit) n) ∙ f in let y : ◌≡◌ {A = ℕ} 0 1 = cc in omega arith)
  open_damaged (damaged z d) f = opening_damaged d

  -- what getting leads to
  abbrev GetsTo : Answer → Type 0
  GetsTo = Outcome answer_number (λ a. (r : Record) × (a ≡ Found r)) (λ a. a ≡ Nothing) (DamageMet body size key limit)

  gets : GetsTo (get_of body size key limit)
  unfolding get_of answer_of
  gets = go (first_for body (open_of body key) limit) refl
    where
      inside : (r : Record) → first_for body (open_of body key) limit ≡ within.Found r → (b : Bool) → ltb size (r.offset + r.length) ≡ b → GetsTo (cond b (Refused refusal.Damage) (Found r))
      inside r e true q = damaged refl (value_outside r e (ltb-true _ _ q))
      inside r e false q = valued refl (r, refl)

      go : (w : Within) → first_for body (open_of body key) limit ≡ w → GetsTo (answer_of size w)
      go (within.Found r) e = inside r e (ltb size (r.offset + r.length)) refl
      go within.Nothing e = empty refl refl
      go within.Damaged e = damaged refl (open_damaged (opens body key) e)

  unopened : OpeningDamaged body key → get_of body size key limit ≡ Refused refusal.Damage
  unfolding get_of first_for answer_of
  unopened d = rw (damage_opened body key d)

  version_refused : (p : ℕ) → Opens body key p → VersionDamaged body limit (first_version body p) (version_count body p) → get_of body size key limit ≡ Refused refusal.Damage
  unfolding get_of first_for answer_of
  version_refused p o d =
      ap (λ (x : Opened). answer_from body size x limit) (opens_at body key p o)
      ∙ ap (answer_of size) (damaged_first body limit (first_version body p) (version_count body p) d)

  pub damage_gets : DamageMet body size key limit → get_of body size key limit ≡ Refused refusal.Damage
  unfolding get_of
  damage_gets (opening_damaged d) = unopened d
  damage_gets (version_damaged p o v) = version_refused p o v
  damage_gets (value_outside r e h) = ap (answer_of size) e ∙ answer_past size _ r refl _ refl (lt-ltb size (r.offset + r.length) h)

  -- THEOREM: get gives 14 exactly where it meets damage
  pub get_cause : answer_number (get_of body size key limit) ≡ 14 → DamageMet body size key limit
  get_cause = by_damage gets

  pub cause_get : DamageMet body size key limit → answer_number (get_of body size key limit) ≡ 14
  cause_get d = ap answer_number (damage_gets d)

  -- THEOREM: it gives 0, and kind, sequence, offset and length, exactly for a record found
  pub get_record : answer_number (get_of body size key limit) ≡ 0 → (r : Record) × (get_of body size key limit ≡ Found r)
  get_record = by_value gets

  pub record_get : (r : Record) → get_of body size key limit ≡ Found r
      → (answer_number (get_of body size key limit) ≡ 0) × (answer_values (get_of body size key limit) ≡ kind_byte r.kind ∷ r.sequence ∷ r.offset ∷ r.length ∷ [])
  record_get r e = (ap answer_number e, ap answer_values e)

  -- THEOREM: it gives 1 exactly for nothing
  pub get_nothing : answer_number (get_of body size key limit) ≡ 1 → get_of body size key limit ≡ Nothing
  get_nothing = by_nought gets

  pub nothing_get : get_of body size key limit ≡ Nothing → answer_number (get_of body size key limit) ≡ 1
  nothing_get e = ap answer_number e

  -- THEOREM: and no other number
  pub get_numbers : (answer_number (get_of body size key limit) ≡ 0) ⊎ ((answer_number (get_of body size key limit) ≡ 1) ⊎ (answer_number (get_of body size key limit) ≡ 14))
  get_numbers = by_numbers gets

  -- THEOREM: what is not opened is get's answer
  pub open_get : (n : ℕ) → opened_number (open_of body key) ≡ suc n → answer_number (get_of body size key limit) ≡ suc n
  unfolding get_of first_for answer_of
  open_get n = go (open_of body key)
    where
      go : (o : Opened) → opened_number o ≡ suc n → answer_number (answer_of size (first_for body o limit)) ≡ suc n
      go (opened.Open v) e = absurd (omega arith)
      go opened.Nothing e = e
      go opened.Damaged e = e
