-- What is promised of reading: on a body that validation accepts, get is the lookup in its table and value that record's part of the data;
-- a body with right header, pilots and slots over a table that keeps the rules is accepted; each call's result is fixed. Assumes nothing.
use Rattle.std.specs.Prelude.{Some, Ok}
use Prim.Native.Nat.{ℕ, ◌+◌, ◌<◌}
use native.Mathlib.Omega.{arith}
use mathlib.Core.Path.{◌≡◌, refl, sym, ap, ◌∙◌}
use mathlib.Core.List.{List, ◌++◌}
use mathlib.Core.Option.{Option, none, some}
use mathlib.Core.Logic.{⊎_elim}
use lib.ListN.{length, take, drop, take-append-drop}
use lib.Seq.{length-take-le}
use Rattle.words.specs.Field.{AllBytes}
use Rattle.numbers.specs.declared.Refusal.{Refusal}
use Rattle.mixing.specs.Mixing.{hash_of}
use Rattle.layout.specs.Layout.{header_refusal, seed_in, keys_in, buckets_in, arena_in}
use Rattle.layout.proofs.HeaderLaws.{headed}
use Rattle.records.specs.Limits.{Limit}
use Rattle.records.specs.declared.Record.{Record}
use Rattle.records.specs.Walk.{Walk}
use Rattle.records.specs.Model.{Entry, table_bytes, records_of, greatest, lookup}
use Rattle.records.specs.Places.{versions_from, entry_place}
use Rattle.records.specs.Tables.{RecordRules, TableRules}
use Rattle.records.specs.Walk.{walk_from}
use Rattle.records.specs.Within.{found_of}
use Rattle.records.proofs.ModelLaws.{greatest_has}
use Rattle.records.proofs.ReadLaws.{versions_rules}
use Rattle.records.proofs.WithinLaws.{search_greatest}
use Rattle.records.proofs.Theorems.{walk_last}
use Rattle.point.specs.declared.Answer.{Answer}
use Rattle.point.specs.declared.Answer.TheVariants.{Found, Nothing, Refused}
use Rattle.point.specs.Validate.{pilots_refusal, slot_refusal, arena_refusal, validate_of}
use Rattle.point.specs.Get.{answer_of, get_of, part_of, value_of, start_of, ValuePost}
use Rattle.point.specs.Lookup.{Newest, NoneWithin}
use Rattle.point.specs.Table.{table_of, key_place, body_key, key_slot, Belongs, answer_to}
use Rattle.point.proofs.GetLaws.{from_open, from_nothing}
use Rattle.point.proofs.ValidateLaws.{accepted, slot_right}
use Rattle.point.proofs.SlotLaws.{key_entered, holds_table}
use Rattle.point.proofs.LookupLaws.{lookup_some, lookup_none, lookup_finds, lookup_misses}
use Rattle.point.proofs.OpenLaws.{versions_of, KeyOpened, KeyMissing, opening_is}

-- ---- get

-- a record inside the data is answered
answer_inside : (size : ℕ) (o : Option Record) → ((r : Record) → o ≡ some r → RecordRules (Some size) r) → answer_of size (found_of o) ≡ answer_to o
unfolding answer_of
answer_inside size none h = refl
answer_inside size (some r) h = rw (h r refl).inside

module _ (body : List ℕ) (size : ℕ) (ok : validate_of body size ≡ Ok (record {})) (all : AllBytes body) (key : List ℕ) (limit : Limit) where
  get_opened : KeyOpened body key → get_of body size key limit ≡ answer_to (lookup (table_of body) key limit)
  unfolding get_of lookup
  get_opened o =
      let v = versions_of body o.index in
      let e = key_entered body size ok o.index o.low in
      let s = search_greatest body limit (Some size) v.count v.first v.first e.rules.versions in
      let u = versions_rules body (Some size) all v.count v.first v.first e.rules.versions in
      from_open body size limit _ v _ o.opening refl
      ∙ ap (answer_of size) s
      ∙ answer_inside size (greatest limit (versions_from body v.first v.count)) (λ r. greatest_has {P = RecordRules (Some size)} limit (versions_from body v.first v.count) r u)
      ∙ ap (λ (rs : List Record). answer_to (greatest limit rs)) (sym o.records)

  get_missing : KeyMissing body key → get_of body size key limit ≡ answer_to (lookup (table_of body) key limit)
  unfolding get_of lookup greatest
  get_missing m = from_nothing body size limit _ m.opening ∙ ap (λ (rs : List Record). answer_to (greatest limit rs)) (sym m.records)

  -- THEOREM: get is the lookup in the body's table
  pub get_is_lookup : get_of body size key limit ≡ answer_to (lookup (table_of body) key limit)
  get_is_lookup = ⊎_elim get_opened get_missing (opening_is body size ok all key)

  -- THEOREM: get finds a record exactly where it is the key's record of greatest sequence within the limit
  pub get_found : (r : Record) → get_of body size key limit ≡ Found r → Newest limit (records_of (table_of body) key) r
  get_found r e = go (lookup (table_of body) key limit) refl (sym get_is_lookup ∙ e)
    where
      go : (o : Option Record) → lookup (table_of body) key limit ≡ o → answer_to o ≡ Found r → Newest limit (records_of (table_of body) key) r
      go none q f = absurd (let z : ◌≡◌ {A = ℕ} 0 1 = cc in omega arith)
      go (some s) q f = let d : s ≡ r = cc in lookup_some (table_of body) key limit r (q ∙ ap some d)

  pub get_finds : (r : Record) → Newest limit (records_of (table_of body) key) r → get_of body size key limit ≡ Found r
  get_finds r n = get_is_lookup ∙ ap answer_to (lookup_finds (table_of body) key limit (Some size) r (holds_table body size ok all).rules n)

  -- THEOREM: get answers nothing exactly where none of the key's records is within the limit
  pub get_nothing_found : get_of body size key limit ≡ Nothing → NoneWithin limit (records_of (table_of body) key)
  get_nothing_found e = go (lookup (table_of body) key limit) refl (sym get_is_lookup ∙ e)
    where
      go : (o : Option Record) → lookup (table_of body) key limit ≡ o → answer_to o ≡ Nothing → NoneWithin limit (records_of (table_of body) key)
      go none q f = lookup_none (table_of body) key limit q
      go (some s) q f = absurd (let z : ◌≡◌ {A = ℕ} 0 1 = cc in omega arith)

  pub get_misses : NoneWithin limit (records_of (table_of body) key) → get_of body size key limit ≡ Nothing
  get_misses n = get_is_lookup ∙ ap answer_to (lookup_misses (table_of body) key limit n)

  -- THEOREM: get never refuses an accepted body
  pub get_never_refuses : (r : Refusal) → get_of body size key limit ≡ Refused r → ⊥
  get_never_refuses r e = go (lookup (table_of body) key limit) (sym get_is_lookup ∙ e)
    where
      go : (o : Option Record) → answer_to o ≡ Refused r → ⊥
      go none f = let z : ◌≡◌ {A = ℕ} 0 1 = cc in omega arith
      go (some s) f = let z : ◌≡◌ {A = ℕ} 0 1 = cc in omega arith

-- THEOREM: value hands back that record's part of the lent data, at its place there
pub value_is_part : {body bytes key : List ℕ} {limit : Limit} {lent : ℕ × ℕ} {part : List ℕ} {place : ℕ × ℕ} → ValuePost body bytes key limit lent part place
    → validate_of body (length bytes) ≡ Ok (record {}) → AllBytes body
    → (part ≡ part_of bytes (answer_to (lookup (table_of body) key limit))) × (place.0 ≡ lent.0) × (place.1 ≡ lent.1 + start_of (answer_to (lookup (table_of body) key limit)))
unfolding value_of
value_is_part {body} {bytes} {key} {limit} {lent} P ok all =
    let e = get_is_lookup body (length bytes) ok all key limit in
    (P.value ∙ ap (part_of bytes) e, P.block, P.start ∙ ap (λ (a : Answer). lent.1 + start_of a) e)

-- ---- the converse

-- a slot that is the key's passes 26
slot_passes : (body : List ℕ) (i : ℕ) → Belongs body (key_slot body (body_key body i)) i → slot_refusal body (key_place body i) ≡ 0
unfolding slot_refusal
slot_passes body i b =
    let p = b.place in
    slot_right body (hash_of (seed_in body) (body_key body i)) (key_place body i) _ _ _ refl refl refl (omega arith) _ _ refl refl b.fingerprint

-- THEOREM: a body that passes 20 to 22, whose arena is the bytes of a table that keeps the rules, and whose keys have their slots, is accepted
pub accepts : (body : List ℕ) (size : ℕ) (t : List Entry) → header_refusal body ≡ 0 → pilots_refusal body (keys_in body) 0 (buckets_in body) ≡ 0
    → length t ≡ keys_in body → drop (arena_in body) body ≡ table_bytes t → TableRules (Some size) t
    → ((i : ℕ) → i < keys_in body → Belongs body (key_slot body (body_key body i)) i) → validate_of body size ≡ Ok (record {})
unfolding key_place
accepts body size t h pl n e u slots =
    let d = headed body h in
    let xs = take (arena_in body) body in
    let q : body ≡ xs ++ table_bytes t = sym (take-append-drop (arena_in body) body) ∙ ap (λ (z : List ℕ). xs ++ z) e in
    let at : length xs ≡ arena_in body = length-take-le (arena_in body) body (omega arith) in
    let s : (i : ℕ) → i < length t → slot_refusal body (entry_place body (length xs) i) ≡ 0 =
    λ i l. ap (λ (a : ℕ). slot_refusal body (entry_place body a i)) at ∙ slot_passes body i (slots i (omega arith)) in
    let w : walk_from (slot_refusal body) (xs ++ table_bytes t) (Some size) (length xs) (length xs) (length t) ≡ record { keys = length t; end = length (xs ++ table_bytes t); rule = 0 } =
    walk_last (Some size) t u (slot_refusal body) xs (λ i l. ap (λ (z : List ℕ). slot_refusal body (entry_place z (length xs) i)) (sym q) ∙ s i l) in
    let a : arena_refusal body size ≡ 0 =
    ap (λ (m : ℕ). (walk_from (slot_refusal body) body (Some size) (arena_in body) (arena_in body) m).rule) (sym n)
    ∙ ap (λ (m : ℕ). (walk_from (slot_refusal body) body (Some size) m m (length t)).rule) (sym at)
    ∙ ap (λ (z : List ℕ). (walk_from (slot_refusal body) z (Some size) (length xs) (length xs) (length t)).rule) q
    ∙ ap (λ (x : Walk). x.rule) w in
    accepted body size (record { checked = record { header = h; pilots = pl }; arena = a })

-- the part that value hands back, its bytes and its place, is fixed
pub value_one : {body bytes key : List ℕ} {limit : Limit} {lent : ℕ × ℕ} {r s : List ℕ} {p q : ℕ × ℕ}
    → ValuePost body bytes key limit lent r p → ValuePost body bytes key limit lent s q → (r ≡ s) × (p ≡ q)
value_one P Q = (P.value ∙ sym Q.value, λ i. ((P.block ∙ sym Q.block) i, (P.start ∙ sym Q.start) i))
