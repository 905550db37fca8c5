-- On an accepted body: the arena is the bytes of one table, and each slot belongs to exactly one key, since n keys stand in n slots.
-- Assumes nothing.
use Rattle.std.specs.Prelude.{Some, Ok}
use Prim.Native.Nat.{ℕ, ◌+◌, ◌-◌, ◌<◌, ◌≤◌}
use native.Mathlib.Omega.{arith}
use mathlib.Core.Path.{◌≡◌, refl, sym, ap, ◌∙◌}
use mathlib.Core.List.{List}
use mathlib.Core.Bool.{false}
use lib.ListN.{length, drop, take, length-drop}
use lib.Seq.{take-length}
use borrow.Author.Tests.{ltb-false}
use Rattle.laws.proofs.EachLaws.{each_map}
use Rattle.laws.specs.Pigeonhole.{Hit}
use Rattle.laws.proofs.PigeonholeLaws.{onto}
use Rattle.words.specs.Field.{AllBytes}
use Rattle.layout.specs.Layout.{keys_in, arena_in, pilot_of, direct_past, slot_of, slot_place, record_offset}
use Rattle.layout.proofs.HeaderLaws.{headed, slot_low}
use Rattle.records.specs.declared.Record.{Record}
use Rattle.records.specs.Model.{Entry, table_bytes, Rises}
use Rattle.records.specs.Places.{entries_from, entry_place}
use Rattle.records.specs.Tables.{RecordRules, EntryRules, InData, EntryInData}
use Rattle.records.specs.Walk.{walk_from}
use Rattle.records.proofs.PassedLaws.{Passed, EnteredAt, place_up, place_apart, entries_count, passed_at, walk_passed, walk_ends, walk_whole}
use Rattle.records.proofs.ReadLaws.{passed_bytes, passed_rules, passed_rise}
use Rattle.records.proofs.StandsLaws.{passed_stand}
use Rattle.records.proofs.TableLaws.{table_fits}
use Rattle.records.proofs.WriteLaws.{table_unique}
use Rattle.point.specs.Validate.{slot_refusal, validate_of}
use Rattle.point.specs.Table.{table_of, key_place, body_key, key_slot, HoldsTable, Belongs, OneBelow}
use Rattle.point.specs.Inner.Stands.{TableStands}
use Rattle.point.proofs.ValidateLaws.{validation_passed, checked_near, slotted}

-- ---- the table

record_in : (size : ℕ) (r : Record) → RecordRules (Some size) r → InData size r
record_in size r k = ltb-false size (r.offset + r.length) k.inside

entry_in : (size : ℕ) (e : Entry) → EntryRules (Some size) e → EntryInData size e
entry_in size e k = each_map (record_in size) e.versions k.versions

module _ (body : List ℕ) (size : ℕ) (ok : validate_of body size ≡ Ok (record {})) where
  walked : ((walk_from (slot_refusal body) body (Some size) (arena_in body) (arena_in body) (keys_in body)).keys ≡ keys_in body) × ((walk_from (slot_refusal body) body (Some size) (arena_in body) (arena_in body) (keys_in body)).end ≡ length body)
  walked = walk_whole (slot_refusal body) body (Some size) (arena_in body) (arena_in body) (keys_in body) (validation_passed body size ok).arena

  -- every key of the body passed
  pub keys_passed : Passed (slot_refusal body) body (Some size) (arena_in body) (arena_in body) (keys_in body)
  keys_passed = rw walked.0 at (walk_passed (slot_refusal body) body (Some size) (arena_in body) (arena_in body) (keys_in body))

  keys_end : entry_place body (arena_in body) (keys_in body) ≡ length body
  keys_end = sym (ap (entry_place body (arena_in body)) walked.0) ∙ sym (walk_ends (slot_refusal body) body (Some size) (arena_in body) (arena_in body) (keys_in body)) ∙ walked.1

  -- its keys rise
  pub accepted_rises : Rises (table_of body)
  unfolding table_of
  accepted_rises = passed_rise (arena_in body) (arena_in body) (keys_in body) keys_passed

  -- THEOREM: the entries of an accepted body stand
  pub accepted_stands : TableStands body
  accepted_stands = let h = headed body (validation_passed body size ok).checked.header in record { long = h.long; arena = omega arith; all = passed_stand keys_passed }

  -- THEOREM: an accepted body holds its table
  pub holds_table : AllBytes body → HoldsTable body size (table_of body)
  unfolding table_of
  holds_table all =
      let d = headed body (validation_passed body size ok).checked.header in
      let b = passed_bytes body (Some size) all (slot_refusal body) (arena_in body) (arena_in body) (keys_in body) (omega arith) keys_passed in
      let l : length (drop (arena_in body) body) ≡ entry_place body (arena_in body) (keys_in body) - arena_in body = simp (length-drop, keys_end) in
      let whole : drop (arena_in body) body ≡ table_bytes (entries_from body (arena_in body) (keys_in body)) =
      sym (take-length (drop (arena_in body) body))
      ∙ ap (λ (n : ℕ). take n (drop (arena_in body) body)) l
      ∙ b in
      let rules = passed_rules (arena_in body) (arena_in body) (keys_in body) all keys_passed in
      record {
        count = entries_count body (arena_in body) (keys_in body);
        bytes = whole;
        only = λ s f e. table_unique s _ f (table_fits (Some size) _ rules) (sym e ∙ whole);
        rules = rules;
        inside = each_map (entry_in size) _ rules.entries;
      }

  -- ---- the slots

  pub key_entered : (i : ℕ) → i < keys_in body → EnteredAt (slot_refusal body) body (Some size) (key_place body i)
  unfolding key_place
  key_entered i l = passed_at i l keys_passed

  key_up : (i : ℕ) → arena_in body ≤ key_place body i
  unfolding key_place
  key_up i = place_up body (arena_in body) i

  key_apart : (i j : ℕ) → key_place body i ≡ key_place body j → i ≡ j
  unfolding key_place
  key_apart i j e = place_apart body (arena_in body) i j e

  -- no hash's pilot is past the end, so every key has a slot
  pub hash_near : (h : ℕ) → direct_past (keys_in body) (pilot_of body h) ≡ false
  hash_near h = checked_near body h (validation_passed body size ok).checked

  pub hash_slot : (h : ℕ) → slot_of body h < keys_in body
  hash_slot h = slot_low body h (headed body (validation_passed body size ok).checked.header) (hash_near h)

  pub key_belongs : (i : ℕ) → i < keys_in body → Belongs body (key_slot body (body_key body i)) i
  key_belongs i l =
      let s = slotted body (key_place body i) (key_entered i l).rules.slot in
      let u = key_up i in
      let o = s.offset in
      record { slot = refl; place = omega arith; fingerprint = s.fingerprint }

  -- no two keys have one slot
  pub slots_apart : (i j : ℕ) → i < keys_in body → j < keys_in body → key_slot body (body_key body i) ≡ key_slot body (body_key body j) → i ≡ j
  slots_apart i j li lj e =
      key_apart i j
      (sym (key_belongs i li).place ∙ ap (λ (s : ℕ). arena_in body + record_offset body (slot_place body s)) e ∙ (key_belongs j lj).place)

  pub slot_hit : (s : ℕ) → s < keys_in body → Hit (keys_in body) (λ i. key_slot body (body_key body i)) s
  slot_hit s l = onto (keys_in body) (λ i. key_slot body (body_key body i)) (record { below = λ i m. hash_slot _; apart = slots_apart }) s l

  -- THEOREM: each slot belongs to exactly one key
  pub slot_owner : (s : ℕ) → s < keys_in body → OneBelow (keys_in body) (Belongs body s)
  slot_owner s l =
      let t = slot_hit s l in
      record {
        number = t.index;
        low = t.low;
        has = rw t.is at (key_belongs t.index t.low);
        only = λ j m b. slots_apart j t.index m t.low (b.slot ∙ sym t.is);
      }

  -- THEOREM: and to each key exactly one slot
  pub owner_slot : (i : ℕ) → i < keys_in body → OneBelow (keys_in body) (λ s. Belongs body s i)
  owner_slot i l =
      record { number = key_slot body (body_key body i); low = hash_slot _; has = key_belongs i l; only = λ s m b. sym b.slot }
