-- Demand 3, "on any bytes that validation accepts for that data, each slot belongs to exactly one key, and asking for a key, with a sequence limit
-- or none, gives that key's record of greatest sequence within the limit, or nothing exactly when no such record stands in the list".
use Rattle.numbers.specs.declared.Refusal.{Refusal}
use Rattle.std.specs.Prelude.{Ok, ℕ, ◌+◌, ◌<◌, ◌≡◌, List, length}
use Rattle.words.specs.Field.{AllBytes}
use Rattle.layout.specs.Layout.{keys_in}
use Rattle.records.specs.Limits.{Limit}
use Rattle.records.specs.declared.Record.{Record}
use Rattle.records.specs.Model.{records_of, lookup}
use Rattle.point.specs.declared.Answer.TheVariants.{Found, Refused}
use Rattle.point.specs.Validate.{validate_of}
use Rattle.point.specs.Get.{get_of, part_of, start_of, ValuePost, answer_number}
use Rattle.point.specs.Table.{table_of, HoldsTable, Belongs, OneBelow, answer_to}
use Rattle.point.specs.Lookup.{Newest, NoneWithin}

-- asking a body for a key, under a limit
pub record Asking (body : List ℕ) (size : ℕ) (key : List ℕ) (limit : Limit) : Type 0 where
  -- it is the lookup in the body's table
  pub asked : get_of body size key limit ≡ answer_to (lookup (table_of body) key limit)
  -- a record is found exactly where it is the key's record of greatest sequence within the limit
  pub found_newest : (r : Record) → get_of body size key limit ≡ Found r → Newest limit (records_of (table_of body) key) r
  pub newest_found : (r : Record) → Newest limit (records_of (table_of body) key) r → get_of body size key limit ≡ Found r
  -- nothing (1) is answered exactly where no such record stands in the list
  pub nothing_within : answer_number (get_of body size key limit) ≡ 1 → NoneWithin limit (records_of (table_of body) key)
  pub none_nothing : NoneWithin limit (records_of (table_of body) key) → answer_number (get_of body size key limit) ≡ 1
  -- the body is never met as damaged (14)
  pub never_damaged : (r : Refusal) → get_of body size key limit ≡ Refused r → ⊥
  pub never_fourteen : answer_number (get_of body size key limit) ≡ 14 → ⊥

-- a body that is accepted for data of this size
pub record AcceptedBody (body : List ℕ) (size : ℕ) : Type 0 where
  -- it holds its table, and no other
  pub one_table_is : HoldsTable body size (table_of body)
  -- each slot belongs to exactly one key, and to each key exactly one slot
  pub slot_key : (s : ℕ) → s < keys_in body → OneBelow (keys_in body) (Belongs body s)
  pub key_slot_is : (i : ℕ) → i < keys_in body → OneBelow (keys_in body) (λ s. Belongs body s i)
  -- and it is asked like its table
  pub asking : (key : List ℕ) (limit : Limit) → Asking body size key limit

-- DEMAND 3, of any bytes that validation accepts
pub record OnAccepted : Type 0 where
  pub accepted : (body : List ℕ) (size : ℕ) → validate_of body size ≡ Ok (record {}) → AllBytes body → AcceptedBody body size
  -- the value handed back is the found record's part of the lent data, at its place there; or the data's first zero bytes
  pub value_part : {body bytes key : List ℕ} {limit : Limit} {lent : ℕ × ℕ} {part : List ℕ} {place : ℕ × ℕ} → ValuePost body bytes key limit lent part place
      → validate_of body (length bytes) ≡ Ok (record {}) → AllBytes body
      → (part ≡ part_of bytes (answer_to (lookup (table_of body) key limit))) × (place.0 ≡ lent.0) × (place.1 ≡ lent.1 + start_of (answer_to (lookup (table_of body) key limit)))
