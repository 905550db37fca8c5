-- Taken lists. A list that keeps the rules is taken, a taken list keeps them, and it stays taken where its buffer grows. And the error that
-- started this project: a tool added the versions of a corrected wash oldest first, nothing checked it, and a lookup gave the withdrawn
-- figure. No call that meets add's contract takes such a version, as a new key or as a continued one.
use Rattle.numbers.specs.Numbers.{number_of}
use Rattle.std.specs.Prelude.{ℕ, ◌≤◌, ◌<◌, ◌≡◌, List, length, take, None}
use Rattle.laws.specs.Each.{Each}
use Rattle.words.specs.Field.{AllBytes}
use Rattle.numbers.specs.Limits.{most_keys, most_value_bytes}
use Rattle.records.specs.declared.Kind.TheVariants.{Tombstone}
use Rattle.records.specs.declared.Record.{Record}
use Rattle.records.specs.Model.{Entry, table_bytes, records_of}
use Rattle.records.specs.Tables.{TableRules}
use Rattle.builder.specs.declared.PointBuilder.{PointBuilder}
use Rattle.builder.specs.Add.{Added}
use Rattle.builder.specs.Add.{Call, AddPost}
use Rattle.builder.specs.Taken.{ending, KeyBytes, TakenList, TakenInto, TakenFacts}

-- what a taken list keeps: the rules of keys and versions, and at most 65,536 keys; the state fits and counts them; the used bytes are its arena
-- (`TakenFacts`). Its keys are bytes, and so is the arena
pub record TakenKept (s : PointBuilder) (buffer : List ℕ) (list : List Entry) : Type 0 where
  pub facts : TakenFacts s buffer list
  pub keys : Each KeyBytes list
  pub bytes : AllBytes (take s.used buffer)

pub record TakenLists : Type 0 where
  -- a list that keeps the rules of keys and versions, of at most 65,536 keys, is taken into any buffer that its bytes fit in
  pub list_taken : (list : List Entry) → TableRules None list → Each KeyBytes list → length list ≤ most_keys
      → (buffer : List ℕ) → length (table_bytes list) ≤ length buffer → TakenInto buffer list
  -- a taken list keeps them
  pub taken_kept : {s : PointBuilder} {buffer : List ℕ} {list : List Entry} → TakenList s buffer list → TakenKept s buffer list
  -- a host that meets 6 grows the buffer: with the used bytes copied to the front of another one the list is taken there, as it was
  pub list_grown : {s : PointBuilder} {buffer : List ℕ} {list : List Entry} → TakenList s buffer list
      → (grown : List ℕ) → take s.used grown ≡ take s.used buffer → TakenList s grown list

-- the error that started this project
pub record NeverOldestFirst : Type 0 where
  -- of whichever key, a call adds a record to a taken list only where it is older than every record of that key in the list
  pub added_older : {s : PointBuilder} {buffer : List ℕ} {list : List Entry} {call : Call} {r : Added} {after : List ℕ}
      → TakenList s buffer list → AddPost s buffer call r after → number_of r ≡ 0 → Each (λ v. call.sequence < v.sequence) (records_of list call.key)
  -- to a taken list whose last record is `last`, of the call's key, no call adds a record of this key whose sequence is not below that one's,
  -- whatever its kind and size, and the buffer stays as it was
  pub never_oldest_first : {s : PointBuilder} {buffer : List ℕ} (front : List Entry) (before : List Record) (last : Record) {call : Call} {r : Added} {after : List ℕ}
      → TakenList s buffer (ending front call.key before last) → last.sequence ≤ call.sequence
      → AddPost s buffer call r after → ((number_of r ≡ 0) → ⊥) × (after ≡ buffer)
  -- where neither 2 nor 3 comes first, it is refused with 4
  pub oldest_first_four : {s : PointBuilder} {buffer : List ℕ} (front : List Entry) (before : List Record) (last : Record) {call : Call} {r : Added} {after : List ℕ}
      → TakenList s buffer (ending front call.key before last) → last.sequence ≤ call.sequence → call.size ≤ most_value_bytes → (call.kind ≡ Tombstone → call.size ≡ 0)
      → AddPost s buffer call r after → (number_of r ≡ 4) × (after ≡ buffer)
