-- Taken lists: the tables whose records went in from the empty state, each call on the last answered state and on one buffer that
-- nothing else writes (document 01, "Calls").
use Rattle.std.specs.Prelude.{ℕ, ◌-◌, ◌^◌, ◌≤◌, ◌<◌, ◌≡◌, true, cond, List, [], ◌∷◌, ◌++◌, length, get_or, take, drop, None, Ok}
use Rattle.numbers.specs.Limits.{most_keys}
use Rattle.records.specs.declared.Record.{Record}
use Rattle.records.specs.Model.{Entry, table_bytes}
use Rattle.records.specs.Tables.{TableRules}
use Rattle.builder.specs.declared.PointBuilder.{PointBuilder}
use Rattle.builder.specs.State.{empty_builder, fits}
use Rattle.builder.specs.Add.{Call, record_of, new_entry, add_of, buffer_after_add}
use Rattle.builder.specs.SetOffset.{set_of, buffer_after_set}

-- an entry: a key with its versions
abbrev pub entry : List ℕ → List Record → Entry
entry key versions = record { key = key; versions = versions }

-- a table with a last record: the entries before the last one, and of that one the key, the versions before the last, and the last version
abbrev pub ending : List Entry → List ℕ → List Record → Record → List Entry
ending front key before last = front ++ (entry key (before ++ (last ∷ [])) ∷ [])

-- the key of an entry is bytes
abbrev pub KeyBytes : Entry → Type 0
KeyBytes e = (i : ℕ) → get_or e.key i 0 < 256

-- a list with its last element changed
unfoldable pub on_last : {A : Type 0} → (A → A) → List A → List A
on_last f [] = []
on_last f (x ∷ []) = f x ∷ []
on_last f (x ∷ y ∷ ys) = x ∷ on_last f (y ∷ ys)

-- a record at the end of an entry's versions
abbrev pub with_version : Record → Entry → Entry
with_version version e = record { key = e.key; versions = e.versions ++ (version ∷ []) }

-- a record with its offset set
abbrev pub with_offset : ℕ → Record → Record
with_offset offset r = record { kind = r.kind; sequence = r.sequence; offset = offset; length = r.length }

-- an entry with its last record's offset set
abbrev pub with_last_offset : ℕ → Entry → Entry
with_last_offset offset e = record { key = e.key; versions = on_last (with_offset offset) e.versions }

-- a table with one record more: a new entry at its end, or a version of the last entry
unfoldable pub table_after_add : List Entry → Call → List Entry
table_after_add table call =
    cond call.new_key (table ++ (new_entry call.key (record_of call) ∷ [])) (on_last (with_version (record_of call)) table)

-- a table with the last record's offset set
unfoldable pub table_after_set : List Entry → (offset : ℕ) → List Entry
table_after_set table offset = on_last (with_last_offset offset) table

-- the state, the buffer and the table of a list that is taken: the empty builder, a record added with offset 0, the last record's offset set
pub data TakenList : PointBuilder → List ℕ → List Entry → Type 0 where
  taken_none : {buffer : List ℕ} → TakenList empty_builder buffer []
  taken_added : {s next : PointBuilder} {buffer : List ℕ} {table : List Entry} {place : ℕ} (call : Call)
      → TakenList s buffer table → ((i : ℕ) → get_or call.key i 0 < 256) → call.sequence < 2 ^ 64
      → add_of s buffer call ≡ Ok (next, place)
      → TakenList next (buffer_after_add s buffer call) (table_after_add table call)
  taken_set : {s : PointBuilder} {buffer : List ℕ} {table : List Entry} (place offset : ℕ)
      → TakenList s buffer table → offset < 2 ^ 64
      → set_of s buffer place ≡ Ok (record {})
      → TakenList s (buffer_after_set s buffer place offset) (table_after_set table offset)

-- a list that is taken into a buffer: its length is kept, and nothing behind the used bytes is changed
pub record TakenInto (buffer : List ℕ) (table : List Entry) : Type 0 where
  pub state : PointBuilder
  pub after : List ℕ
  pub taken : TakenList state after table
  pub behind : drop state.used after ≡ drop state.used buffer
  pub whole : length after ≡ length buffer

-- what a taken list is: its state fits and counts its keys, its used bytes are the bytes of its table, and its table keeps the rules of keys and versions
pub record TakenFacts (s : PointBuilder) (buffer : List ℕ) (table : List Entry) : Type 0 where
  pub fitting : fits s buffer ≡ true
  pub bytes : take s.used buffer ≡ table_bytes table
  pub counted : s.keys ≡ length table
  pub few : length table ≤ most_keys
  pub rules : TableRules None table

-- the state that a table fixes: used, its bytes; keys, its entries; head, where its last entry begins
abbrev pub state_for : List Entry → PointBuilder
state_for table = record { used = length (table_bytes table); keys = length table; head = length (table_bytes (take (length table - 1) table)) }
