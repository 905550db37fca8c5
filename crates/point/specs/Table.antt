-- The table that a body holds: the record list that its arena stands for; and whose a slot is.
use Rattle.std.specs.Prelude.{ℕ, ◌+◌, ◌<◌, ◌≡◌, List, length, drop, Some}
use Rattle.std.proofs.Math.Option.{Option, none, some}
use Rattle.mixing.specs.Mixing.{hash_of, fingerprint_of}
use Rattle.layout.specs.Layout.{seed_in, keys_in, arena_in, slot_of, slot_place, record_offset, fingerprint_wide}
use Rattle.records.specs.declared.Record.{Record}
use Rattle.records.specs.Model.{Entry, table_bytes}
use Rattle.records.specs.Places.{key_at, entries_from, entry_place}
use Rattle.records.specs.Tables.{TableFits, TableRules, TableInData}
use Rattle.point.specs.declared.Answer.{Answer}
use Rattle.point.specs.declared.Answer.TheVariants.{Found, Nothing}

-- the table of a body
unfoldable pub table_of : List ℕ → List Entry
table_of body = entries_from body (arena_in body) (keys_in body)

-- where the i-th key of a body stands, and the key
unfoldable pub key_place : List ℕ → ℕ → ℕ
key_place body i = entry_place body (arena_in body) i

abbrev pub body_key : List ℕ → ℕ → List ℕ
body_key body i = key_at body (key_place body i)

-- the slot of a key
abbrev pub key_slot : List ℕ → List ℕ → ℕ
key_slot body key = slot_of body (hash_of (seed_in body) key)

-- a body holds a table: the arena is the table's bytes and no other's; its keys rise, its sequences fall (the rules), and its records lie
-- inside data of this size
pub record HoldsTable (body : List ℕ) (size : ℕ) (table : List Entry) : Type 0 where
  pub count : length table ≡ keys_in body
  pub bytes : drop (arena_in body) body ≡ table_bytes table
  pub only : (other : List Entry) → TableFits other → drop (arena_in body) body ≡ table_bytes other → other ≡ table
  pub rules : TableRules (Some size) table
  pub inside : TableInData size table

-- slot s belongs to the i-th key: the key's hash leads to it, it names the key's place, and it holds the key's fingerprint
pub record Belongs (body : List ℕ) (s i : ℕ) : Type 0 where
  pub slot : key_slot body (body_key body i) ≡ s
  pub place : arena_in body + record_offset body (slot_place body s) ≡ key_place body i
  pub fingerprint : fingerprint_wide body (slot_place body s) ≡ fingerprint_of (hash_of (seed_in body) (body_key body i))

-- there is exactly one number below n with a property
pub record OneBelow (n : ℕ) (P : ℕ → Type 0) : Type 0 where
  pub number : ℕ
  pub low : number < n
  pub has : P number
  pub only : (other : ℕ) → other < n → P other → other ≡ number

-- the answer that a lookup in the table gives
abbrev pub answer_to : Option Record → Answer
answer_to none = Nothing
answer_to (some r) = Found r
