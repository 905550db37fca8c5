-- The rules as propositions on records, entries and tables (document 01, "Validation"), what fits the bytes that it is written in, and what a walk has read.
use Rattle.std.specs.Prelude.{ℕ, ◌+◌, ◌-◌, ◌^◌, ◌<◌, ◌≤◌, false, List, ◌≡◌, length, take, drop}
use Rattle.laws.specs.Each.{Each}
use Rattle.numbers.specs.Limits.{most_key_bytes, most_value_bytes}
use Rattle.records.specs.declared.Kind.TheVariants.{Tombstone}
use Rattle.records.specs.declared.Record.{Record}
use Rattle.records.specs.Limits.{DataLength}
use Rattle.records.specs.Walk.{Walk}
use Rattle.records.specs.Model.{Entry, table_bytes, Falls, Rises}
use Rattle.records.specs.Places.{entries_from, entry_place}
use Rattle.records.specs.Rules.{past_data}

-- every number of a record fits the bytes that it is written in
pub record RecordFits (r : Record) : Type 0 where
  pub sequence_fits : r.sequence < 256 ^ 8
  pub length_fits : r.length < 256 ^ 4
  pub offset_fits : r.offset < 256 ^ 8

-- and every number of an entry
pub record EntryFits (e : Entry) : Type 0 where
  pub key_fits : length e.key < 256 ^ 4
  pub count_fits : length e.versions < 256 ^ 4
  pub versions_fit : Each RecordFits e.versions

abbrev pub TableFits : List Entry → Type 0
TableFits = Each EntryFits

-- the rules of a record: value length, offset + length inside the data where a data length is given, tombstone without length
pub record RecordRules (test : DataLength) (r : Record) : Type 0 where
  pub fits : RecordFits r
  pub small : r.length ≤ most_value_bytes
  pub inside : past_data test r.offset r.length ≡ false
  pub empty : r.kind ≡ Tombstone → r.length ≡ 0

-- the rules of an entry: key length, at least one version, sequences strictly falling
pub record EntryRules (test : DataLength) (e : Entry) : Type 0 where
  pub small : length e.key ≤ most_key_bytes
  pub some : 0 < length e.versions
  pub few : length e.versions < 256 ^ 4
  pub falls : Falls e.versions
  pub versions : Each (RecordRules test) e.versions

-- the rules of a table: those of its entries, and keys strictly rising
pub record TableRules (test : DataLength) (t : List Entry) : Type 0 where
  pub entries : Each (EntryRules test) t
  pub rises : Rises t

-- offset + length lies inside data of this length, of every record
abbrev pub InData : ℕ → Record → Type 0
InData size r = r.offset + r.length ≤ size

abbrev pub EntryInData : ℕ → Entry → Type 0
EntryInData size e = Each (InData size) e.versions

abbrev pub TableInData : ℕ → List Entry → Type 0
TableInData size = Each (EntryInData size)

-- what a walk that started at p has read: the table of as many entries as keys passed
pub record Walks (test : DataLength) (bytes : List ℕ) (p : ℕ) (w : Walk) : Type 0 where
  pub count : length (entries_from bytes p w.keys) ≡ w.keys
  pub place : w.end ≡ entry_place bytes p w.keys
  pub inside : w.end ≤ length bytes
  pub bytes_are : take (w.end - p) (drop p bytes) ≡ table_bytes (entries_from bytes p w.keys)
  pub rules : TableRules test (entries_from bytes p w.keys)
  pub only : (t : List Entry) → TableFits t → table_bytes t ≡ take (w.end - p) (drop p bytes) → t ≡ entries_from bytes p w.keys
