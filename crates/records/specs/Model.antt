-- The record list that an arena stands for, and its bytes (document 01, "Layouts").
use Rattle.std.specs.Prelude.{ℕ, ◌-◌, ◌^◌, ◌<◌, List, [], ◌∷◌, ◌++◌, Bool, true, cond, ◌&&◌, ◌≡◌, length, leb, eqb, None, Option as Read, Some}
use Rattle.std.proofs.Math.Option.{Option, none, some}
use Rattle.words.specs.Field.{bytes_of}
use Rattle.std.specs.declared.cmp.Ordering.TheVariants.{Less}
use Rattle.words.specs.Part.{order_of, same_as}
use Rattle.records.specs.declared.Kind.{Kind}
use Rattle.records.specs.declared.Kind.TheVariants.{Put, Tombstone}
use Rattle.records.specs.declared.Record.{Record}
use Rattle.records.specs.Limits.{Limit}

-- an entry: a key with its records, newest first; a table is a list of entries
pub record Entry : Type 0 where
  pub key : List ℕ
  pub versions : List Record

-- kind (1 put, 2 tombstone)
abbrev pub kind_byte : Kind → ℕ
kind_byte Put = 1
kind_byte Tombstone = 2

-- a byte as a kind, if it is one
abbrev pub kind_read : ℕ → Read Kind
kind_read b = cond (eqb b 1) (Some Put) (cond (eqb b 2) (Some Tombstone) None)

-- a version of 21 bytes: u64 sequence, kind, u32 value length, u64 value offset
unfoldable pub version_bytes : Record → List ℕ
version_bytes r = bytes_of 8 r.sequence ++ (kind_byte r.kind ∷ bytes_of 4 r.length ++ bytes_of 8 r.offset)

-- a key's versions, one after another
unfoldable pub versions_bytes : List Record → List ℕ
versions_bytes [] = []
versions_bytes (r ∷ rs) = version_bytes r ++ versions_bytes rs

-- per key: u32 key length, u32 version count, the key, then its versions
unfoldable pub entry_bytes : Entry → List ℕ
entry_bytes e = bytes_of 4 (length e.key) ++ (bytes_of 4 (length e.versions) ++ (e.key ++ versions_bytes e.versions))

-- the arena of a table
unfoldable pub table_bytes : List Entry → List ℕ
table_bytes [] = []
table_bytes (e ∷ es) = entry_bytes e ++ table_bytes es

-- a sequence within the limit
unfoldable pub within : Limit → ℕ → Bool
within None sequence = true
within (Some l) sequence = leb sequence l

-- a limit as a number: none is the greatest sequence there is
abbrev pub limit_of : Limit → ℕ
limit_of None = 2 ^ 64 - 1
limit_of (Some l) = l

-- every record of a key
unfoldable pub records_of : List Entry → List ℕ → List Record
records_of [] key = []
records_of (e ∷ es) key = cond (same_as e.key key) (e.versions ++ records_of es key) (records_of es key)

-- of a record and what was found: the record where it is within the limit and its sequence is not below
unfoldable pub better : Limit → Record → Option Record → Option Record
better limit r none = cond (within limit r.sequence) (some r) none
better limit r (some s) = cond (within limit r.sequence && leb s.sequence r.sequence) (some r) (some s)

-- the record of greatest sequence within the limit
unfoldable pub greatest : Limit → List Record → Option Record
greatest limit [] = none
greatest limit (r ∷ rs) = better limit r (greatest limit rs)

-- the record of an entry within a limit
abbrev pub record_within : Limit → Entry → Option Record
record_within limit e = greatest limit e.versions

-- the lookup: that key's record of greatest sequence within the limit, or nothing
unfoldable pub lookup : List Entry → List ℕ → Limit → Option Record
lookup table key limit = greatest limit (records_of table key)

-- sequences strictly falling
pub data Falls : List Record → Type 0 where
  falls_none : Falls []
  falls_one : {r : Record} → Falls (r ∷ [])
  falls_more : {r s : Record} {rs : List Record} → s.sequence < r.sequence → Falls (s ∷ rs) → Falls (r ∷ s ∷ rs)

-- keys strictly rising
pub data Rises : List Entry → Type 0 where
  rises_none : Rises []
  rises_one : {e : Entry} → Rises (e ∷ [])
  rises_more : {e f : Entry} {es : List Entry} → order_of e.key f.key ≡ Less → Rises (f ∷ es) → Rises (e ∷ f ∷ es)
