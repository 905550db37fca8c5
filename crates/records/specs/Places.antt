-- Where things stand in an arena, and what is read there: an entry's head, its key, its versions (document 01, "Layouts").
use Rattle.std.specs.Prelude.{ℕ, zero, suc, ◌+◌, ◌*◌, cond, List, [], ◌∷◌, eqb, get_or, take, drop}
use Rattle.words.specs.Field.{le}
use Rattle.records.specs.declared.Kind.{Kind}
use Rattle.records.specs.declared.Kind.TheVariants.{Put, Tombstone}
use Rattle.records.specs.declared.Record.{Record}
use Rattle.records.specs.Model.{Entry}

-- of the entry at p: u32 key length, u32 version count, the key
abbrev pub key_length : List ℕ → ℕ → ℕ
key_length bytes p = le 4 bytes p

abbrev pub version_count : List ℕ → ℕ → ℕ
version_count bytes p = le 4 bytes (p + 4)

unfoldable pub key_at : List ℕ → ℕ → List ℕ
key_at bytes p = take (key_length bytes p) (drop (p + 8) bytes)

-- where its first version stands, and where the next entry
abbrev pub first_version : List ℕ → ℕ → ℕ
first_version bytes p = p + 8 + key_length bytes p

abbrev pub next_entry : List ℕ → ℕ → ℕ
next_entry bytes p = first_version bytes p + 21 * version_count bytes p

-- of the version at p: u64 sequence, kind, u32 value length, u64 value offset
abbrev pub sequence_at : List ℕ → ℕ → ℕ
sequence_at bytes p = le 8 bytes p

abbrev pub kind_at : List ℕ → ℕ → ℕ
kind_at bytes p = get_or bytes (p + 8) 0

abbrev pub length_at : List ℕ → ℕ → ℕ
length_at bytes p = le 4 bytes (p + 9)

abbrev pub offset_at : List ℕ → ℕ → ℕ
offset_at bytes p = le 8 bytes (p + 13)

-- the kind of a byte that is 1 or 2
abbrev pub kind_of : ℕ → Kind
kind_of b = cond (eqb b 1) Put Tombstone

-- the version at p
unfoldable pub record_at : List ℕ → ℕ → Record
record_at bytes p = record { kind = kind_of (kind_at bytes p); sequence = sequence_at bytes p; offset = offset_at bytes p; length = length_at bytes p }

-- the k versions from p on
unfoldable pub versions_from : List ℕ → ℕ → ℕ → List Record
versions_from bytes p zero = []
versions_from bytes p (suc k) = record_at bytes p ∷ versions_from bytes (p + 21) k

-- the entry at p
unfoldable pub entry_at : List ℕ → ℕ → Entry
entry_at bytes p = record { key = key_at bytes p; versions = versions_from bytes (first_version bytes p) (version_count bytes p) }

-- the k entries from p on
unfoldable pub entries_from : List ℕ → ℕ → ℕ → List Entry
entries_from bytes p zero = []
entries_from bytes p (suc k) = entry_at bytes p ∷ entries_from bytes (next_entry bytes p) k

-- where the i-th entry after p stands
unfoldable pub entry_place : List ℕ → ℕ → ℕ → ℕ
entry_place bytes p zero = p
entry_place bytes p (suc i) = entry_place bytes (next_entry bytes p) i
