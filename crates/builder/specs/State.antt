-- The builder's state beside its buffer: the empty builder, what fits, what the buffer says of the last record (document 01, "Calls").
use Rattle.std.specs.Prelude.{ℕ, ◌+◌, ◌-◌, Bool, cond, ◌&&◌, List, leb, eqb, length}
use Rattle.numbers.specs.Limits.{most_key_bytes, most_keys}
use Rattle.records.specs.Places.{key_length, version_count, key_at, next_entry, sequence_at}
use Rattle.builder.specs.declared.PointBuilder.{PointBuilder}

-- the empty builder
abbrev pub empty_builder : PointBuilder
empty_builder = record { used = 0; keys = 0; head = 0 }

-- keys is 1 to 65,536 and, with key length L up to 1,048,576 and version count v ≥ 1 read at head inside used,
-- head + 8 + L + 21v = used, used not past the buffer
unfoldable pub fits_at : PointBuilder → List ℕ → Bool
fits_at s buffer =
    leb s.keys most_keys
    && (leb s.used (length buffer)
    && (leb (s.head + 8) s.used
    && (leb (key_length buffer s.head) most_key_bytes
    && (leb 1 (version_count buffer s.head)
    && eqb (next_entry buffer s.head) s.used))))

-- the state fits the buffer: all three are zero, or as above
unfoldable pub fits : PointBuilder → List ℕ → Bool
fits s buffer = cond (eqb s.keys 0) (eqb s.used 0 && eqb s.head 0) (fits_at s buffer)

-- of the last record: its key, its sequence, and how many versions the key has
pub record Last : Type 0 where
  pub key : List ℕ
  pub sequence : ℕ
  pub versions : ℕ

-- what a buffer says of it
unfoldable pub last_of : PointBuilder → List ℕ → Last
last_of s buffer =
    record { key = key_at buffer s.head; sequence = sequence_at buffer (s.used - 21); versions = version_count buffer s.head }

-- the bytes left in the buffer
abbrev pub room_of : PointBuilder → List ℕ → ℕ
room_of s buffer = length buffer - s.used
