-- The rules of a key and of a version on bytes, each with its number (document 01, "Validation"). "None before" is the place itself.
use Rattle.std.specs.Prelude.{ℕ, zero, suc, ◌+◌, Bool, false, not, ◌&&◌, ◌||◌, List, [], ◌∷◌, ltb, eqb, length, None, Some}
use Rattle.std.specs.Ordering.{is_lt}
use Rattle.laws.specs.Refusals.{Cause, cause, first_of, or_else}
use Rattle.numbers.specs.Limits.{most_key_bytes, most_value_bytes}
use Rattle.words.specs.Part.{order_of}
use Rattle.records.specs.Limits.{DataLength}
use Rattle.records.specs.Places.{key_length, version_count, key_at, first_version, sequence_at, kind_at, length_at, offset_at}

-- the key at p is greater than the one of the entry at prev; none stands before where prev is p
unfoldable pub key_rises : List ℕ → (prev p : ℕ) → Bool
key_rises bytes prev p = eqb prev p || is_lt (order_of (key_at bytes prev) (key_at bytes p))

-- 23 under 8 bytes left, 24 key length over the limit or past the end, or no versions, 25 keys not strictly rising
abbrev pub key_causes : List ℕ → (prev p : ℕ) → List Cause
key_causes bytes prev p =
    cause (ltb (length bytes) (p + 8)) 23
    ∷ cause (ltb most_key_bytes (key_length bytes p)) 24
    ∷ cause (ltb (length bytes) (first_version bytes p)) 24
    ∷ cause (eqb (version_count bytes p) 0) 24
    ∷ cause (not (key_rises bytes prev p)) 25
    ∷ []

unfoldable pub key_refusal : List ℕ → (prev p : ℕ) → ℕ
key_refusal bytes prev p = first_of (key_causes bytes prev p)

-- a byte that is no kind: neither 1 (put) nor 2 (tombstone)
abbrev pub bad_kind : ℕ → Bool
bad_kind k = not (eqb k 1 || eqb k 2)

-- offset + length past the data, where a data length is given
abbrev pub past_data : DataLength → (offset size : ℕ) → Bool
past_data None offset size = false
past_data (Some n) offset size = ltb n (offset + size)

-- tombstone with length
abbrev pub full_tombstone : (kind size : ℕ) → Bool
full_tombstone kind size = eqb kind 2 && not (eqb size 0)

-- the sequence at p is below the one at prev; none stands before where prev is p
unfoldable pub sequence_falls : List ℕ → (prev p : ℕ) → Bool
sequence_falls bytes prev p = eqb prev p || ltb (sequence_at bytes p) (sequence_at bytes prev)

-- 27 under 21 bytes left, 28 kind, 29 value length, offset + length past the data, tombstone with length, sequences not strictly falling
abbrev pub version_causes : List ℕ → DataLength → (prev p : ℕ) → List Cause
version_causes bytes test prev p =
    cause (ltb (length bytes) (p + 21)) 27
    ∷ cause (bad_kind (kind_at bytes p)) 28
    ∷ cause (ltb most_value_bytes (length_at bytes p)) 29
    ∷ cause (past_data test (offset_at bytes p) (length_at bytes p)) 29
    ∷ cause (full_tombstone (kind_at bytes p) (length_at bytes p)) 29
    ∷ cause (not (sequence_falls bytes prev p)) 29
    ∷ []

unfoldable pub version_refusal : List ℕ → DataLength → (prev p : ℕ) → ℕ
version_refusal bytes test prev p = first_of (version_causes bytes test prev p)

-- the k versions from p on
unfoldable pub versions_refusal : List ℕ → DataLength → (prev p : ℕ) → ℕ → ℕ
versions_refusal bytes test prev p zero = 0
versions_refusal bytes test prev p (suc k) = or_else (version_refusal bytes test prev p) (versions_refusal bytes test p (p + 21) k)

-- all versions of the entry at p
abbrev pub entry_versions_refusal : List ℕ → DataLength → ℕ → ℕ
entry_versions_refusal bytes test p = versions_refusal bytes test (first_version bytes p) (first_version bytes p) (version_count bytes p)

-- slots not tested
abbrev pub unslotted : ℕ → ℕ
unslotted p = 0

-- the entry at p: its key, then its slot (where slots are tested: the refusal of the slot of the key at p), then its versions
unfoldable pub entry_refusal : (slots : ℕ → ℕ) → List ℕ → DataLength → (prev p : ℕ) → ℕ
entry_refusal slots bytes test prev p = or_else (key_refusal bytes prev p) (or_else (slots p) (entry_versions_refusal bytes test p))
