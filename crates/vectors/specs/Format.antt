-- The vector file: `WASHVEC1`, u32 number of cases, then the cases, each a u8 op and its payload as `bytes` (u32 length, then the bytes).
use Rattle.std.specs.Prelude.{ℕ, ◌+◌, ◌-◌, ◌%◌, ◌^◌, ◌≡◌, ◌≤◌, min, Bool, cond, List, length, take, drop, ◌==◌, nat_le, nat_lt, slice_index, Option, Some, None}
use Rattle.words.specs.Field.{le}
use Rattle.vectors.specs.declared.Cursor.{Cursor}
use Rattle.vectors.specs.declared.Next.{Next}
use Rattle.vectors.specs.declared.Next.TheVariants.{Case, End, Damaged}
use Rattle.vectors.specs.declared.Count.{Count}

-- the number of k bytes at a place; 0 where they aren't all there
abbrev pub field_of : ℕ → List ℕ → ℕ → ℕ
field_of k raw at = cond (nat_le (at + k) (length raw)) (le k raw at) 0

-- these are the k bytes at a place
abbrev pub IsFieldAt : List ℕ → ℕ → ℕ → List ℕ → Type 0
IsFieldAt raw at k bytes = (at + k ≤ length raw) × (bytes ≡ take k (drop at raw))

-- the place `size` bytes after `at`, at most the end
abbrev pub end_of : List ℕ → ℕ → ℕ → ℕ
end_of raw at size = min (at + size) (length raw)

-- where the `bytes` field at a place ends
abbrev pub bytes_end : List ℕ → ℕ → ℕ
bytes_end raw at = end_of raw (end_of raw at 4) (field_of 4 raw at)

-- its bytes
abbrev pub field_bytes : List ℕ → ℕ → List ℕ
field_bytes raw at = take (bytes_end raw at - end_of raw at 4) (drop (end_of raw at 4) raw)

-- a file with its magic (`WASHVEC1` as a number): the number of cases, and the first of them behind it
abbrev pub file_of : List ℕ → Option Cursor
file_of file =
    cond (nat_lt (length file) 12) None
    (cond (le 8 file 0 == 3549757168181002583) (Some (record { at = 12; left = le 4 file 8 })) None)

-- at a place with so many cases left: a whole case, or after the last one the file's end
abbrev pub next_of : List ℕ → ℕ → ℕ → Next
next_of file at left =
    cond (left == 0) (cond (at == length file) End Damaged)
    (cond (nat_le (at + 5) (length file))
    (cond (nat_le (at + 5 + le 4 file (at + 1)) (length file))
    (Case (slice_index file at) (at + 1) (record { at = at + 5 + le 4 file (at + 1); left = left - 1 }))
    Damaged)
    Damaged)

-- one case more, and one more that differs unless it agrees
abbrev pub counted_of : Count → Bool → Count
counted_of c agrees = record { cases = (c.cases + 1) % 2 ^ 64; differ = cond agrees c.differ ((c.differ + 1) % 2 ^ 64) }
