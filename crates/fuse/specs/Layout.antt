-- The bytes in front of a filter's cells, after document 01, "Layouts" and "Filter reading".
use Rattle.std.specs.Prelude.{ℕ, ◌-◌, ◌^◌, ◌<◌, ◌≤◌, Bool, ◌&&◌, List, [], ◌∷◌, ◌++◌, length, take, replicate, ◌==◌, count_ones, nat_le, nat_lt}
use Rattle.words.specs.Field.{le, bytes_of}
use Rattle.words.specs.Part.{same_as}
use Rattle.fuse.specs.declared.Sizes.{Sizes}
use Rattle.fuse.specs.Positions.{cells_in, FitsCells}

-- KIBANFL2
unfoldable pub filter_magic : List ℕ
filter_magic = 75 ∷ 73 ∷ 66 ∷ 65 ∷ 78 ∷ 70 ∷ 76 ∷ 50 ∷ []

-- Positive: the magic, 1, three zeros, u32 48, 32 zeros
unfoldable pub positive_bytes : List ℕ
unfolding filter_magic bytes_of
positive_bytes = filter_magic ++ (1 ∷ 0 ∷ 0 ∷ 0 ∷ []) ++ bytes_of 4 48 ++ replicate 32 0

-- Fuse: the magic, 1, 2, 1, 8, u32 48, u64 keys, u64 seed, u32 segment, u32 count, u32 cells, u32 cells again
unfoldable pub fuse_header : Sizes → List ℕ
unfolding filter_magic bytes_of
fuse_header s =
    filter_magic ++ (1 ∷ 2 ∷ 1 ∷ 8 ∷ []) ++ bytes_of 4 48 ++ bytes_of 8 s.keys ++ bytes_of 8 s.seed ++ bytes_of 4 s.segment
    ++ bytes_of 4 s.count ++ bytes_of 4 (cells_in s.segment s.count) ++ bytes_of 4 (cells_in s.segment s.count)

-- a segment is accepted when its count of ones is 1 and it is at most 262,144
abbrev pub segment_test : ℕ → Bool
segment_test segment = count_ones segment == 1 && nat_le segment 262144

-- keys from 1 to 2^32 − 1, an accepted segment, count at least 1, and (count + 3) × segment = cells, in 32 bits
unfoldable pub fitting : Sizes → (cells : ℕ) → Bool
fitting s cells =
    nat_le 1 s.keys && nat_lt s.keys (2 ^ 32) && segment_test s.segment && nat_le 1 s.count
    && nat_lt (cells_in s.segment s.count) (2 ^ 32) && cells == cells_in s.segment s.count

-- the same as facts
pub record Accepted (s : Sizes) (cells : ℕ) : Type 0 where
  pub some_key : 1 ≤ s.keys
  pub few_keys : s.keys < 2 ^ 32
  pub fits : FitsCells s.segment s.count cells

-- the sizes that stand in a header
unfoldable pub sizes_in : List ℕ → Sizes
sizes_in bytes = record { keys = le 8 bytes 16; seed = le 8 bytes 24; segment = le 4 bytes 32; count = le 4 bytes 36 }

-- the bytes are a Fuse filter of these sizes: they fit the cells, and no other header stands in front
unfoldable pub fuse_laid : List ℕ → Sizes → Bool
fuse_laid bytes s = fitting s (length bytes - 48) && same_as (take 48 bytes) (fuse_header s)
