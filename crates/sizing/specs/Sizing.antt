-- The sizes of a filter for n hashes, after document 01, "Filter sizing".
use Rattle.std.specs.Prelude.{Bool, true, cond, ◌&&◌, List, [], ◌∷◌, ◌≡◌, ℕ, zero, suc, ◌+◌, ◌-◌, ◌*◌, ◌^◌, ◌≤◌, max, leb, ltb, eqb, get_or}
use Rattle.fuse.specs.declared.Sizes.{Sizes}
use Rattle.sizing.specs.declared.Plan.{Plan}
use Rattle.sizing.specs.declared.Plan.TheVariants.{Positive, Fuse}
use Rattle.sizing.specs.Table.{most_hashes, firsts, segments}

-- the power rule: 291^(2k+1) ≤ m² × 100^(2k+1)
unfoldable pub rule : (k m : ℕ) → Bool
rule k m = leb (291 ^ (2 * k + 1)) (m ^ 2 * 100 ^ (2 * k + 1))

-- the greatest whole number from 0 to k that the rule allows
unfoldable pub exponent_up_to : (k m : ℕ) → ℕ
exponent_up_to zero m = zero
exponent_up_to (suc k) m = cond (rule (suc k) m) (suc k) (exponent_up_to k m)

-- m: the larger of n and 2
abbrev pub sized_as : ℕ → ℕ
sized_as n = max n 2

-- the segment's exponent
unfoldable pub exponent_of : ℕ → ℕ
exponent_of n = exponent_up_to 18 (sized_as n)

-- the segment
unfoldable pub segment_of : ℕ → ℕ
segment_of n = 2 ^ exponent_of n

-- how many numbers at the front of a table are at most n
unfoldable pub up_to : List ℕ → ℕ → ℕ
up_to [] n = zero
up_to (x ∷ xs) n = cond (leb x n) (suc (up_to xs n)) zero

-- the number of segments: that of the last row whose first key count is at most n
unfoldable pub segments_of : ℕ → ℕ
segments_of n = get_or segments (up_to firsts n - 1) 0

-- the number of cells
unfoldable pub cells_of : ℕ → ℕ
cells_of n = segments_of n * segment_of n

-- the sizes for n hashes, before an attempt sets its seed
unfoldable pub sizes_of : ℕ → Sizes
sizes_of n = record { keys = n; seed = 0; segment = segment_of n; count = segments_of n - 3 }

-- Positive at once for no hashes, or the sizes
unfoldable pub plan_of : ℕ → Plan
plan_of n = cond (eqb n 0) Positive (Fuse (sizes_of n))

-- a row runs to the next: its last n, and at the end of the table the most hashes
unfoldable pub last_of_row : ℕ → ℕ
last_of_row j = get_or firsts (suc j) (most_hashes + 1) - 1

-- the rule over the table, at row j: it starts where the segment changes, so it has one; segments are at least 4; at its last n, 40 × cells ≥ 43 × n
pub record RowRule (j : ℕ) : Type 0 where
  pub one : segment_of (get_or firsts j 0) ≡ segment_of (last_of_row j)
  pub four : 4 ≤ get_or segments j 0
  pub enough : 43 * last_of_row j ≤ 40 * (get_or segments j 0 * segment_of (last_of_row j))

-- each number of a table is greater than the one before
unfoldable pub rises_from : ℕ → List ℕ → Bool
rises_from x [] = true
rises_from x (y ∷ ys) = ltb x y && rises_from y ys

unfoldable pub rises_strictly : List ℕ → Bool
unfolding rises_from
rises_strictly [] = true
rises_strictly (x ∷ xs) = rises_from x xs
