-- Sorting at the boundary: it refuses nothing.
use Rattle.std.specs.Prelude.{ℕ, ◌≡◌, List}
use Rattle.sort.specs.Sort.{sorted}

-- what kiban_sort commits to: 0, and the hashes sorted
pub record SortCall (hashes : List ℕ) (r : ℕ) (hashes' : List ℕ) : Type 0 where
  pub number : r ≡ 0
  pub hashes_after : hashes' ≡ sorted hashes
