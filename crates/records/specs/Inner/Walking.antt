-- Between the steps: what the functions over an arena need of the place that they are at.
use Rattle.std.specs.Prelude.{ℕ, ◌≤◌, List, ◌≡◌, length}
use Rattle.records.specs.Places.{first_version}

-- the keys of the entries at prev and at p lie in the bytes
pub record KeysInside (bytes : List ℕ) (prev p : ℕ) : Type 0 where
  pub before : first_version bytes prev ≤ length bytes
  pub here : first_version bytes p ≤ length bytes

-- p lies in the bytes, and so does the key of the entry at prev, unless prev is p and none stands before
pub record Walking (bytes : List ℕ) (prev p : ℕ) : Type 0 where
  pub here : p ≤ length bytes
  pub before : (prev ≡ p → ⊥) → first_version bytes prev ≤ length bytes

-- p lies in the bytes, and the version at prev not after it
pub record Following (bytes : List ℕ) (prev p : ℕ) : Type 0 where
  pub here : p ≤ length bytes
  pub before : prev ≤ p
