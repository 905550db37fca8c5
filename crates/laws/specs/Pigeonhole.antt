-- A function that takes the indices below n to numbers below n, and what it hits.
use Rattle.std.specs.Prelude.{ℕ, ◌<◌, ◌≡◌}

-- f takes the indices below n to numbers below n, no two to the same
pub record Into (n : ℕ) (f : ℕ → ℕ) : Type 0 where
  pub below : (i : ℕ) → i < n → f i < n
  pub apart : (i j : ℕ) → i < n → j < n → f i ≡ f j → i ≡ j

-- an index below n that f takes to s
pub record Hit (n : ℕ) (f : ℕ → ℕ) (s : ℕ) : Type 0 where
  pub index : ℕ
  pub low : index < n
  pub is : f index ≡ s
