-- Refusals: the tests of a call stand in a row, in the paper's order, and the first that holds gives its number. 0 is no refusal.
use Rattle.std.specs.Prelude.{ℕ, zero, suc, ◌<◌, ◌≡◌, Bool, true, false, cond, List, [], ◌∷◌}

-- a test, and the number that a call refuses with where it holds
pub record Cause : Type 0 where
  pub holds : Bool
  pub number : ℕ

abbrev pub cause : Bool → ℕ → Cause
cause b n = record { holds = b; number = n }

-- the number of the first test of a row that holds, 0 where none does
abbrev pub first_of : List Cause → ℕ
first_of [] = 0
first_of (c ∷ cs) = cond c.holds c.number (first_of cs)

-- the first refusal of two
abbrev pub or_else : ℕ → ℕ → ℕ
or_else zero b = b
or_else (suc a) b = suc a

-- a test with number n holds, and every test before it fails
pub data First (n : ℕ) : List Cause → Type 0 where
  here : {c : Cause} {cs : List Cause} → c.holds ≡ true → c.number ≡ n → First n (c ∷ cs)
  later : {c : Cause} {cs : List Cause} → c.holds ≡ false → First n cs → First n (c ∷ cs)

-- every test fails
pub data None : List Cause → Type 0 where
  none_here : None []
  none_more : {c : Cause} {cs : List Cause} → c.holds ≡ false → None cs → None (c ∷ cs)

-- every test of the row has a number above 0
pub data Numbered : List Cause → Type 0 where
  numbered_none : Numbered []
  numbered_more : {c : Cause} {cs : List Cause} → 0 < c.number → Numbered cs → Numbered (c ∷ cs)

-- n is the first of two refusals that is one
pub data FirstOfTwo (n a b : ℕ) : Type 0 where
  by_first_is : a ≡ n → FirstOfTwo n a b
  by_second : a ≡ 0 → b ≡ n → FirstOfTwo n a b
