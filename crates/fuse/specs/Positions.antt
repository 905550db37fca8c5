-- The four filter positions of a hash, after document 01, "Arithmetic and construction".
use Rattle.std.specs.Prelude.{◌≡◌, ℕ, zero, suc, ◌+◌, ◌*◌, ◌/◌, ◌%◌, ◌^◌, ◌<◌, ◌≤◌, List, [], ◌∷◌, bit_xor}
use Rattle.laws.specs.Power.{PowerOfTwo}

-- the number of cells: segments × segment, where count is segments − 3
abbrev pub cells_in : (segment count : ℕ) → ℕ
cells_in segment count = (count + 3) * segment

-- a segment and a count that a filter can have
pub record Usable (segment count : ℕ) : Type 0 where
  pub power : PowerOfTwo segment
  pub most : segment ≤ 262144
  pub counted : 1 ≤ count
  pub small : cells_in segment count < 2 ^ 32

-- a segment and a count that fit so many cells
pub record FitsCells (segment count cells : ℕ) : Type 0 where
  pub usable : Usable segment count
  pub whole : cells ≡ cells_in segment count

-- a: the whole part of h × count × segment / 2^64
unfoldable pub first_cell : (segment count h : ℕ) → ℕ
first_cell segment count h = h * (count * segment) / 2 ^ 64

-- position i: a, or (a + i × segment) xor (w mod segment), with w = h, h/2^16, h/2^32 for i = 1, 2, 3
unfoldable pub cell_of : (segment count h i : ℕ) → ℕ
cell_of segment count h zero = first_cell segment count h
cell_of segment count h (suc i) = bit_xor (first_cell segment count h + suc i * segment) (h / 2 ^ (16 * i) % segment)

-- all four, in position order
unfoldable pub positions_of : (segment count h : ℕ) → List ℕ
positions_of segment count h = cell_of segment count h 0 ∷ cell_of segment count h 1 ∷ cell_of segment count h 2 ∷ cell_of segment count h 3 ∷ []
