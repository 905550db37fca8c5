-- Between the steps: what holds of an attempt at each of them.
use Rattle.std.specs.Prelude.{◌≡◌, ℕ, ◌+◌, ◌≤◌, true, List, [], ◌∷◌, map, length}
use Rattle.laws.specs.Count.{occurs, among}
use Rattle.peel.specs.Peel.{Peel, Attempt, degree}

-- the cells of h: all below c, none twice
pub record Placed (c : ℕ) (pos : ℕ → List ℕ) (h : ℕ) : Type 0 where
  pub apart : (v : ℕ) → occurs v (pos h) ≤ 1
  pub below : (v : ℕ) → c ≤ v → occurs v (pos h) ≡ 0

module _ (pos : ℕ → List ℕ) where
  -- each hash was peeled at a cell of its own on which none of those peeled later lies, nor any that is left
  abbrev pub Peelable : List Peel → List ℕ → Type 0
  Peelable [] hs = Unit {0}
  Peelable (e ∷ es) hs = (among e.cell (pos e.hash) ≡ true) × (degree pos e.cell hs ≡ 0) × Peelable es (e.hash ∷ hs)

-- the hashes of what was peeled
abbrev pub hashes_peeled : List Peel → List ℕ
hashes_peeled es = map (λ e. e.hash) es

-- what holds of an attempt on the hashes hs at each step
pub record Sound (pos : ℕ → List ℕ) (c : ℕ) (hs : List ℕ) (s : Attempt) : Type 0 where
  pub once : (v : ℕ) → occurs v s.taken + occurs v s.queue ≤ 1
  pub light : (v : ℕ) → 2 ≤ degree pos v s.left → occurs v s.taken + occurs v s.queue ≡ 0
  pub below : (v : ℕ) → c ≤ v → occurs v s.taken + occurs v s.queue ≡ 0
  pub good : Peelable pos s.peeled s.left
  pub sum : length s.peeled + length s.left ≡ length hs
  pub all : (v : ℕ) → occurs v (hashes_peeled s.peeled) + occurs v s.left ≡ occurs v hs
