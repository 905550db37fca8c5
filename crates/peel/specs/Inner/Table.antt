-- Between the steps: how the lent workspace stands for an attempt on n hashes with c cells, and what the functions ask for.
-- The u64 part holds [xors c | hashes peeled n], the u32 part [degrees c | queue c | cells peeled n]: queue and peeled grow from the front.
use Rattle.std.specs.Prelude.{◌≡◌, ℕ, zero, suc, ◌+◌, ◌%◌, ◌^◌, ◌<◌, ◌≤◌, List, [], ◌∷◌, length, ◌==◌, bit_xor, slice_index, slice_set}
use Rattle.laws.specs.Count.{keep, occurs}
use Rattle.fuse.specs.Positions.{positions_of}
use Rattle.peel.specs.declared.graph.Graph.{Graph}
use Rattle.peel.specs.Peel.{Peel, Attempt, lying, degree}
use Rattle.peel.specs.Inner.Sound.{Placed, Sound}

-- the four cells of a hash
abbrev pub cells_of : Graph → ℕ → List ℕ
cells_of g = positions_of g.segments.segment g.segments.count

-- the xor of a list of hashes
unfoldable pub xors : List ℕ → ℕ
xors [] = 0
xors (h ∷ hs) = bit_xor h (xors hs)

-- a stack of n entries from the place `base`, the last one first
unfoldable pub stack : (base n : ℕ) → List ℕ → List ℕ
stack base zero xs = []
stack base (suc n) xs = slice_index xs (base + n) ∷ stack base n xs

-- the n peeled, the last one first: hashes behind the xors, cells behind degrees and queue
unfoldable pub peels_in : (c n : ℕ) (wide narrow : List ℕ) → List Peel
peels_in c zero wide narrow = []
peels_in c (suc n) wide narrow = record { hash = slice_index wide (c + n); cell = slice_index narrow (c + c + n) } ∷ peels_in c n wide narrow

-- f at each of the cells
unfoldable pub changed : (ℕ → ℕ) → List ℕ → List ℕ → List ℕ
changed f [] d = d
changed f (p ∷ ps) d = changed f ps (slice_set d p (f (slice_index d p)))

-- a degree with `by` more, wrapping: 2^32 − 1 more is one less
abbrev pub plus : (by degree : ℕ) → ℕ
plus by degree = (by + degree) % 2 ^ 32

-- the queue after those of the cells that have 1 in d were put on it
unfoldable pub queued_by : List ℕ → List ℕ → List ℕ → List ℕ
queued_by d [] q = q
queued_by d (p ∷ ps) q = queued_by d ps (keep (slice_index d p == 1) p q)

-- the queue is q, of r cells; degrees and peeled cells are as they were
pub record Queued (c : ℕ) (q : List ℕ) (r : ℕ) (before after : List ℕ) : Type 0 where
  pub waiting : stack c r after ≡ q
  pub degrees : (v : ℕ) → v < c → slice_index after v ≡ slice_index before v
  pub behind : (v : ℕ) → c + c ≤ v → slice_index after v ≡ slice_index before v

-- the first c of d and x are the degrees and the xors of the cells for the hashes hs
pub record Tables (pos : ℕ → List ℕ) (c : ℕ) (hs d x : List ℕ) : Type 0 where
  pub degrees : c ≤ length d
  pub mixes : c ≤ length x
  pub degree_at : (v : ℕ) → v < c → slice_index d v ≡ degree pos v hs
  pub xor_at_is : (v : ℕ) → v < c → slice_index x v ≡ xors (lying pos v hs)

-- the workspace stands for the attempt s on the hashes hs: top cells queued, n hashes peeled
pub record StandsFor (pos : ℕ → List ℕ) (c : ℕ) (hs : List ℕ) (s : Attempt) (wide narrow : List ℕ) (top n : ℕ) : Type 0 where
  pub placed : (h : ℕ) → 1 ≤ occurs h hs → Placed c pos h
  pub sound : Sound pos c hs s
  pub tables : Tables pos c s.left narrow wide
  pub waiting : s.queue ≡ stack c top narrow
  pub peeled : s.peeled ≡ peels_in c n wide narrow
  pub wide_room : c + length hs ≤ length wide
  pub narrow_room : c + c + length hs ≤ length narrow

-- ---- what the functions ask for

-- the cells ps are below c
abbrev pub Below : ℕ → List ℕ → Type 0
Below c ps = (v : ℕ) → c ≤ v → occurs v ps ≡ 0
