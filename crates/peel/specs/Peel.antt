-- One attempt to build a filter (document 01, "Arithmetic and construction"), over the four cells `pos h` of each h.
use Rattle.std.specs.Prelude.{◌≡◌, ℕ, zero, suc, ◌%◌, Bool, cond, List, [], ◌∷◌, map, length, replicate, ◌==◌, bit_xor, slice_set}
use Rattle.laws.specs.Count.{keep, among, without, rising}
use Rattle.fuse.specs.Asking.{graph_hash, xor_at}
use Rattle.fuse.specs.Positions.{cells_in, positions_of}

-- a hash that was peeled, and the cell it was peeled at
pub record Peel : Type 0 where
  pub hash : ℕ
  pub cell : ℕ

-- an attempt under way: the hashes not yet peeled, the cells queued (next first), the cells taken off the queue, what was peeled (last first)
pub record Attempt : Type 0 where
  pub left : List ℕ
  pub queue : List ℕ
  pub taken : List ℕ
  pub peeled : List Peel

module _ (pos : ℕ → List ℕ) where
  -- the hashes that lie on cell p
  unfoldable pub lying : ℕ → List ℕ → List ℕ
  lying p [] = []
  lying p (h ∷ hs) = keep (among p (pos h)) h (lying p hs)

  -- the degree of cell p: how many lie on it
  abbrev pub degree : ℕ → List ℕ → ℕ
  degree p hs = length (lying p hs)

  -- the queue after those of the cells ps that have degree 1 were put on it, in their order
  unfoldable pub queued : List ℕ → List ℕ → List ℕ → List ℕ
  queued hs [] q = q
  queued hs (p ∷ ps) q = queued hs ps (keep (degree p hs == 1) p q)

  -- the start: all hashes, and the cells of degree 1 queued in rising order
  abbrev pub begun : ℕ → List ℕ → Attempt
  begun c hs = record { left = hs; queue = queued hs (rising 0 c) []; taken = []; peeled = [] }

  -- cell p is taken and skipped
  abbrev pub skip : ℕ → List ℕ → Attempt → Attempt
  skip p q s = record { left = s.left; queue = q; taken = p ∷ s.taken; peeled = s.peeled }

  -- cell p is taken and its one hash h peeled; those of h's cells whose degree falls to 1 are queued
  abbrev pub peel : ℕ → ℕ → List ℕ → Attempt → Attempt
  peel h p q s =
      record {
        left = without h s.left;
        queue = queued (without h s.left) (pos h) q;
        taken = p ∷ s.taken;
        peeled = record { hash = h; cell = p } ∷ s.peeled;
      }

  -- by the hashes that lie on the cell taken: exactly one is peeled
  abbrev pub take_cell : List ℕ → ℕ → List ℕ → Attempt → Attempt
  take_cell [] p q s = skip p q s
  take_cell (h ∷ []) p q s = peel h p q s
  take_cell (h ∷ k ∷ hs) p q s = skip p q s

  -- the next cell of the queue: the last one that was put on it
  abbrev pub take_next : List ℕ → Attempt → Attempt
  take_next [] s = s
  take_next (p ∷ q) s = take_cell (lying p s.left) p q s

  -- one step
  abbrev pub one_step : Attempt → Attempt
  one_step s = take_next s.queue s

  -- n steps
  unfoldable pub run : ℕ → Attempt → Attempt
  run zero s = s
  run (suc n) s = run n (one_step s)

  -- a whole attempt with c cells: each cell is queued at most once, so c steps empty the queue
  unfoldable pub attempt : ℕ → List ℕ → Attempt
  attempt c hs = run c (begun c hs)

  -- one cell filled: the low byte of its hash xor the hash's four cells
  abbrev pub put : Peel → List ℕ → List ℕ
  put e cells = slice_set cells e.cell (bit_xor (e.hash % 256) (xor_at cells (pos e.hash)))

  -- the cells filled in reverse order of peeling
  unfoldable pub fill : List Peel → List ℕ → List ℕ
  fill [] cells = cells
  fill (e ∷ es) cells = fill es (put e cells)

  -- h is present: its four cells xor to its low byte
  abbrev pub Present : List ℕ → ℕ → Type 0
  Present cells h = xor_at cells (pos h) ≡ h % 256

  -- every hash was peeled
  unfoldable pub peels_all : ℕ → List ℕ → Bool
  peels_all c hs = length (attempt c hs).left == 0

  -- the cells of an attempt, filled from zero
  unfoldable pub cells_after : ℕ → List ℕ → List ℕ
  cells_after c hs = fill (attempt c hs).peeled (replicate c 0)

-- the filter's h of each hash
abbrev pub mixed : (seed : ℕ) → List ℕ → List ℕ
mixed seed hashes = map (graph_hash seed) hashes

-- the attempt with this seed after so many steps
abbrev pub after_steps : (segment count seed : ℕ) → List ℕ → (steps : ℕ) → Attempt
after_steps segment count seed hashes steps = run (positions_of segment count) steps (begun (positions_of segment count) (cells_in segment count) (mixed seed hashes))

-- whether the attempt with this seed peels every hash
abbrev pub succeeds : (segment count seed : ℕ) → List ℕ → Bool
succeeds segment count seed hashes = peels_all (positions_of segment count) (cells_in segment count) (mixed seed hashes)

-- the cells that it fills then
abbrev pub cells_laid : (segment count seed : ℕ) → List ℕ → List ℕ
cells_laid segment count seed hashes = cells_after (positions_of segment count) (cells_in segment count) (mixed seed hashes)

-- an attempt's outcome: whether every hash was peeled; the cells filled if so, and else left as they were
pub record AttemptPost (segment count seed : ℕ) (hashes before after : List ℕ) (r : Bool) : Type 0 where
  pub answer : r ≡ succeeds segment count seed hashes
  pub cells : after ≡ cond (succeeds segment count seed hashes) (cells_laid segment count seed hashes) before
