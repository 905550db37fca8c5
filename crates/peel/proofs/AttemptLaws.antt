-- What an attempt promises, over the real positions: each cell is queued once at most, it ends, and if every hash was peeled every hash is present. Assumes nothing.
use Rattle.std.proofs.Common.{◌≡◌, ℕ, ◌+◌, ◌%◌, ◌<◌, ◌≤◌, Bool, true, false, cond, eqb, List, [], ◌∷◌, length, replicate, sym, refl, ap, ◌∙◌, arith, length-set, drop_of_length-le, eq-eqb, ne_eqb, eqb-true}
use lib.ListN.{length-replicate, length-map}
use Rattle.laws.proofs.Cases.{by_test}
use Rattle.laws.specs.Count.{one, occurs}
use Rattle.laws.proofs.CountLaws.{occurs_nil, occurs_cons, occurs_here}
use Rattle.fuse.specs.Asking.{graph_hash, xor_at, contains_of}
use Rattle.fuse.specs.Positions.{Usable, cells_in, positions_of}
use Rattle.fuse.specs.declared.Sizes.{Sizes}
use Rattle.peel.specs.declared.graph.Graph.{Graph}
use Rattle.peel.specs.Peel.{Peel, after_steps, attempt, fill, put, peels_all, cells_after, mixed, succeeds, cells_laid, AttemptPost}
use Rattle.peel.specs.Inner.Table.{cells_of, peels_in, StandsFor}
use Rattle.peel.specs.Inner.Sound.{Placed}
use Rattle.peel.proofs.PeelLaws.{sound_start, sound_run, queue_within, queued_once, run_ends, all_present}
use Rattle.peel.proofs.PlaceLaws.{mixed_placed}
use Rattle.peel.proofs.StepLaws.{all_peeled}

module _ (segment count seed : ℕ) (u : Usable segment count) (hashes : List ℕ) where
  placed : (h : ℕ) → 1 ≤ occurs h (mixed seed hashes) → Placed (cells_in segment count) (positions_of segment count) h
  placed = mixed_placed segment count u seed hashes

  -- over a whole attempt each cell is queued at most once: after any number of steps it was taken, or waits, once at most
  pub cell_queued_once : (steps cell : ℕ) → occurs cell (after_steps segment count seed hashes steps).taken + occurs cell (after_steps segment count seed hashes steps).queue ≤ 1
  cell_queued_once steps cell = queued_once (positions_of segment count) (cells_in segment count) (mixed seed hashes) placed steps cell

  -- so as many places as there are cells are enough for all that were taken or wait
  pub queue_fits : (steps : ℕ) → length (after_steps segment count seed hashes steps).taken + length (after_steps segment count seed hashes steps).queue ≤ cells_in segment count
  queue_fits steps =
      queue_within (positions_of segment count) (cells_in segment count) (mixed seed hashes) _
      (sound_run (positions_of segment count) (cells_in segment count) (mixed seed hashes) placed steps _ (sound_start (positions_of segment count) (cells_in segment count) (mixed seed hashes)))

  -- an attempt ends: as many steps as there are cells empty the queue
  pub queue_empties : (after_steps segment count seed hashes (cells_in segment count)).queue ≡ []
  queue_empties = run_ends (positions_of segment count) (cells_in segment count) (mixed seed hashes) placed (cells_in segment count) _ (sound_start (positions_of segment count) (cells_in segment count) (mixed seed hashes)) (omega arith)

-- ---- by the hashes left

module _ (pos : ℕ → List ℕ) (c : ℕ) (hs : List ℕ) where
  peels_all_lem : length (attempt pos c hs).left ≡ 0 → peels_all pos c hs ≡ true
  unfolding peels_all
  peels_all_lem e = eq-eqb _ _ e

  peels_some : (length (attempt pos c hs).left ≡ 0 → ⊥) → peels_all pos c hs ≡ false
  unfolding peels_all
  peels_some e = ne_eqb _ _ e

  all_left : peels_all pos c hs ≡ true → (attempt pos c hs).left ≡ []
  unfolding peels_all
  all_left e = drop_of_length-le (attempt pos c hs).left {i = 0} (omega (arith, eqb-true (length (attempt pos c hs).left) 0 e))

  filled_is : (es : List Peel) → (attempt pos c hs).peeled ≡ es → fill pos es (replicate c 0) ≡ cells_after pos c hs
  unfolding cells_after
  filled_is es e = ap (λ (l : List Peel). fill pos l (replicate c 0)) (sym e)

-- ---- every hash is present

mixed_count : (seed hash : ℕ) (hashes : List ℕ) → 1 ≤ occurs hash hashes → 1 ≤ occurs (graph_hash seed hash) (mixed seed hashes)
mixed_count seed hash [] k = absurd (omega (arith, occurs_nil hash))
mixed_count seed hash (x ∷ hashes) k =
    by_test (eqb hash x)
    (λ e. rw (eqb-true hash x e) (omega (arith, occurs_here (graph_hash seed x) (mixed seed hashes))))
    (λ e.
    omega (
      arith,
      mixed_count seed hash hashes (omega (arith, occurs_cons hash x hashes, ap one e)),
      occurs_cons (graph_hash seed hash) (graph_hash seed x) (mixed seed hashes),
    ))

module _ (segment count seed : ℕ) (u : Usable segment count) (hashes : List ℕ) (ok : succeeds segment count seed hashes ≡ true) where
  -- if every hash was peeled, every hash's four cells xor to the low byte of its h
  pub hashes_present : (hash : ℕ) → 1 ≤ occurs hash hashes
      → xor_at (cells_laid segment count seed hashes) (positions_of segment count (graph_hash seed hash)) ≡ graph_hash seed hash % 256
  hashes_present hash k =
      all_present (positions_of segment count) (cells_in segment count) (mixed seed hashes) (mixed_placed segment count u seed hashes)
      (all_left (positions_of segment count) (cells_in segment count) (mixed seed hashes) ok) _ (mixed_count seed hash hashes k)

-- so the closing membership check never fails
pub check_never_fails : (s : Sizes) → Usable s.segment s.count → (hashes : List ℕ) → succeeds s.segment s.count s.seed hashes ≡ true
    → (hash : ℕ) → 1 ≤ occurs hash hashes → contains_of (cells_laid s.segment s.count s.seed hashes) s hash ≡ true
unfolding contains_of
check_never_fails s u hashes ok hash k = eq-eqb _ _ (hashes_present s.segment s.count s.seed u hashes ok hash k)

-- ---- the cells are as many as the sizes say

fill_length : (pos : ℕ → List ℕ) (es : List Peel) (cells : List ℕ) → length (fill pos es cells) ≡ length cells
unfolding fill
fill_length pos [] cells = refl
fill_length pos (e ∷ es) cells = fill_length pos es (put pos e cells) ∙ length-set cells e.cell _

pub cells_length : (segment count seed : ℕ) (hashes : List ℕ) → length (cells_laid segment count seed hashes) ≡ cells_in segment count
unfolding cells_after
cells_length segment count seed hashes = fill_length (positions_of segment count) _ _ ∙ length-replicate (cells_in segment count) 0

-- ---- the outcome

module _ (g : Graph) (hashes before wide narrow : List ℕ) (top n : ℕ)
    (R : StandsFor (cells_of g) g.cells (mixed g.seed hashes) (attempt (cells_of g) g.cells (mixed g.seed hashes)) wide narrow top n) where
  whole_sum : n + length (attempt (cells_of g) g.cells (mixed g.seed hashes)).left ≡ length hashes
  whole_sum = all_peeled _ _ _ _ wide narrow top n R ∙ length-map hashes (graph_hash g.seed)

  pub peeled_fits : n ≤ length hashes
  peeled_fits = omega (arith, whole_sum)

  pub attempt_short : n < length hashes → AttemptPost g.segments.segment g.segments.count g.seed hashes before before false
  attempt_short l = record { answer = sym no; cells = ap (λ (b : Bool). cond b (cells_laid g.segments.segment g.segments.count g.seed hashes) before) (sym no) }
    where
      no : succeeds g.segments.segment g.segments.count g.seed hashes ≡ false
      no =
          ap (λ (c : ℕ). peels_all (cells_of g) c (mixed g.seed hashes)) (sym g.whole)
          ∙ peels_some _ g.cells (mixed g.seed hashes) (λ e. omega (arith, whole_sum))

  pub attempt_whole : length hashes ≤ n → (after : List ℕ) → after ≡ fill (cells_of g) (peels_in g.cells n wide narrow) (replicate g.cells 0)
      → AttemptPost g.segments.segment g.segments.count g.seed hashes before after true
  attempt_whole l after e = record { answer = sym yes; cells = e ∙ full ∙ ap (λ (b : Bool). cond b (cells_laid g.segments.segment g.segments.count g.seed hashes) before) (sym yes) }
    where
      yes : succeeds g.segments.segment g.segments.count g.seed hashes ≡ true
      yes =
          ap (λ (c : ℕ). peels_all (cells_of g) c (mixed g.seed hashes)) (sym g.whole)
          ∙ peels_all_lem _ g.cells (mixed g.seed hashes) (omega (arith, whole_sum))

      full : fill (cells_of g) (peels_in g.cells n wide narrow) (replicate g.cells 0) ≡ cells_laid g.segments.segment g.segments.count g.seed hashes
      full = filled_is (cells_of g) g.cells (mixed g.seed hashes) _ R.peeled ∙ ap (λ (c : ℕ). cells_after (cells_of g) c (mixed g.seed hashes)) g.whole
