-- The four cells of a hash are apart and lie below the number of cells. Assumes nothing.
use Rattle.std.proofs.Common.{◌≡◌, ℕ, ◌^◌, ◌<◌, ◌≤◌, eqb, List, [], ◌∷◌, length, get_or, sym, ◌∙◌, arith, eqb-true}
use Rattle.laws.proofs.Cases.{by_test}
use Rattle.laws.specs.Count.{occurs}
use borrow.Author.Tests.{eqb-false}
use Rattle.laws.proofs.CountLaws.{occurs_nil, occurs_other, occurs_none, occurs_apart}
use Rattle.fuse.specs.Asking.{graph_hash}
use Rattle.peel.specs.declared.graph.Graph.{Graph}
use Rattle.peel.specs.Peel.{mixed}
use Rattle.peel.specs.Inner.Table.{cells_of}
use Rattle.fuse.specs.Positions.{Usable, cells_in, cell_of, positions_of}
use Rattle.fuse.proofs.Props.{usable_known}
use Rattle.fuse.proofs.AskLaws.{graph_lt}
use Rattle.fuse.proofs.PositionLaws.{cell_below, cell_apart, position_at, positions_length}
use Rattle.peel.specs.Inner.Sound.{Placed}

pub positions_placed : (segment count h : ℕ) → Usable segment count → h < 2 ^ 64 → Placed (cells_in segment count) (positions_of segment count) h
positions_placed segment count h u b =
    record {
      apart = occurs_apart (positions_of segment count h)
          (λ i j hi hj e. cell_apart segment count u h i j (sym (at i hi) ∙ e ∙ at j hj));
      below = λ v k. occurs_none v (positions_of segment count h)
          (λ i hi e. omega (arith, at i hi, cell_below segment count u h b i (inside i hi)));
    }
  where
    inside : (i : ℕ) → i < length (positions_of segment count h) → i < 4
    inside i hi = omega (arith, positions_length segment count h)

    at : (i : ℕ) → i < length (positions_of segment count h) → get_or (positions_of segment count h) i 0 ≡ cell_of segment count h i
    at i hi = position_at segment count h i (inside i hi)

-- a graph's sizes belong together: the number of cells fits 32 bits, and each mixed hash has its four cells
pub whole_small : (g : Graph) → g.cells < 2 ^ 32
whole_small g = rw g.whole (usable_known _ _ g.segments.usable).small

pub graph_placed : (g : Graph) → (seed hash h : ℕ) → h ≡ graph_hash seed hash → Placed g.cells (cells_of g) h
graph_placed g seed hash h e = rw g.whole (positions_placed g.segments.segment g.segments.count h (usable_known _ _ g.segments.usable) (rw e (graph_lt seed hash)))

pub mixed_placed : (segment count : ℕ) → Usable segment count → (seed : ℕ) (hashes : List ℕ) (h : ℕ) → 1 ≤ occurs h (mixed seed hashes)
    → Placed (cells_in segment count) (positions_of segment count) h
mixed_placed segment count u seed [] h k = absurd (omega (arith, occurs_nil h))
mixed_placed segment count u seed (x ∷ hashes) h k =
    by_test (eqb h (graph_hash seed x))
    (λ e. positions_placed segment count h u (rw (eqb-true h (graph_hash seed x) e) (graph_lt seed x)))
    (λ e. mixed_placed segment count u seed hashes h (omega (arith, occurs_other h (graph_hash seed x) (mixed seed hashes) (eqb-false h (graph_hash seed x) e))))

pub whole_placed : (g : Graph) → (hashes : List ℕ) (h : ℕ) → 1 ≤ occurs h (mixed g.seed hashes) → Placed g.cells (cells_of g) h
whole_placed g hashes h k = rw g.whole (mixed_placed g.segments.segment g.segments.count (usable_known _ _ g.segments.usable) g.seed hashes h k)
