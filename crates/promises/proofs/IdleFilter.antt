-- An idle filter is shut out: an attempt over one hash takes it off at its first step. Assumes nothing.
use Rattle.std.specs.Prelude.{Ok}
use Prim.Native.Nat.{ℕ, zero, suc, ◌-◌, ◌≤◌, ◌<◌}
use native.Mathlib.Omega.{arith}
use mathlib.Core.Path.{◌≡◌, refl, sym, ap, ◌∙◌}
use mathlib.Core.Bool.{true, false≢true}
use mathlib.Core.List.{List, [], ◌∷◌}
use borrow.Author.Tests.{eqb-true, eqb-false, eq-eqb}
use lib.Dec.{eqb}
use lib.ListN.{length}
use Rattle.laws.proofs.Cases.{by_test}
use Rattle.laws.specs.Count.{one, occurs, among, without, rising}
use Rattle.laws.proofs.CountLaws.{occurs_nil, occurs_cons, occurs_here, among_once, without_cons, rising_has}
use Rattle.mixing.specs.Mixing.{mix_of}
use Rattle.fuse.specs.Asking.{graph_hash}
use Rattle.fuse.specs.Positions.{Usable, cells_in, cell_of, positions_of}
use Rattle.fuse.proofs.AskLaws.{graph_lt}
use Rattle.fuse.proofs.PositionLaws.{cell_below}
use Rattle.sizing.specs.Sizing.{segment_of, segments_of, sizes_of}
use Rattle.sizing.proofs.SizedLaws.{usable}
use Rattle.sort.specs.Sort.{insert, sorted}
use Rattle.peel.specs.Peel.{Attempt, lying, degree, queued, begun, take_cell, take_next, one_step, run, attempt, peels_all, succeeds}
use Rattle.peel.proofs.PeelLaws.{lying_nil, lying_cons, degree_nil, degree_cons, queued_yes, queued_no}
use Rattle.peel.proofs.PlaceLaws.{positions_placed}
use Rattle.filter.specs.declared.Built.TheVariants.{Positive}
use Rattle.filter.specs.Building.{peels_by, BuildPost, WhyPositive, no_hashes, equal_hashes, no_attempt}
use Rattle.filter.proofs.BuiltLaws.{positive_cause}
use Rattle.promises.specs.IdleFilter.{IdleFilter}

module _ (pos : ℕ → List ℕ) where
  -- with no hash left, none comes back
  none_stays : (n : ℕ) (s : Attempt) → s.left ≡ [] → (run pos n s).left ≡ []
  unfolding run
  none_stays zero s e = e
  none_stays (suc n) s e = none_stays n (one_step pos s) (go s.queue)
    where
      go : (q : List ℕ) → (take_next pos q s).left ≡ []
      go [] = e
      go (p ∷ q) = ap (λ (l : List ℕ). (take_cell pos l p q s).left) (ap (lying pos p) e ∙ lying_nil pos p) ∙ e

  module _ (h : ℕ) where
    -- the one hash lies alone on a cell of degree 1
    alone : (p : ℕ) → degree pos p (h ∷ []) ≡ 1 → lying pos p (h ∷ []) ≡ h ∷ []
    alone p d =
        by_test (among p (pos h))
        (λ t. rw (lying_cons, t, lying_nil) refl)
        (λ t. absurd (omega (arith, degree_cons pos p h [], degree_nil pos p, ap one t)))

    without_it : without h (h ∷ []) ≡ []
    without_it = rw (without_cons, eq-eqb h h refl) refl

    -- so the first step takes it off
    first_step : (s : Attempt) (p : ℕ) (q : List ℕ) → s.left ≡ h ∷ [] → s.queue ≡ p ∷ q → degree pos p (h ∷ []) ≡ 1 → (one_step pos s).left ≡ []
    first_step s p q l e d =
        ap (λ (x : List ℕ). (take_next pos x s).left) e
        ∙ ap (λ (x : List ℕ). (take_cell pos x p q s).left) (ap (lying pos p) l ∙ alone p d)
        ∙ ap (without h) l ∙ without_it

    module _ (n p : ℕ) (low : p < suc n) (lies : degree pos p (h ∷ []) ≡ 1) where
      from_start : (q : List ℕ) → queued pos (h ∷ []) (rising 0 (suc n)) [] ≡ q → (one_step pos (begun pos (suc n) (h ∷ []))).left ≡ []
      from_start [] e =
          absurd (omega (arith, queued_yes pos (h ∷ []) p lies (rising 0 (suc n)) [], ap (occurs p) e, occurs_nil p, rising_has 0 (suc n) p (omega arith) (omega arith)))
      from_start (v ∷ q) e =
          by_test (eqb (degree pos v (h ∷ [])) 1)
          (λ t. first_step (begun pos (suc n) (h ∷ [])) v q refl e (eqb-true _ _ t))
          (λ t. absurd (omega (arith, queued_no pos (h ∷ []) v (eqb-false _ _ t) (rising 0 (suc n)) [], ap (occurs v) e, occurs_here v q, occurs_nil v)))

      one_peels : peels_all pos (suc n) (h ∷ []) ≡ true
      unfolding peels_all attempt run
      one_peels = eq-eqb _ _ (ap length (none_stays n (one_step pos (begun pos (suc n) (h ∷ []))) (from_start _ refl)))

-- a cell that one number below c names once
cell_peels : (pos : ℕ → List ℕ) (c h p : ℕ) → p < c → degree pos p (h ∷ []) ≡ 1 → peels_all pos c (h ∷ []) ≡ true
cell_peels pos zero h p low lies = absurd (omega arith)
cell_peels pos (suc n) h p low lies = one_peels pos h n p low lies

-- the first of its four cells is one of them
first_cell_lem : (segment count h : ℕ) → 1 ≤ occurs (cell_of segment count h 0) (positions_of segment count h)
unfolding positions_of
first_cell_lem segment count h = omega (arith, occurs_here (cell_of segment count h 0) (cell_of segment count h 1 ∷ cell_of segment count h 2 ∷ cell_of segment count h 3 ∷ []))

one_hash_peels : (segment count seed hash : ℕ) → Usable segment count → succeeds segment count seed (hash ∷ []) ≡ true
one_hash_peels segment count seed hash u =
    let placed = positions_placed segment count (graph_hash seed hash) u (graph_lt seed hash) in
    cell_peels (positions_of segment count) (cells_in segment count) (graph_hash seed hash) (cell_of segment count (graph_hash seed hash) 0)
    (cell_below segment count u (graph_hash seed hash) (graph_lt seed hash) 0 (omega arith))
    (omega (
      arith,
      degree_cons (positions_of segment count) (cell_of segment count (graph_hash seed hash) 0) (graph_hash seed hash) [],
      degree_nil (positions_of segment count) (cell_of segment count (graph_hash seed hash) 0),
      among_once (cell_of segment count (graph_hash seed hash) 0) (positions_of segment count (graph_hash seed hash)) (placed.apart (cell_of segment count (graph_hash seed hash) 0)),
      placed.apart (cell_of segment count (graph_hash seed hash) 0),
      first_cell_lem segment count (graph_hash seed hash),
    ))

sorted_one : (hash : ℕ) → sorted (hash ∷ []) ≡ hash ∷ []
unfolding sorted insert
sorted_one hash = refl

first_attempt_lem : (hash : ℕ) → peels_by (sizes_of 1) (sorted (hash ∷ [])) 1 ≡ true
unfolding sizes_of
first_attempt_lem hash =
    ap (λ (hs : List ℕ). succeeds (segment_of 1) (segments_of 1 - 3) (mix_of 1) hs) (sorted_one hash)
    ∙ one_hash_peels (segment_of 1) (segments_of 1 - 3) (mix_of 1) hash (usable 1 (omega arith) (omega arith))

never_positive : {hash : ℕ} {wide narrow out hashes' wide' narrow' out' : List ℕ} → BuildPost (hash ∷ []) wide narrow out (Ok Positive) hashes' wide' narrow' out' → ⊥
never_positive {hash} P = go (positive_cause P refl)
  where
    go : WhyPositive (hash ∷ []) → ⊥
    go (no_hashes z) = omega arith
    go (equal_hashes v k) = by_test (eqb v hash) (λ e. omega (arith, occurs_cons v hash [], occurs_nil v, ap one e)) (λ e. omega (arith, occurs_cons v hash [], occurs_nil v, ap one e))
    go (no_attempt f) = false≢true (sym (f 1 (omega arith) (omega arith)) ∙ first_attempt_lem hash)

-- THEOREM: an idle filter is shut out
pub idle_filter : IdleFilter
idle_filter = record { one_hash_peels = one_hash_peels; never_positive = never_positive }
