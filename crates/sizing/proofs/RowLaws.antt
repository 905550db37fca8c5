-- A table whose row i, of a first key count and a number, runs to the next row's first key count: a test computed once at each row, and
-- what it says at each n. Assumes nothing.
use mathlib.Core.Path.{◌≡◌, sym, ◌∙◌, subst}
use mathlib.Core.Bool.{Bool, true, false, ◌&&◌, and-eq-true_iff, false≢true}
use mathlib.Core.List.{List, [], ◌∷◌}
use Prim.Native.Nat.{ℕ, zero, suc, ◌+◌, ◌≤◌, ◌<◌}
use native.Mathlib.Nat.{add-zero, suc-add, add-suc}
use native.Mathlib.Omega.{arith}
use lib.Dec.{leb}
use lib.ListN.{length, get_or}
use borrow.Author.Tests.{leb-true, leb-false}
use Rattle.laws.proofs.Cases.{by_test}
use Rattle.sizing.specs.Sizing.{up_to}
use Rattle.sizing.proofs.SearchLaws.{up_to_yes, up_to_no}

-- the test passes at each row: its place, its first key count, the next row's, and its number
unfoldable pub walk : (ℕ → ℕ → ℕ → ℕ → Bool) → (end i f : ℕ) → List ℕ → List ℕ → Bool
walk test end i f [] [] = false
walk test end i f [] (s ∷ ss) = test i f end s
walk test end i f (g ∷ fs) [] = false
walk test end i f (g ∷ fs) (s ∷ ss) = test i f g s && walk test end (suc i) g fs ss

-- its test at row j, of those from i on
pub walk_row : (test : ℕ → ℕ → ℕ → ℕ → Bool) (end i f : ℕ) (fs ss : List ℕ) → walk test end i f fs ss ≡ true → (j : ℕ) → j < length (f ∷ fs)
    → test (i + j) (get_or (f ∷ fs) j 0) (get_or (f ∷ fs) (suc j) end) (get_or ss j 0) ≡ true
unfolding walk
walk_row test end i f [] [] t j l = absurd (false≢true t)
walk_row test end i f [] (s ∷ ss) t zero l = rw (add-zero i) t
walk_row test end i f [] (s ∷ ss) t (suc j) l = absurd (omega arith)
walk_row test end i f (g ∷ fs) [] t j l = absurd (false≢true t)
walk_row test end i f (g ∷ fs) (s ∷ ss) t zero l = rw (add-zero i) ((and-eq-true_iff (test i f g s) (walk test end (suc i) g fs ss)).0 t).0
walk_row test end i f (g ∷ fs) (s ∷ ss) t (suc j) l =
    subst (λ (k : ℕ). test k (get_or (g ∷ fs) j 0) (get_or (g ∷ fs) (suc j) end) (get_or ss j 0) ≡ true) (suc-add i j ∙ sym (add-suc i j))
    (walk_row test end (suc i) g fs ss ((and-eq-true_iff (test i f g s) (walk test end (suc i) g fs ss)).0 t).1 j (omega arith))

-- the row that n lies in, with its test
pub record At (test : ℕ → ℕ → ℕ → ℕ → Bool) (n i s : ℕ) : Type 0 where
  pub first : ℕ
  pub next : ℕ
  pub from : first ≤ n
  pub below : n < next
  pub passes : test i first next s ≡ true

pub row : (test : ℕ → ℕ → ℕ → ℕ → Bool) (end i f : ℕ) (fs ss : List ℕ) → walk test end i f fs ss ≡ true → (n : ℕ) → f ≤ n → n < end
    → At test n (i + up_to fs n) (get_or ss (up_to fs n) 0)
unfolding walk up_to
row test end i f [] [] t n l h = absurd (false≢true t)
row test end i f [] (s ∷ ss) t n l h =
    record { first = f; next = end; from = l; below = h; passes = subst (λ (j : ℕ). test j f end s ≡ true) (sym (add-zero i)) t }
row test end i f (g ∷ fs) [] t n l h = absurd (false≢true t)
row test end i f (g ∷ fs) (s ∷ ss) t n l h =
    let p = (and-eq-true_iff (test i f g s) (walk test end (suc i) g fs ss)).0 t in
    by_test (leb g n)
    (λ e.
    subst (λ (j : ℕ). At test n (i + j) (get_or (s ∷ ss) j 0)) (sym (up_to_yes g fs n (leb-true g n e)))
    (subst (λ (j : ℕ). At test n j (get_or ss (up_to fs n) 0)) (suc-add i (up_to fs n) ∙ sym (add-suc i (up_to fs n))) (row test end (suc i) g fs ss p.1 n (leb-true g n e) h)))
    (λ e.
    subst (λ (j : ℕ). At test n (i + j) (get_or (s ∷ ss) j 0)) (sym (up_to_no g fs n (leb-false g n e)))
    (record { first = f; next = g; from = l; below = leb-false g n e; passes = subst (λ (j : ℕ). test j f g s ≡ true) (sym (add-zero i)) p.0 }))
