-- n numbers below n, no two of them equal, are all the numbers below n. Assumes nothing.
use Prim.Native.Nat.{ℕ, ◌≤◌, ◌<◌}
use native.Mathlib.Nat.{zero-add}
use native.Mathlib.Omega.{arith}
use mathlib.Core.Path.{◌≡◌, sym, ap, ◌∙◌}
use mathlib.Core.List.{List, ◌∷◌, map}
use lib.Dec.{eqb}
use lib.ListN.{length, length-map, get_or}
use borrow.Author.Tests.{eqb-true, ltb-true, ltb-false}
use Rattle.laws.proofs.Cases.{by_test}
use Rattle.laws.specs.Count.{one, occurs, among, rising}
use Rattle.laws.proofs.CountLaws.{occurs_cons, occurs_other, occurs_where, occurs_none, occurs_apart, pigeonhole, length_rising, rising_at}
use Rattle.laws.proofs.Lists.{map_at}
use Rattle.laws.specs.Pigeonhole.{Into, Hit}

-- every number below n is hit: if s were not, s and the n numbers would be n + 1 numbers below n, none twice
pub onto : (n : ℕ) (f : ℕ → ℕ) → Into n f → (s : ℕ) → s < n → Hit n f s
onto n f h s l =
    by_test (among s xs)
    (λ t.
    let w = occurs_where s xs (ltb-true 0 (occurs s xs) t) in
    record { index = w.0; low = low w.0 w.1; is = sym (at w.0 w.1) ∙ w.2 })
    (λ t. absurd (omega (arith, size, pigeonhole n (s ∷ xs) (once (ltb-false 0 (occurs s xs) t)) below)))
  where
    xs : List ℕ
    xs = map f (rising 0 n)

    size : length (map f (rising 0 n)) ≡ n
    size = length-map (rising 0 n) f ∙ length_rising 0 n

    low : (i : ℕ) → i < length (map f (rising 0 n)) → i < n
    low i g = omega (arith, size)

    at : (i : ℕ) → i < length (map f (rising 0 n)) → get_or (map f (rising 0 n)) i 0 ≡ f i
    at i g = map_at f (rising 0 n) i (omega (arith, length-map (rising 0 n) f)) ∙ ap f (rising_at 0 n i (low i g) ∙ zero-add i)

    once : occurs s (map f (rising 0 n)) ≤ 0 → (v : ℕ) → occurs v (s ∷ map f (rising 0 n)) ≤ 1
    once z v =
        by_test (eqb v s)
        (λ e. omega (arith, occurs_cons v s (map f (rising 0 n)), ap one e, ap (λ (u : ℕ). occurs u (map f (rising 0 n))) (eqb-true v s e)))
        (λ e.
        omega (
          arith,
          occurs_cons v s (map f (rising 0 n)),
          ap one e,
          occurs_apart (map f (rising 0 n)) (λ i j gi gj q. h.apart i j (low i gi) (low j gj) (sym (at i gi) ∙ q ∙ at j gj)) v,
        ))

    below : (v : ℕ) → n ≤ v → occurs v (s ∷ map f (rising 0 n)) ≡ 0
    below v g =
        occurs_other v s (map f (rising 0 n)) (λ e. omega arith)
        ∙ occurs_none v (map f (rising 0 n)) (λ i gi e. omega (arith, at i gi, h.below i (low i gi)))
