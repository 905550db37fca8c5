-- Laws of `occurs`, `without` and `rising`, and the pigeonhole: numbers below c, none twice, are at most c. Assumes nothing.
use mathlib.Core.Path.{◌≡◌, refl, sym, ap, ◌∙◌}
use mathlib.Core.Bool.{cond}
use mathlib.Core.List.{List, [], ◌∷◌, ◌++◌}
use Prim.Native.Nat.{ℕ, zero, suc, ◌+◌, ◌-◌, ◌<◌, ◌≤◌, zero-le}
use native.Mathlib.Nat.{not-suc-le-zero}
use native.Mathlib.Omega.{arith}
use borrow.Author.Tests.{eqb-true, eqb-false, eq-eqb, ne_eqb, ltb-true, ltb-false}
use lib.Dec.{eqb, ltb}
use lib.ListN.{length, get_or, set}
use Rattle.laws.proofs.Cases.{by_test}
use Rattle.laws.specs.Count.{one, occurs, among, without, rising}

pub occurs_nil : (v : ℕ) → occurs v [] ≡ 0
unfolding occurs
occurs_nil v = refl

pub occurs_cons : (v x : ℕ) (xs : List ℕ) → occurs v (x ∷ xs) ≡ one (eqb v x) + occurs v xs
unfolding occurs
occurs_cons v x xs = refl

pub occurs_here : (x : ℕ) (xs : List ℕ) → occurs x (x ∷ xs) ≡ suc (occurs x xs)
occurs_here x xs = rw (occurs_cons, eq-eqb x x refl) (omega arith)

pub occurs_other : (v x : ℕ) (xs : List ℕ) → (v ≡ x → ⊥) → occurs v (x ∷ xs) ≡ occurs v xs
occurs_other v x xs d = rw (occurs_cons, ne_eqb v x d) (omega arith)

-- a number that stands in a list is counted
pub occurs_at : (xs : List ℕ) (i : ℕ) → i < length xs → 1 ≤ occurs (get_or xs i 0) xs
occurs_at [] i h = absurd (not-suc-le-zero h)
occurs_at (x ∷ xs) zero h = omega (arith, occurs_here x xs)
occurs_at (x ∷ xs) (suc i) h = omega (arith, occurs_cons (get_or xs i 0) x xs, occurs_at xs i (omega arith))

pub occurs_append : (v : ℕ) (xs ys : List ℕ) → occurs v (xs ++ ys) ≡ occurs v xs + occurs v ys
occurs_append v [] ys = rw occurs_nil (omega arith)
occurs_append v (x ∷ xs) ys = simp occurs_cons (omega (arith, occurs_append v xs ys))

pub without_cons : (v x : ℕ) (xs : List ℕ) → without v (x ∷ xs) ≡ cond (eqb v x) xs (x ∷ without v xs)
unfolding without
without_cons v x xs = refl

pub without_nil : (v : ℕ) → without v [] ≡ []
unfolding without
without_nil v = refl

-- where a number that is counted stands
pub occurs_where : (v : ℕ) (xs : List ℕ) → 1 ≤ occurs v xs → (i : ℕ) × (i < length xs) × (get_or xs i 0 ≡ v)
occurs_where v [] h = absurd (not-suc-le-zero (rw occurs_nil at h))
occurs_where v (x ∷ xs) h =
    by_test (eqb v x) (λ e. (0, omega arith, sym (eqb-true v x e)))
    (λ e.
    let w = occurs_where v xs (omega (arith, occurs_other v x xs (eqb-false v x e))) in
    (suc w.0, omega (arith, w.1), w.2))

-- where none from c on is counted, a number that is counted is below c
pub occurs_below : (c v : ℕ) (xs : List ℕ) → ((u : ℕ) → c ≤ u → occurs u xs ≡ 0) → 1 ≤ occurs v xs → v < c
occurs_below c v xs b k = by_test (ltb v c) (λ t. ltb-true v c t) (λ t. absurd (omega (arith, b v (ltb-false v c t))))

-- in a list with none twice, a number stands once or not at all
pub among_once : (v : ℕ) (xs : List ℕ) → occurs v xs ≤ 1 → one (among v xs) ≡ occurs v xs
among_once v xs o = go (occurs v xs) o
  where
    go : (n : ℕ) → n ≤ 1 → one (ltb 0 n) ≡ n
    go zero k = refl
    go (suc zero) k = refl
    go (suc (suc n)) k = omega arith

-- one v goes, if there is one; everything else stays
pub occurs_without : (u v : ℕ) (xs : List ℕ) → 1 ≤ occurs v xs → one (eqb u v) + occurs u (without v xs) ≡ occurs u xs
occurs_without u v [] h = absurd (not-suc-le-zero (rw occurs_nil at h))
occurs_without u v (x ∷ xs) h =
    by_test (eqb v x)
    (λ e. rw (without_cons, e, eqb-true v x e, occurs_cons) refl)
    (λ e.
    let k : 1 ≤ occurs v xs = rw (occurs_other v x xs (eqb-false v x e)) at h in
    rw (without_cons, e) (simp occurs_cons (omega (arith, occurs_without u v xs k))))

-- whether or not there is one
pub occurs_without_le : (u v : ℕ) (xs : List ℕ) → occurs u (without v xs) ≤ occurs u xs
occurs_without_le u v [] = rw (without_nil, occurs_nil) (omega arith)
occurs_without_le u v (x ∷ xs) =
    by_test (eqb v x)
    (λ e. rw (without_cons, e, occurs_cons) (omega arith))
    (λ e. rw (without_cons, e) (simp occurs_cons (omega (arith, occurs_without_le u v xs))))

pub length_without_le : (v : ℕ) (xs : List ℕ) → length xs ≤ suc (length (without v xs))
length_without_le v [] = omega arith
length_without_le v (x ∷ xs) =
    by_test (eqb v x) (λ e. rw (without_cons, e) (omega arith)) (λ e. rw (without_cons, e) (omega (arith, length_without_le v xs)))

pub length_without : (v : ℕ) (xs : List ℕ) → 1 ≤ occurs v xs → suc (length (without v xs)) ≡ length xs
length_without v [] h = absurd (not-suc-le-zero (rw occurs_nil at h))
length_without v (x ∷ xs) h =
    by_test (eqb v x) (λ e. rw (without_cons, e) refl)
    (λ e.
    let k : 1 ≤ occurs v xs = rw (occurs_other v x xs (eqb-false v x e)) at h in
    rw (without_cons, e) (ap suc (length_without v xs k)))

-- c taken out of numbers up to c, none twice, leaves numbers below c
fewer : (c : ℕ) (xs : List ℕ) → ((v : ℕ) → occurs v xs ≤ 1) → ((v : ℕ) → suc c ≤ v → occurs v xs ≡ 0) → (v : ℕ) → c ≤ v → occurs v (without c xs) ≡ 0
fewer c xs o b v h =
    by_test (eqb v c)
    (λ e. by_test (among c xs)
    (λ t.
    let w : one (eqb v c) + occurs v (without c xs) ≡ occurs v xs = occurs_without v c xs (ltb-true 0 (occurs c xs) t) in
    let w' : 1 + occurs v (without c xs) ≡ occurs v xs = rw e at w in
    omega (arith, o v))
    (λ t. omega (arith, occurs_without_le v c xs, ltb-false 0 (occurs c xs) t, ap (λ (x : ℕ). occurs x xs) (eqb-true v c e))))
    (λ e.
    let d : v ≡ c → ⊥ = eqb-false v c e in
    let l : suc c ≤ v = omega arith in
    omega (arith, occurs_without_le v c xs, b v l))

-- the pigeonhole: numbers below c, none twice, are at most c
pub pigeonhole : (c : ℕ) (xs : List ℕ) → ((v : ℕ) → occurs v xs ≤ 1) → ((v : ℕ) → c ≤ v → occurs v xs ≡ 0) → length xs ≤ c
pigeonhole zero [] o b = omega arith
pigeonhole zero (x ∷ xs) o b = omega (arith, b x zero-le, occurs_here x xs)
pigeonhole (suc c) xs o b =
    omega (arith, length_without_le c xs, pigeonhole c (without c xs) (λ v. omega (arith, occurs_without_le v c xs, o v)) (fewer c xs o b))

-- one number of a list is replaced by another
pub occurs_set : (v : ℕ) (xs : List ℕ) (i x : ℕ) → i < length xs → one (eqb v (get_or xs i 0)) + occurs v (set xs i x) ≡ one (eqb v x) + occurs v xs
occurs_set v [] i x h = absurd (not-suc-le-zero h)
occurs_set v (y ∷ ys) zero x h = omega (arith, occurs_cons v y ys, occurs_cons v x ys)
occurs_set v (y ∷ ys) (suc i) x h = omega (arith, occurs_cons v y ys, occurs_cons v y (set ys i x), occurs_set v ys i x (omega arith))

-- a number that stands nowhere in a list is not counted
pub occurs_none : (v : ℕ) (xs : List ℕ) → ((i : ℕ) → i < length xs → get_or xs i 0 ≡ v → ⊥) → occurs v xs ≡ 0
occurs_none v [] n = occurs_nil v
occurs_none v (x ∷ xs) n =
    occurs_other v x xs (λ e. n 0 (omega arith) (sym e)) ∙ occurs_none v xs (λ i h. n (suc i) (omega arith))

-- numbers that differ wherever they stand are counted once at most
pub occurs_apart : (xs : List ℕ) → ((i j : ℕ) → i < length xs → j < length xs → get_or xs i 0 ≡ get_or xs j 0 → i ≡ j) → (v : ℕ) → occurs v xs ≤ 1
occurs_apart [] apart v = omega (arith, occurs_nil v)
occurs_apart (x ∷ xs) apart v =
    by_test (eqb v x)
    (λ e.
    let none : occurs v xs ≡ 0 = occurs_none v xs (λ i h s. absurd (omega (arith, apart 0 (suc i) (omega arith) (omega arith) (sym (s ∙ eqb-true v x e))))) in
    omega (arith, occurs_cons v x xs, ap one e))
    (λ e. omega (arith, occurs_cons v x xs, ap one e, occurs_apart xs (λ i j h k s. omega (arith, apart (suc i) (suc j) (omega arith) (omega arith) s)) v))

-- ---- the numbers from i on

pub rising_cons : (i n : ℕ) → rising i (suc n) ≡ i ∷ rising (suc i) n
unfolding rising
rising_cons i n = refl

pub rising_none : (i : ℕ) → rising i 0 ≡ []
unfolding rising
rising_none i = refl

pub length_rising : (i n : ℕ) → length (rising i n) ≡ n
length_rising i zero = ap length (rising_none i)
length_rising i (suc n) = ap length (rising_cons i n) ∙ ap suc (length_rising (suc i) n)

pub rising_at : (i n j : ℕ) → j < n → get_or (rising i n) j 0 ≡ i + j
rising_at i zero j h = absurd (not-suc-le-zero h)
rising_at i (suc n) zero h = rw rising_cons (omega arith)
rising_at i (suc n) (suc j) h = rw rising_cons (omega (arith, rising_at (suc i) n j (omega arith)))

-- each of them stands there once, and no other
pub rising_once : (i n v : ℕ) → occurs v (rising i n) ≤ 1
rising_once i n v =
    occurs_apart (rising i n)
    (λ j k hj hk e. omega (arith, rising_at i n j (omega (arith, length_rising i n)), rising_at i n k (omega (arith, length_rising i n)))) v

pub rising_has : (i n v : ℕ) → i ≤ v → v < i + n → 1 ≤ occurs v (rising i n)
rising_has i n v a b =
    let l = length_rising i n in
    let e : get_or (rising i n) (v - i) 0 ≡ v = rising_at i n (v - i) (omega arith) ∙ omega arith in
    rw e at (occurs_at (rising i n) (v - i) (omega arith))

pub rising_not : (i n v : ℕ) → i + n ≤ v → occurs v (rising i n) ≡ 0
rising_not i n v h = occurs_none v (rising i n) (λ j l e. omega (arith, length_rising i n, rising_at i n j (omega (arith, length_rising i n))))
