-- Laws of `up_to`, the place of a number in a rising table. Assumes nothing.
use mathlib.Core.Path.{◌≡◌, ap}
use mathlib.Core.Bool.{Bool, true, false, cond, and-eq-true_iff}
use mathlib.Core.List.{List, [], ◌∷◌}
use Prim.Native.Nat.{ℕ, zero, suc, ◌≤◌, ◌<◌}
use native.Mathlib.Nat.{not-suc-le-zero, le_of_suc-le-suc}
use native.Mathlib.Omega.{arith}
use lib.Dec.{leb, ltb}
use lib.ListN.{length, get_or}
use borrow.Author.Tests.{leb-true, leb-false, le-leb, lt-leb, ltb-true, ltb-false}
use Rattle.std.specs.List.{AllWithin}
use Rattle.std.specs.List.Sorted.{IsPartitionedBy, IsPartitionPoint}
use Rattle.std.proofs.lemmas.List.{get_or_default}
use Rattle.laws.proofs.Cases.{by_test}
use Rattle.sizing.specs.Sizing.{up_to, rises_from, rises_strictly}

-- the table's first number is at most n, or greater
pub up_to_yes : (x : ℕ) (xs : List ℕ) (n : ℕ) → x ≤ n → up_to (x ∷ xs) n ≡ suc (up_to xs n)
unfolding up_to
up_to_yes x xs n h = ap (λ (b : Bool). cond b (suc (up_to xs n)) zero) (le-leb x n h)

pub up_to_no : (x : ℕ) (xs : List ℕ) (n : ℕ) → n < x → up_to (x ∷ xs) n ≡ zero
unfolding up_to
up_to_no x xs n h = ap (λ (b : Bool). cond b (suc (up_to xs n)) zero) (lt-leb x n h)

pub up_to_length : (xs : List ℕ) (n : ℕ) → up_to xs n ≤ length xs
unfolding up_to
up_to_length [] n = omega arith
up_to_length (x ∷ xs) n = by_test (leb x n) (λ e. rw e (omega (arith, up_to_length xs n))) (λ e. rw e (omega arith))

-- a number of the table that is greater than n ends the front
pub up_to_back : (xs : List ℕ) (n i : ℕ) → i < length xs → n < get_or xs i 0 → up_to xs n ≤ i
up_to_back [] n i l h = absurd (not-suc-le-zero l)
up_to_back (x ∷ xs) n zero l h = omega (arith, up_to_no x xs n h)
up_to_back (x ∷ xs) n (suc i) l h =
    by_test (leb x n)
    (λ e. omega (arith, up_to_yes x xs n (leb-true x n e), up_to_back xs n i (le_of_suc-le-suc l) h))
    (λ e. omega (arith, up_to_no x xs n (leb-false x n e)))

-- a rising table: its next number is greater, and the rest rises too
rises_next : (x y : ℕ) (ys : List ℕ) → rises_from x (y ∷ ys) ≡ true → (x < y) × (rises_from y ys ≡ true)
unfolding rises_from
rises_next x y ys t = let p = (and-eq-true_iff (ltb x y) (rises_from y ys)).0 t in (ltb-true x y p.0, p.1)

-- every later number is greater
above : (x : ℕ) (xs : List ℕ) → rises_from x xs ≡ true → (i : ℕ) → i < length xs → x < get_or xs i 0
above x [] t i l = absurd (not-suc-le-zero l)
above x (y ∷ ys) t zero l = (rises_next x y ys t).0
above x (y ∷ ys) t (suc i) l =
    let h = above y ys (rises_next x y ys t).1 i (le_of_suc-le-suc l) in
    omega (arith, (rises_next x y ys t).0)

front : (x : ℕ) (xs : List ℕ) → rises_from x xs ≡ true → (n i : ℕ) → i < suc (length xs) → get_or (x ∷ xs) i 0 ≤ n → i < up_to (x ∷ xs) n
front x xs t n zero l h = omega (arith, up_to_yes x xs n h)
front x [] t n (suc i) l h = absurd (not-suc-le-zero (le_of_suc-le-suc l))
front x (y ∷ ys) t n (suc i) l h =
    let a = above x (y ∷ ys) t i (le_of_suc-le-suc l) in
    let f = front y ys (rises_next x y ys t).1 n i (le_of_suc-le-suc l) h in
    omega (arith, up_to_yes x (y ∷ ys) n (omega arith))

-- a number of a rising table that is at most n belongs to the front
pub up_to_front : (xs : List ℕ) → rises_strictly xs ≡ true → (n i : ℕ) → i < length xs → get_or xs i 0 ≤ n → i < up_to xs n
unfolding rises_strictly
up_to_front [] t n i l h = absurd (not-suc-le-zero l)
up_to_front (x ∷ xs) t n i l h = front x xs t n i l h

-- so the numbers of a rising table that are at most n stand in front of those that are greater
pub rising_parted : (xs : List ℕ) → rises_strictly xs ≡ true → (n : ℕ) → IsPartitionedBy (λ x. leb x n) xs
rising_parted xs t n i j d ij jl e =
    by_test (leb (get_or xs i d) n) (λ y. y)
    (λ y.
    let back : up_to xs n ≤ i = up_to_back xs n i (omega arith) (omega (arith, leb-false _ _ y, get_or_default xs i d 0 (omega arith))) in
    let front : j < up_to xs n = up_to_front xs t n j jl (omega (arith, leb-true _ _ e, get_or_default xs j d 0 jl)) in
    absurd (omega arith))

-- and the point between them is their number
pub parted_up_to : (xs : List ℕ) → rises_strictly xs ≡ true → (n k : ℕ) → k ≤ length xs
    → IsPartitionPoint (λ x. leb x n ≡ true) (λ x. leb x n ≡ false) xs k → k ≡ up_to xs n
parted_up_to xs t n k b p = omega (arith, upper, lower k b p.0)
  where
    upper : up_to xs n ≤ k
    upper =
        by_test (ltb k (length xs))
        (λ y. let l : k < length xs = ltb-true _ _ y in up_to_back xs n k l (leb-false _ _ (p.1 k 0 (omega arith) l)))
        (λ y. omega (arith, ltb-false _ _ y, up_to_length xs n))

    lower : (i : ℕ) → i ≤ length xs → AllWithin (λ x. leb x n ≡ true) xs 0 i → i ≤ up_to xs n
    lower zero l a = omega arith
    lower (suc i) l a = up_to_front xs t n i (omega arith) (leb-true _ _ (a i 0 (omega arith) (omega arith)))
