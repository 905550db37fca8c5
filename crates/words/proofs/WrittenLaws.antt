-- Fields behind a front: a number that was written is read again, and a number that was read is written again. Assumes nothing.
use Rattle.std.proofs.Common.{◌≡◌, ℕ, ◌+◌, ◌^◌, ◌<◌, ◌≤◌, List, ◌++◌, length, take, drop, sym, ap, ◌∙◌, mod-eq_of_lt, arith, take-append-drop, drop-drop, take_at, drop_at}
use Rattle.words.specs.Field.{spelled, le, bytes_of}
use Rattle.words.proofs.Laws.{length_bytes_of, spelled_bytes_of, bytes_of_le}
use Rattle.words.specs.Field.{AllBytes}

-- a number that stands at a place
pub le_there : (k n p : ℕ) (zs ys : List ℕ) → n < 256 ^ k → drop p zs ≡ bytes_of k n ++ ys → le k zs p ≡ n
unfolding le
le_there k n p zs ys h e =
    ap (λ (z : List ℕ). spelled (take k z)) e
    ∙ ap spelled (take_at (bytes_of k n) ys k (length_bytes_of k n))
    ∙ spelled_bytes_of k n
    ∙ mod-eq_of_lt h

-- a number written behind a front of p elements
pub le_written : (k n p : ℕ) (zs xs ys : List ℕ) → n < 256 ^ k → length xs ≡ p → zs ≡ xs ++ (bytes_of k n ++ ys) → le k zs p ≡ n
le_written k n p zs xs ys h l e = le_there k n p zs ys h (ap (drop p) e ∙ drop_at xs (bytes_of k n ++ ys) p l)

-- a part and what follows it
pub part_rest : (k at to : ℕ) (xs : List ℕ) → at + k ≡ to → take k (drop at xs) ++ drop to xs ≡ drop at xs
part_rest k at to xs e =
    ap (λ (r : List ℕ). take k (drop at xs) ++ r) (ap (λ (n : ℕ). drop n xs) (sym e) ∙ sym (drop-drop k at xs))
    ∙ take-append-drop k (drop at xs)

-- a number that was read, and what follows it
pub read_rest : (k : ℕ) (xs : List ℕ) (at to : ℕ) → AllBytes xs → to ≤ length xs → at + k ≡ to → bytes_of k (le k xs at) ++ drop to xs ≡ drop at xs
read_rest k xs at to b h e = ap (λ (r : List ℕ). r ++ drop to xs) (bytes_of_le k xs at b (omega arith)) ∙ part_rest k at to xs e
