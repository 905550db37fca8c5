-- Rows of fields of one size: written one after another they are one part. Assumes nothing.
use Prim.Native.Nat.{ℕ, suc, ◌+◌, ◌*◌, ◌≤◌, ◌<◌}
use native.Mathlib.Nat.{add-zero, mul-zero, mul-suc}
use native.Mathlib.Numerals.{add-one}
use native.Mathlib.Omega.{arith}
use mathlib.Core.Path.{◌≡◌, refl, sym, ap, ◌∙◌}
use mathlib.Core.List.{List, [], ◌∷◌, ◌++◌, flat_map, append-nil, append_assoc}
use lib.ListN.{length, get_or, take, drop, length-append, take-append-drop}
use lib.Seq.{take-suc, length-take-le, split_at}
use Rattle.words.specs.Field.{splice}
use Rattle.words.proofs.Laws.{splice_then}

pub splice_none : (xs : List ℕ) (at : ℕ) → splice xs at [] ≡ xs
unfolding splice
splice_none xs at = simp append-nil (ap (λ (x : ℕ). take at xs ++ drop x xs) (add-zero at) ∙ take-append-drop at xs)

module _ (f : ℕ → List ℕ) where
  flat_append : (xs ys : List ℕ) → flat_map f (xs ++ ys) ≡ flat_map f xs ++ flat_map f ys
  unfolding flat_map
  flat_append [] ys = refl
  flat_append (x ∷ xs) ys = ap (λ (z : List ℕ). f x ++ z) (flat_append xs ys) ∙ sym (append_assoc (f x) (flat_map f xs) (flat_map f ys))

  flat_cons : (y : ℕ) (ys : List ℕ) → flat_map f (y ∷ ys) ≡ f y ++ flat_map f ys
  unfolding flat_map
  flat_cons y ys = refl

  flat_one : (x : ℕ) → flat_map f (x ∷ []) ≡ f x
  unfolding flat_map
  flat_one x = append-nil (f x)

  pub flat_none : (ys : List ℕ) → flat_map f (take 0 ys) ≡ []
  unfolding flat_map
  flat_none ys = refl

  -- two functions that agree on a row
  pub flat_same : (g : ℕ → List ℕ) (xs : List ℕ) → ((i : ℕ) → i < length xs → f (get_or xs i 0) ≡ g (get_or xs i 0)) → flat_map f xs ≡ flat_map g xs
  unfolding flat_map
  flat_same g [] h = refl
  flat_same g (x ∷ xs) h = rw (h 0 (omega arith), flat_same g xs (λ i l. h (suc i) (omega arith)))

  -- a row, split around one of its fields
  pub flat_split : (xs : List ℕ) (k : ℕ) → k < length xs → flat_map f xs ≡ flat_map f (take k xs) ++ (f (get_or xs k 0) ++ flat_map f (drop (suc k) xs))
  flat_split xs k l = ap (flat_map f) (split_at xs k 0 l) ∙ flat_append (take k xs) (get_or xs k 0 ∷ drop (suc k) xs) ∙ ap (λ (z : List ℕ). flat_map f (take k xs) ++ z) (flat_cons (get_or xs k 0) (drop (suc k) xs))

  module _ (k : ℕ) (size : (x : ℕ) → length (f x) ≡ k) where
    pub flat_long : (xs : List ℕ) → length (flat_map f xs) ≡ k * length xs
    unfolding flat_map
    flat_long [] = sym (mul-zero k)
    flat_long (x ∷ xs) = length-append (f x) (flat_map f xs) ∙ omega (arith, size x, flat_long xs, mul-suc k (length xs))

    -- one field more
    pub row_more : (xs : List ℕ) (at : ℕ) (ys : List ℕ) (i : ℕ) → i < length ys → at + k * i ≤ length xs
        → splice (splice xs at (flat_map f (take i ys))) (at + k * i) (f (get_or ys i 0)) ≡ splice xs at (flat_map f (take (i + 1) ys))
    row_more xs at ys i l h =
        let e : length (flat_map f (take i ys)) ≡ k * i = flat_long (take i ys) ∙ ap (λ (x : ℕ). k * x) (length-take-le i ys (omega arith)) in
        splice_then xs at (flat_map f (take i ys)) (at + k * i) (f (get_or ys i 0)) (omega arith) (omega arith)
        ∙ ap (splice xs at)
        (ap (λ (z : List ℕ). flat_map f (take i ys) ++ z) (sym (flat_one (get_or ys i 0)))
        ∙ sym (flat_append (take i ys) (get_or ys i 0 ∷ []))
        ∙ ap (flat_map f) (sym (ap (λ (x : ℕ). take x ys) (add-one i) ∙ take-suc ys i 0 l)))

-- no field yet
pub row_none : (f : ℕ → List ℕ) (xs : List ℕ) (at : ℕ) (ys : List ℕ) → splice xs at (flat_map f (take 0 ys)) ≡ xs
row_none f xs at ys = ap (splice xs at) (flat_none f ys) ∙ splice_none xs at
