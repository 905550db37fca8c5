-- A part put in front of a list, over the whole of it, or back where it was lent from. Assumes nothing.
use Rattle.std.proofs.Common.{◌≡◌, ℕ, ◌+◌, ◌≤◌, List, ◌++◌, length, take, drop, sym, ap, ◌∙◌, append_assoc, append-nil, arith, length-append, drop_of_length-le, drop-drop}
use borrow.Rule.Slice.PartMut.{put_mid}
use Rattle.words.specs.Field.{splice}
use Rattle.words.proofs.Laws.{drop_splice_in}

-- in front
pub splice_front : (xs ys : List ℕ) → splice xs 0 ys ≡ ys ++ drop (length ys) xs
unfolding splice
splice_front xs ys = ap (λ (k : ℕ). ys ++ drop k xs) {x = 0 + length ys} {y = length ys} (omega arith)

-- over the whole list
pub splice_whole : (xs ys : List ℕ) → length ys ≡ length xs → splice xs 0 ys ≡ ys
splice_whole xs ys e =
    splice_front xs ys ∙ ap (λ (t : List ℕ). ys ++ t) (drop_of_length-le xs {i = length ys} (omega arith)) ∙ append-nil ys

-- in front of a part that stands right behind
pub splice_before : (xs ys : List ℕ) (at : ℕ) (zs : List ℕ) → length ys ≡ at → at + length zs ≤ length xs → splice (splice xs at zs) 0 ys ≡ splice xs 0 (ys ++ zs)
splice_before xs ys at zs e l =
    splice_front (splice xs at zs) ys
    ∙ ap (λ (k : ℕ). ys ++ drop k (splice xs at zs)) e
    ∙ ap (λ (t : List ℕ). ys ++ t) (drop_splice_in xs at zs l)
    ∙ sym (append_assoc ys zs (drop (at + length zs) xs))
    ∙ ap (λ (k : ℕ). (ys ++ zs) ++ drop k xs) {x = at + length zs} {y = length (ys ++ zs)} (omega (arith, length-append ys zs))
    ∙ sym (splice_front xs (ys ++ zs))

-- back where it was lent from
pub splice_back : (at k : ℕ) (xs ys : List ℕ) → length ys ≡ k → put_mid at k xs ys ≡ splice xs at ys
unfolding splice
splice_back at k xs ys e =
    ap (λ (t : List ℕ). take at xs ++ (ys ++ t)) (drop-drop k at xs ∙ ap (λ (m : ℕ). drop (at + m) xs) (sym e))
    ∙ sym (append_assoc (take at xs) ys (drop (at + length ys) xs))
