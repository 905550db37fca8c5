-- Slots: what a settled key leaves as it was, and how many slots are filled. Assumes nothing.
use Prim.Native.Nat.{ℕ, zero, suc, ◌+◌, ◌≤◌, ◌<◌}
use mathlib.Core.Path.{◌≡◌, refl, sym, ap, ◌∙◌, subst}
use mathlib.Core.Bool.{Bool, cond}
use mathlib.Core.List.{List, [], ◌∷◌}
use mathlib.Core.Option.{none, some, some-injective, none-ne-some}
use mathlib.Core.Logic.{◌⊎◌, inl, inr, ⊎_elim}
use native.Mathlib.Omega.{arith}
use native.Mathlib.Decide.{ℕ_discrete}
use native.Mathlib.Numerals.{lt_of_le_of_ne}
use lib.ListN.{length, get_or, set, replicate, length-set}
use lib.Seq.{get_or-set_same, get_or-set_other}
use borrow.Author.Tests.{eq-eqb, ne_eqb}
use Rattle.laws.proofs.StepsLaws.{steps_keep}
use Rattle.construct.specs.Construct.{settle, spot, seat}

-- how many slots are not free
unfoldable pub slots_filled : List ℕ → ℕ
slots_filled [] = 0
slots_filled (zero ∷ xs) = slots_filled xs
slots_filled (suc x ∷ xs) = suc (slots_filled xs)

pub filled_none : (n : ℕ) → slots_filled (replicate n 0) ≡ 0
unfolding slots_filled
filled_none zero = refl
filled_none (suc n) = filled_none n

pub filled_set : (xs : List ℕ) (i m : ℕ) → i < length xs → get_or xs i 0 ≡ 0 → slots_filled (set xs i (suc m)) ≡ suc (slots_filled xs)
unfolding slots_filled
filled_set [] i m l e = absurd (omega arith)
filled_set (zero ∷ xs) zero m l e = refl
filled_set (suc x ∷ xs) zero m l e = absurd (omega arith)
filled_set (zero ∷ xs) (suc i) m l e = filled_set xs i m (omega arith) e
filled_set (suc x ∷ xs) (suc i) m l e = ap suc (filled_set xs i m (omega arith) e)

pub filled_most : (xs : List ℕ) → slots_filled xs ≤ length xs
unfolding slots_filled
filled_most [] = omega arith
filled_most (zero ∷ xs) = omega (arith, filled_most xs)
filled_most (suc x ∷ xs) = omega (arith, filled_most xs)

-- where fewer are filled than there are, one is free
pub some_free : (xs : List ℕ) → slots_filled xs < length xs → (i : ℕ) × (i < length xs) × (get_or xs i 0 ≡ 0)
unfolding slots_filled
some_free [] l = absurd (omega arith)
some_free (zero ∷ xs) l = (0, omega arith, refl)
some_free (suc x ∷ xs) l =
    let r = some_free xs (omega arith) in
    (suc r.0, omega (arith, r.1), r.2)

-- where all are filled, none is free
pub none_free : (xs : List ℕ) → slots_filled xs ≡ length xs → (i : ℕ) → i < length xs → get_or xs i 0 ≡ 0 → ⊥
unfolding slots_filled
none_free [] h i l e = omega arith
none_free (zero ∷ xs) h i l e = omega (arith, filled_most xs)
none_free (suc x ∷ xs) h zero l e = omega arith
none_free (suc x ∷ xs) h (suc i) l e = none_free xs (omega arith) i (omega arith) e

-- what settling asks, and what it leaves
pub settle_free : (at m : ℕ) (s : List ℕ) → get_or s at 0 ≡ 0 → settle at m s ≡ some (set s at (suc m))
unfolding settle
settle_free at m s h = ap (λ (t : Bool). cond t (some (set s at (suc m))) none) (eq-eqb (get_or s at 0) 0 h)

pub settle_taken : (at m : ℕ) (s : List ℕ) → (get_or s at 0 ≡ 0 → ⊥) → settle at m s ≡ none
unfolding settle
settle_taken at m s h = ap (λ (t : Bool). cond t (some (set s at (suc m))) none) (ne_eqb (get_or s at 0) 0 h)

pub settle_some : (at m : ℕ) (s t : List ℕ) → settle at m s ≡ some t → (get_or s at 0 ≡ 0) × (set s at (suc m) ≡ t)
settle_some at m s t h = go (ℕ_discrete (get_or s at 0) 0)
  where
    go : Dec (get_or s at 0 ≡ 0) → (get_or s at 0 ≡ 0) × (set s at (suc m) ≡ t)
    go (yes e) = (e, some-injective (set s at (suc m)) t (sym (settle_free at m s e) ∙ h))
    go (no e) = absurd (none-ne-some t (sym (settle_taken at m s e) ∙ h))

-- t has what s has, and more: d slots more are filled
pub record Grown (s t : List ℕ) (d : ℕ) : Type 0 where
  pub long : length t ≡ length s
  pub kept : (a m : ℕ) → get_or s a 0 ≡ suc m → get_or t a 0 ≡ suc m
  pub more : slots_filled t ≡ slots_filled s + d

-- what is in t was in s, or is key m in slot `at` for one of the new ones
abbrev pub Since : List ℕ → List ℕ → (ℕ → ℕ → Type 0) → Type 0
Since s t New = (a m : ℕ) → get_or t a 0 ≡ suc m → (get_or s a 0 ≡ suc m) ⊎ New a m

-- one key settled
pub record Settled (s t : List ℕ) (at m : ℕ) : Type 0 where
  pub grown : Grown s t 1
  pub there : get_or t at 0 ≡ suc m
  pub since : Since s t (λ a x. (a ≡ at) × (x ≡ m))

pub settled : (at m : ℕ) (s t : List ℕ) → at < length s → settle at m s ≡ some t → Settled s t at m
settled at m s t l h = record {
  grown = record {
    long = ap length (sym e) ∙ length-set s at (suc m);
    kept = λ a x z. in_t a ∙ get_or-set_other s at a (suc m) 0 (λ y. omega (arith, ap (λ (q : ℕ). get_or s q 0) y, w.0)) ∙ z;
    more = ap slots_filled (sym e) ∙ filled_set s at m l w.0 ∙ omega arith;
  };
  there = here;
  since = λ a x z. old a x z (ℕ_discrete a at);
}
  where
    w : (get_or s at 0 ≡ 0) × (set s at (suc m) ≡ t)
    w = settle_some at m s t h

    e : set s at (suc m) ≡ t
    e = w.1

    in_t : (a : ℕ) → get_or t a 0 ≡ get_or (set s at (suc m)) a 0
    in_t a = ap (λ (y : List ℕ). get_or y a 0) (sym e)

    here : get_or t at 0 ≡ suc m
    here = in_t at ∙ get_or-set_same s at (suc m) 0 l

    old : (a x : ℕ) → get_or t a 0 ≡ suc x → Dec (a ≡ at) → (get_or s a 0 ≡ suc x) ⊎ ((a ≡ at) × (x ≡ m))
    old a x z (yes y) = inr (y, omega (arith, ap (λ (q : ℕ). get_or t q 0) y, here))
    old a x z (no y) = inl (sym (get_or-set_other s at a (suc m) 0 y) ∙ sym (in_t a) ∙ z)

-- j members seated: j slots more, each member where its pilot puts it, and nothing else
pub record Seated (hs ms : List ℕ) (p : ℕ) (s t : List ℕ) (j : ℕ) : Type 0 where
  pub grown : Grown s t j
  pub there : (i : ℕ) → i < j → get_or t (spot hs ms p i) 0 ≡ suc (get_or ms i 0)
  pub since : Since s t (λ a m. (i : ℕ) × (i < j) × (a ≡ spot hs ms p i) × (m ≡ get_or ms i 0))

module _ (hs ms : List ℕ) (p : ℕ) (s : List ℕ) (low : (i : ℕ) → spot hs ms p i < length s) where
  seated_more : (i : ℕ) (u v : List ℕ) → Seated hs ms p s u i → settle (spot hs ms p i) (get_or ms i 0) u ≡ some v → Seated hs ms p s v (suc i)
  seated_more i u v w e = record {
    grown = record {
      long = g.grown.long ∙ w.grown.long;
      kept = λ a m z. g.grown.kept a m (w.grown.kept a m z);
      more = omega (arith, g.grown.more, w.grown.more);
    };
    there = λ i' l'. last i' l' (ℕ_discrete i' i);
    since = λ a m z. ⊎_elim (λ y. older a m (w.since a m y)) (λ y. inr (i, omega arith, y.0, y.1)) (g.since a m z);
  }
    where
      g : Settled u v (spot hs ms p i) (get_or ms i 0)
      g = settled (spot hs ms p i) (get_or ms i 0) u v (omega (arith, low i, w.grown.long)) e

      last : (i' : ℕ) → i' < suc i → Dec (i' ≡ i) → get_or v (spot hs ms p i') 0 ≡ suc (get_or ms i' 0)
      last i' l' (yes z) = subst (λ (x : ℕ). get_or v (spot hs ms p x) 0 ≡ suc (get_or ms x 0)) (sym z) g.there
      last i' l' (no z) = g.grown.kept (spot hs ms p i') (get_or ms i' 0) (w.there i' (lt_of_le_of_ne (omega arith) z))

      Was : ℕ → ℕ → ℕ → Type 0
      Was j a m = (get_or s a 0 ≡ suc m) ⊎ ((i' : ℕ) × (i' < j) × (a ≡ spot hs ms p i') × (m ≡ get_or ms i' 0))

      older : (a m : ℕ) → Was i a m → Was (suc i) a m
      older a m (inl y) = inl y
      older a m (inr y) = inr (y.0, omega (arith, y.1), y.2, y.3)

  pub seated : (j : ℕ) (t : List ℕ) → seat hs ms p j s ≡ some t → Seated hs ms p s t j
  unfolding seat
  seated j t h =
      steps_keep (λ i. settle (spot hs ms p i) (get_or ms i 0)) (λ i u. Seated hs ms p s u i) s
      (record { grown = record { long = refl; kept = λ a m e. e; more = omega arith }; there = λ i l. absurd (omega arith); since = λ a m z. inl z })
      j (λ i l u v. seated_more i u v) j (omega arith) t h
