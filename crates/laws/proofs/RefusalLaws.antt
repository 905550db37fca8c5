-- The laws of refusals: a number is given exactly where its cause is the first that holds, and the first refusal of two. Assumes nothing.
use Prim.Native.Nat.{ℕ, zero, suc, ◌<◌}
use native.Mathlib.Nat.{suc-ne-zero}
use native.Mathlib.Omega.{arith}
use mathlib.Core.Bool.{Bool, true, false, cond}
use mathlib.Core.List.{List, [], ◌∷◌, ◌++◌}
use mathlib.Core.Path.{◌≡◌, refl, sym, ap, ◌∙◌}
use Rattle.laws.specs.Refusals.{Cause, first_of, or_else, First, here, later, None, none_here, none_more, Numbered, numbered_none, numbered_more, FirstOfTwo, by_first_is, by_second}

-- a number is given where its cause is the first that holds
pub first_given : {n : ℕ} {cs : List Cause} → First n cs → first_of cs ≡ n
first_given {n} (here {c} {cs} h e) = ap (λ (b : Bool). cond b c.number (first_of cs)) h ∙ e
first_given {n} (later {c} {cs} h r) = ap (λ (b : Bool). cond b c.number (first_of cs)) h ∙ first_given r

-- and only there
pub first_only : (n : ℕ) (cs : List Cause) → 0 < n → first_of cs ≡ n → First n cs
first_only n [] p e = absurd (omega arith)
first_only n (c ∷ cs) p e = go c.holds refl (first_only n cs p)
  where
    go : (b : Bool) → c.holds ≡ b → (first_of cs ≡ n → First n cs) → First n (c ∷ cs)
    go true h rest = here h (sym (ap (λ (x : Bool). cond x c.number (first_of cs)) h) ∙ e)
    go false h rest = later h (rest (sym (ap (λ (x : Bool). cond x c.number (first_of cs)) h) ∙ e))

-- no number is given where no test holds
pub none_given : {cs : List Cause} → None cs → first_of cs ≡ 0
none_given none_here = refl
none_given (none_more {c} {cs} h r) = ap (λ (b : Bool). cond b c.number (first_of cs)) h ∙ none_given r

-- and only there
pub none_only : {cs : List Cause} → Numbered cs → first_of cs ≡ 0 → None cs
none_only numbered_none e = none_here
none_only (numbered_more {c} {cs} p r) e = go c.holds refl (none_only r)
  where
    go : (b : Bool) → c.holds ≡ b → (first_of cs ≡ 0 → None cs) → None (c ∷ cs)
    go true h rest = absurd (let z : c.number ≡ 0 = sym (ap (λ (x : Bool). cond x c.number (first_of cs)) h) ∙ e in omega arith)
    go false h rest = none_more h (rest (sym (ap (λ (x : Bool). cond x c.number (first_of cs)) h) ∙ e))

-- every number of such a row is above 0
pub first_positive : {n : ℕ} {cs : List Cause} → Numbered cs → First n cs → 0 < n
first_positive {n = n} numbered_none x = elim x [ ]
first_positive (numbered_more p ns) (here h e) = omega arith
first_positive (numbered_more p ns) (later h f) = first_positive ns f

-- ---- the first refusal of two

-- a refusal stops
pub or_else_stop : (a b : ℕ) → (a ≡ 0 → ⊥) → or_else a b ≡ a
or_else_stop zero b n = absurd (n refl)
or_else_stop (suc a) b n = refl

-- neither of two refuses where there is no first refusal
pub or_else_zero : (a b : ℕ) → or_else a b ≡ 0 → (a ≡ 0) × (b ≡ 0)
or_else_zero zero b e = (refl, e)
or_else_zero (suc a) b e = absurd (suc-ne-zero _ e)

-- a number is given where it is the first of the two
pub two_given : (n a b : ℕ) → 0 < n → FirstOfTwo n a b → or_else a b ≡ n
two_given n a b h (by_first_is e) = or_else_stop a b (λ z. omega arith) ∙ e
two_given n a b h (by_second z e) = ap (λ (x : ℕ). or_else x b) z ∙ e

-- and only there
pub two_only : (n a b : ℕ) → or_else a b ≡ n → FirstOfTwo n a b
two_only n zero b e = by_second refl e
two_only n (suc a) b e = by_first_is e

-- ---- two rows, one after the other

-- the first of two rows of tests
pub first_append : (cs ds : List Cause) → Numbered cs → first_of (cs ++ ds) ≡ or_else (first_of cs) (first_of ds)
first_append [] ds numbered_none = refl
first_append (c ∷ cs) ds (numbered_more p r) = go c.holds (first_append cs ds r)
  where
    go : (t : Bool) → first_of (cs ++ ds) ≡ or_else (first_of cs) (first_of ds) → cond t c.number (first_of (cs ++ ds)) ≡ or_else (cond t c.number (first_of cs)) (first_of ds)
    go true e = sym (or_else_stop c.number (first_of ds) (λ z. omega arith))
    go false e = e
