-- A check of the boundary that is the first to hold decides the call; where none holds the call's own answer stands. Assumes
-- nothing.
use Prim.Native.Nat.{ℕ, zero, suc, ◌<◌, ◌≤◌}
use native.Mathlib.Omega.{arith}
use mathlib.Core.Path.{◌≡◌, refl, sym, ap, ◌∙◌}
use mathlib.Core.List.{List, [], ◌∷◌}
use borrow.Author.Tests.{lt-ltb, le-ltb, ne_eqb}
use lib.ListN.{length}
use Rattle.laws.specs.Refusals.{Cause, or_else, First, here, None, none_here, none_more}
use Rattle.laws.proofs.RefusalLaws.{first_given, none_given}
use Rattle.kiban_c.specs.Lent.{answer_short, number_by, left_by}

or_else_lem : (n own : ℕ) → 0 < n → n ≡ or_else n own
or_else_lem zero own p = absurd (omega arith)
or_else_lem (suc n) own p = refl

module _ {n : ℕ} {checks : List Cause} (f : First n checks) (p : 0 < n) where
  pub first_number : (own : ℕ) → n ≡ number_by checks own
  unfolding number_by
  first_number own = or_else_lem n own p ∙ ap (λ (m : ℕ). or_else m own) (sym (first_given f))

  pub first_left : (before after : List ℕ) → before ≡ left_by checks before after
  unfolding left_by
  first_left before after = rw (first_given f, ne_eqb n 0 (λ z. omega arith))

module _ {checks : List Cause} (f : None checks) where
  pub none_number : (own : ℕ) → own ≡ number_by checks own
  unfolding number_by
  none_number own = ap (λ (m : ℕ). or_else m own) (sym (none_given f))

  pub none_left : (before after : List ℕ) → after ≡ left_by checks before after
  unfolding left_by
  none_left before after = rw (none_given f)

-- of a call that checks its answer alone
module _ (answer : List ℕ) (said : ℕ) where
  pub short : length answer < said → First 6 (answer_short answer said ∷ [])
  short h = here (lt-ltb (length answer) said h) refl

  pub enough : said ≤ length answer → None (answer_short answer said ∷ [])
  enough h = none_more (le-ltb (length answer) said h) none_here
