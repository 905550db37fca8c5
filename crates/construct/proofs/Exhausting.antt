-- The eight attempts: all fail, or the first that does not is taken, and then every key is found; the number and value of the answer.
-- Assumes nothing.
use Prim.Native.Nat.{ℕ, ◌<◌}
use mathlib.Core.Path.{◌≡◌, refl, sym, ap, ◌∙◌}
use mathlib.Core.List.{List, [], ◌∷◌}
use mathlib.Core.Option.{Option as Maybe, none, some}
use native.Mathlib.Omega.{arith}
use lib.ListN.{length}
use Rattle.std.specs.Prelude.{Option}
use Rattle.laws.proofs.StepsLaws.{least_found, least_before, least_none, least_of_none}
use Rattle.construct.specs.Construct.{attempts, Placing, attempt_of, construct_of}
use Rattle.construct.specs.Promised.{AllPlaced, Pilots}
use Rattle.construct.specs.Answer.{constructed_of, constructed_number, constructed_values, ConstructPost}
use Rattle.construct.proofs.Placed.{placed}
use Rattle.construct.proofs.Choosing.{pilots_least}

module _ (hashes : ℕ → List ℕ) where
  -- none is taken exactly where each of the eight fails
  pub all_fail : construct_of hashes ≡ none → (i : ℕ) → i < 8 → attempt_of (hashes i) ≡ none
  unfolding construct_of attempts
  all_fail h i l = least_none (λ q. attempt_of (hashes q)) 8 0 h i (omega arith) (omega arith)

  pub none_attempted : ((i : ℕ) → i < 8 → attempt_of (hashes i) ≡ none) → construct_of hashes ≡ none
  unfolding construct_of attempts
  none_attempted h = least_of_none (λ q. attempt_of (hashes q)) 8 h

  -- the attempt that is taken: it succeeds, and those before it failed
  pub first_taken : (i : ℕ) (pl : Placing) → construct_of hashes ≡ some (i, pl) → (i < 8) × (attempt_of (hashes i) ≡ some pl) × ((q : ℕ) → q < i → attempt_of (hashes q) ≡ none)
  unfolding construct_of attempts
  first_taken i pl h =
      let r = least_found (λ q. attempt_of (hashes q)) 8 0 i pl h in
      (omega (arith, r.1), r.0, λ q l. least_before (λ q. attempt_of (hashes q)) 8 0 i pl h q (omega arith) l)

  -- so every key is found at its index, every slot holds exactly one key, and the pilots are the least
  pub taken_whole : ((i : ℕ) → 0 < length (hashes i)) → (i : ℕ) (pl : Placing) → construct_of hashes ≡ some (i, pl) → AllPlaced (hashes i) pl × Pilots (hashes i) pl.pilots
  taken_whole pos i pl h =
      let r = first_taken i pl h in
      (placed (hashes i) (pos i) pl r.1, pilots_least (hashes i) (pos i) pl r.1)

  -- 10 EXACTLY WHERE EACH OF THE EIGHT ATTEMPTS FAILS, of what the code answers
  module _ (n : ℕ) (wide narrow : List ℕ) (r : Option ℕ) (B : ConstructPost hashes n wide narrow r) where
    pub ten_fails : constructed_number r ≡ 10 → (i : ℕ) → i < 8 → attempt_of (hashes i) ≡ none
    ten_fails e = all_fail (unanswered (construct_of hashes) (ap constructed_number (sym B.answer) ∙ e))
      where
        unanswered : (o : Maybe (ℕ × Placing)) → constructed_number (constructed_of o) ≡ 10 → o ≡ none
        unanswered none z = refl
        unanswered (some (i, pl)) z = absurd (omega arith)

    pub fails_ten : ((i : ℕ) → i < 8 → attempt_of (hashes i) ≡ none) → constructed_number r ≡ 10
    fails_ten f = ap constructed_number (B.answer ∙ ap constructed_of (none_attempted f))

    -- 0, AND THE ATTEMPT, WHERE ONE IS TAKEN; 10 has no value
    pub taken_values : (i : ℕ) (pl : Placing) → construct_of hashes ≡ some (i, pl) → (constructed_number r ≡ 0) × (constructed_values r ≡ i ∷ [])
    taken_values i pl e = let a = B.answer ∙ ap constructed_of e in (ap constructed_number a, ap constructed_values a)

    pub ten_values : constructed_number r ≡ 10 → constructed_values r ≡ []
    ten_values e = ap constructed_values (B.answer ∙ ap constructed_of (none_attempted (ten_fails e)))
