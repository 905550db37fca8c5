-- An attempt on lent workspace, and the attempts one after another, as their parts answer them. Assumes nothing.
use Prim.Native.Nat.{ℕ, ◌+◌, ◌≤◌, ◌<◌}
use mathlib.Core.Path.{◌≡◌, sym, ap, ◌∙◌, subst}
use mathlib.Core.Bool.{Bool, true, false}
use mathlib.Core.List.{List}
use mathlib.Core.Option.{none, some, some-injective, none-ne-some}
use Rattle.std.specs.Prelude.{Some, None}
use native.Mathlib.Omega.{arith}
use native.Mathlib.Decide.{ℕ_discrete}
use native.Mathlib.Numerals.{lt_of_le_of_ne}
use Rattle.mixing.specs.Mixing.{seed_of}
use Rattle.laws.proofs.StepsLaws.{least_at, least_of_none}
use Rattle.construct.specs.Construct.{buckets_of, attempts, Placing, attempt_of, construct_of}
use Rattle.construct.specs.Keys.{hashes_of, attempt_hashes}
use Rattle.construct.specs.Inner.Layout.{Attempted}
use Rattle.construct.specs.Answer.{placing, constructed_of, ConstructPost}

-- an attempt over other hashes that are the same
pub attempted : (hs hs' : List ℕ) (n b : ℕ) (wide narrow : List ℕ) (r : Bool) → hs ≡ hs' → Attempted hs n b wide narrow r → Attempted hs' n b wide narrow r
attempted hs hs' n b wide narrow r e a = subst (λ (x : List ℕ). Attempted x n b wide narrow r) e a

-- attempt i, under the seed `seed` of mixing, after attempts that failed
module _ (arena : List ℕ) (n i : ℕ) (failed : (q : ℕ) → q < i → attempt_of (attempt_hashes arena n q) ≡ none) where
  pub built_none : attempts ≤ i → (wide narrow : List ℕ) → ConstructPost (attempt_hashes arena n) n wide narrow None
  unfolding construct_of
  built_none l wide narrow = record {
    answer = sym (ap constructed_of e);
    placed = λ j pl z. absurd (none-ne-some (j, pl) (sym e ∙ z));
    kept = λ j pl z. absurd (none-ne-some (j, pl) (sym e ∙ z));
  }
    where
      e : construct_of (attempt_hashes arena n) ≡ none
      e = least_of_none (λ q. attempt_of (attempt_hashes arena n q)) attempts (λ q lq. failed q (omega arith))

  module _ (b seed : ℕ) (wide narrow : List ℕ) (r : Bool) (eb : b ≡ buckets_of n) (es : seed ≡ seed_of i) (a : Attempted (hashes_of seed arena n) n b wide narrow r) where
    under : Attempted (attempt_hashes arena n i) n b wide narrow r
    unfolding attempt_hashes
    under = attempted (hashes_of seed arena n) (hashes_of (seed_of i) arena n) n b wide narrow r (ap (λ (x : ℕ). hashes_of x arena n) es) a

    pub built_placed : i < attempts → r ≡ true → ConstructPost (attempt_hashes arena n) n wide narrow (Some i)
    unfolding construct_of
    built_placed l t = record {
      answer = sym (ap constructed_of e);
      placed = λ j pl z. ap (λ (x : ℕ). placing n x narrow) (sym eb) ∙ ap (λ (x : ℕ × Placing). x.1) (same j pl z);
      kept = λ j pl z. under.hashes ∙ ap (λ (x : ℕ × Placing). attempt_hashes arena n x.0) (same j pl z);
    }
      where
        e : construct_of (attempt_hashes arena n) ≡ some (i, placing n b narrow)
        e = least_at (λ q. attempt_of (attempt_hashes arena n q)) attempts i (placing n b narrow) l failed (under.ended.made t)

        same : (j : ℕ) (pl : Placing) → construct_of (attempt_hashes arena n) ≡ some (j, pl) → ◌≡◌ {A = ℕ × Placing} (i, placing n b narrow) (j, pl)
        same j pl z = some-injective (i, placing n b narrow) (j, pl) (sym e ∙ z)

    pub failed_more : r ≡ false → (q : ℕ) → q < i + 1 → attempt_of (attempt_hashes arena n q) ≡ none
    failed_more f q l = go (ℕ_discrete q i)
      where
        go : Dec (q ≡ i) → attempt_of (attempt_hashes arena n q) ≡ none
        go (yes z) = ap (λ (x : ℕ). attempt_of (attempt_hashes arena n x)) z ∙ under.ended.failed f
        go (no z) = failed q (lt_of_le_of_ne (omega arith) z)
