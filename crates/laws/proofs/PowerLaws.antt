-- Powers of two: a number is one exactly when its count of ones is 1. Assumes nothing.
use mathlib.Core.Path.{◌≡◌, refl, sym, ap, ◌∙◌, subst}
use Prim.Native.Nat.{ℕ, zero, suc, ◌+◌, ◌/◌, ◌%◌, ◌^◌, ◌<◌}
use native.Mathlib.Nat.{add-zero, one-mul, pow-suc}
use native.Mathlib.Omega.{arith}
use lib.Arith.{bin_ind}
use lib.Count.{ones, ones_step, ones_cat}
use lib.Pow.{pow_pos}
use Rattle.laws.specs.Power.{PowerOfTwo}

pub power_pos : (s : ℕ) → PowerOfTwo s → 0 < s
power_pos s (k, e) = subst (λ (x : ℕ). 0 < x) (sym e) (pow_pos k)

ones_one : ones 1 + ones 0 ≡ 1
unfolding ones
ones_one = refl

-- a power of two has one 1
pub power_ones : (s : ℕ) → PowerOfTwo s → ones s ≡ 1
power_ones s (k, e) =
    ap ones (e ∙ sym (add-zero (2 ^ k)) ∙ ap (λ (x : ℕ). x + 0) (sym (one-mul (2 ^ k)))) ∙ ones_cat k 1 0 (pow_pos k) ∙ ones_one

no_ones : (n : ℕ) → ones n ≡ 0 → n ≡ 0
no_ones = bin_ind (λ (n : ℕ). ones n ≡ 0 → n ≡ 0) (λ e. refl) (λ n ih e. step n ih e)
  where
    step : (n : ℕ) → (ones (n / 2) ≡ 0 → n / 2 ≡ 0) → ones n ≡ 0 → n ≡ 0
    step n ih e = let h = ih (omega (arith, ones_step n)) in omega (arith, ones_step n)

twice : (n k : ℕ) → n % 2 ≡ 0 → n / 2 ≡ 2 ^ k → n ≡ 2 ^ suc k
twice n k r q = let h = pow-suc 2 k in omega arith

one_step_lem : (n r : ℕ) → n % 2 ≡ r → r < 2 → (ones (n / 2) ≡ 1 → PowerOfTwo (n / 2)) → ones n ≡ 1 → PowerOfTwo n
one_step_lem n zero er l ih e = let p = ih (omega (arith, ones_step n)) in (suc p.0, twice n p.0 er p.1)
one_step_lem n (suc zero) er l ih e = let h = no_ones (n / 2) (omega (arith, ones_step n)) in (0, omega arith)
one_step_lem n (suc (suc r)) er l ih e = absurd (omega arith)

none : ones 0 ≡ 1 → ⊥
unfolding ones
none e = omega arith

-- and a number with one 1 is a power of two
pub ones_power : (s : ℕ) → ones s ≡ 1 → PowerOfTwo s
ones_power =
    bin_ind (λ (n : ℕ). ones n ≡ 1 → PowerOfTwo n) (λ e. absurd (none e))
    (λ n ih e. one_step_lem n (n % 2) refl (omega arith) ih e)
