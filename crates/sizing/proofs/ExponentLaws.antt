-- Laws of the segment's exponent: it is the greatest that the power rule allows, it rises with n, and the short table of least key
-- counts holds it. Assumes nothing.
use mathlib.Core.Path.{◌≡◌, refl, sym, ap, ◌∙◌, subst}
use mathlib.Core.Bool.{Bool, true, false, cond, ◌&&◌, and-eq-true_iff, true≢false}
use mathlib.Core.List.{List, ◌∷◌}
use Prim.Native.Nat.{ℕ, zero, suc, ◌+◌, ◌-◌, ◌*◌, ◌^◌, ◌≤◌, ◌<◌}
use native.Mathlib.Nat.{le_refl, le_trans, le_step, mul-le-mul_right, pow-le-pow_left}
use native.Mathlib.Omega.{arith}
use lib.Dec.{eqb}
use lib.ListN.{get_or, drop}
use lib.Pow.{pow_mono}
use borrow.Author.Tests.{leb-true, le-leb, eqb-true}
use Rattle.laws.proofs.Cases.{by_test}
use Rattle.laws.specs.Power.{PowerOfTwo}
use Rattle.sizing.specs.Table.{leasts}
use Rattle.sizing.specs.Sizing.{rule, exponent_up_to, sized_as, exponent_of, segment_of, up_to}
use Rattle.sizing.proofs.SearchLaws.{up_to_yes}
use Rattle.sizing.proofs.RowLaws.{walk, At, row}

rule_mono : (k : ℕ) {m n : ℕ} → m ≤ n → rule k m ≡ true → rule k n ≡ true
unfolding rule
rule_mono k {m} {n} l t =
    le-leb (291 ^ (2 * k + 1)) (n ^ 2 * 100 ^ (2 * k + 1))
    (le_trans (leb-true (291 ^ (2 * k + 1)) (m ^ 2 * 100 ^ (2 * k + 1)) t) (mul-le-mul_right (100 ^ (2 * k + 1)) (pow-le-pow_left l 2)))

greatest_le : (k m : ℕ) → exponent_up_to k m ≤ k
unfolding exponent_up_to
greatest_le zero m = le_refl 0
greatest_le (suc k) m = by_test (rule (suc k) m) (λ e. rw e (le_refl (suc k))) (λ e. rw e (le_step (greatest_le k m)))

greatest_mono : (k : ℕ) {m n : ℕ} → m ≤ n → exponent_up_to k m ≤ exponent_up_to k n
unfolding exponent_up_to
greatest_mono zero l = le_refl 0
greatest_mono (suc k) {m} {n} l =
    by_test (rule (suc k) m) (λ e. rw (e, rule_mono (suc k) l e) (le_refl (suc k)))
    (λ e. by_test (rule (suc k) n) (λ f. rw (e, f) (le_step (greatest_le k m))) (λ f. rw (e, f) (greatest_mono k l)))

-- the rule allows it, where it allows 0
greatest_rule : (k m : ℕ) → rule 0 m ≡ true → rule (exponent_up_to k m) m ≡ true
unfolding exponent_up_to
greatest_rule zero m t = t
greatest_rule (suc k) m t =
    let at : Bool → Bool = λ b. rule (cond b (suc k) (exponent_up_to k m)) m in
    by_test (rule (suc k) m) (λ e. ap at e ∙ e) (λ e. ap at e ∙ greatest_rule k m t)

greatest_top : (k m j : ℕ) → j ≤ k → rule j m ≡ true → j ≤ exponent_up_to k m
unfolding exponent_up_to
greatest_top zero m j l t = l
greatest_top (suc k) m j l t =
    by_test (rule (suc k) m) (λ e. rw e l)
    (λ e.
    let d : j ≡ suc k → ⊥ = λ h. true≢false (sym t ∙ subst (λ (x : ℕ). rule x m ≡ false) (sym h) e) in
    rw e (greatest_top k m j (omega arith) t))

pub exponent_le : (n : ℕ) → exponent_of n ≤ 18
unfolding exponent_of
exponent_le n = greatest_le 18 _

pub exponent_mono : (m n : ℕ) → m ≤ n → exponent_of m ≤ exponent_of n
unfolding exponent_of
exponent_mono m n l = greatest_mono 18 (omega arith)

rule_two : rule 0 2 ≡ true
unfolding rule
rule_two = refl

-- the exponent is the greatest whole number from 0 to 18 that the power rule allows
pub exponent_rule : (n : ℕ) → rule (exponent_of n) (sized_as n) ≡ true
unfolding exponent_of
exponent_rule n = greatest_rule 18 (sized_as n) (rule_mono 0 {m = 2} {n = sized_as n} (omega arith) rule_two)

pub exponent_greatest : (n k : ℕ) → k ≤ 18 → rule k (sized_as n) ≡ true → k ≤ exponent_of n
unfolding exponent_of
exponent_greatest n k l t = greatest_top 18 (sized_as n) k l t

-- ---- the short table

-- row i runs where the exponent is i
least_test : ℕ → ℕ → ℕ → ℕ → Bool
least_test i f g s = eqb (exponent_of f) i && eqb (exponent_of (g - 1)) i

leasts_right : walk least_test (2 ^ 64) 0 1 (drop 1 leasts) leasts ≡ true
unfolding walk least_test leasts exponent_of exponent_up_to rule
leasts_right = refl

leasts_from : leasts ≡ 1 ∷ drop 1 leasts
unfolding leasts
leasts_from = refl

-- the table holds the exponent of every n
pub exponent_table : (n : ℕ) → 1 ≤ n → n < 2 ^ 64 → up_to leasts n ≡ suc (exponent_of n)
unfolding least_test
exponent_table n l h =
    let i : ℕ = 0 + up_to (drop 1 leasts) n in
    let r : At least_test n i (get_or leasts (up_to (drop 1 leasts) n) 0) = row least_test (2 ^ 64) 0 1 (drop 1 leasts) leasts leasts_right n l h in
    let p = (and-eq-true_iff (eqb (exponent_of r.first) i) (eqb (exponent_of (r.next - 1)) i)).0 r.passes in
    let a = eqb-true (exponent_of r.first) i p.0 in
    let b = eqb-true (exponent_of (r.next - 1)) i p.1 in
    let x = exponent_mono r.first n r.from in
    let y = exponent_mono n (r.next - 1) (omega arith) in
    let q : up_to leasts n ≡ suc (up_to (drop 1 leasts) n) =
    subst (λ (t : List ℕ). up_to t n ≡ suc (up_to (drop 1 leasts) n)) (sym leasts_from) (up_to_yes 1 (drop 1 leasts) n l) in
    omega arith

-- ---- the segment

pub segment_most : (n : ℕ) → segment_of n ≤ 262144
unfolding segment_of
segment_most n = pow_mono (exponent_le n)

pub segment_power : (n : ℕ) → PowerOfTwo (segment_of n)
unfolding segment_of
segment_power n = (exponent_of n, refl)
