-- Laws of the test of sizes: what it passes, as facts. Assumes nothing.
use Rattle.std.proofs.Common.{◌≡◌, ℕ, ◌+◌, ◌^◌, ◌<◌, ◌≤◌, Bool, true, false, ◌&&◌, eqb, ltb, leb, sym, mul-le-mul, arith, ltb-true, lt-ltb, eq-eqb, eqb-true, le-leb, leb-true}
use mathlib.Core.Bool.{and-eq-true_iff}
use lib.Count.{ones}
use Rattle.laws.proofs.Cases.{by_test}
use Rattle.laws.specs.Power.{PowerOfTwo}
use Rattle.laws.proofs.PowerLaws.{power_pos, power_ones, ones_power}
use Rattle.fuse.specs.declared.Sizes.{Sizes}
use Rattle.fuse.specs.Positions.{cells_in, Usable}
use Rattle.fuse.specs.Layout.{segment_test, fitting, Accepted}

-- a segment is accepted exactly when it is a power of two up to 262,144
pub segment_accepted : (segment : ℕ) → segment_test segment ≡ true → PowerOfTwo segment × (segment ≤ 262144)
segment_accepted segment e =
    let p = (and-eq-true_iff (eqb (ones segment) 1) (leb segment 262144)).0 e in
    (ones_power segment (eqb-true _ _ p.0), leb-true _ _ p.1)

pub segment_accepts : (segment : ℕ) → PowerOfTwo segment → segment ≤ 262144 → segment_test segment ≡ true
segment_accepts segment p l = simp (eq-eqb _ _ (power_ones segment p), le-leb _ _ l)

-- what the test passes is accepted
pub fitting_accepted : (s : Sizes) (cells : ℕ) → fitting s cells ≡ true → Accepted s cells
unfolding fitting
fitting_accepted s cells e =
    let n : ℕ = cells_in s.segment s.count in
    let k₁ : Bool = leb 1 s.keys in
    let k₂ : Bool = ltb s.keys (2 ^ 32) in
    let g : Bool = segment_test s.segment in
    let d : Bool = leb 1 s.count in
    let m : Bool = ltb n (2 ^ 32) in
    let p₅ = (and-eq-true_iff (k₁ && k₂ && g && d && m) (eqb cells n)).0 e in
    let p₄ = (and-eq-true_iff (k₁ && k₂ && g && d) m).0 p₅.0 in
    let p₃ = (and-eq-true_iff (k₁ && k₂ && g) d).0 p₄.0 in
    let p₂ = (and-eq-true_iff (k₁ && k₂) g).0 p₃.0 in
    let p₁ = (and-eq-true_iff k₁ k₂).0 p₂.0 in
    let q = segment_accepted s.segment p₂.1 in
    record {
      some_key = leb-true _ _ p₁.0;
      few_keys = ltb-true _ _ p₁.1;
      fits = record {
        usable = record { power = q.0; most = q.1; counted = leb-true _ _ p₃.1; small = ltb-true _ _ p₄.1 };
        whole = eqb-true _ _ p₅.1;
      };
    }

-- and what is accepted passes
pub accepted_fitting : (s : Sizes) (cells : ℕ) → Accepted s cells → fitting s cells ≡ true
unfolding fitting
accepted_fitting s cells a =
    let u = a.fits.usable in
    simp (
      le-leb _ _ a.some_key,
      lt-ltb _ _ a.few_keys,
      segment_accepts s.segment u.power u.most,
      le-leb _ _ u.counted,
      lt-ltb _ _ u.small,
      eq-eqb _ _ a.fits.whole,
    )

-- sizes that lack a fact do not pass
pub not_fitting : (s : Sizes) (cells : ℕ) → (Accepted s cells → ⊥) → false ≡ fitting s cells
not_fitting s cells no_way = by_test (fitting s cells) (λ t. absurd (no_way (fitting_accepted s cells t))) (λ t. sym t)

-- accepted sizes have cells, and a count of 32 bits
pub cells_some : (segment count : ℕ) → Usable segment count → (0 < cells_in segment count) × (count < 2 ^ 32)
cells_some segment count u =
    let m = mul-le-mul {n₁ = count + 3} {m₁ = 1} {n₂ = count + 3} {m₂ = segment} (omega arith) (power_pos segment u.power) in
    (omega (arith, u.counted), omega (arith, u.small))
