-- That a segment and a count are usable has one proof at most, so the fact that `Segments` holds, which says no more than that there is a
-- proof, gives it. Assumes nothing.
use Rattle.std.specs.Prelude.{ℕ}
use Rattle.std.proofs.Common.{arith, inl, inr}
use Rattle.std.proofs.Props.{props}
use Rattle.std.proofs.lemmas.Bool.{cases_order}
use Rattle.std.proofs.Math.Logic.{∥∥₁_elim}
use Rattle.std.proofs.Math.Pow.{pow-lt}
use mathlib.Core.HLevel.{Σ_prop_path}
use Rattle.laws.specs.Power.{PowerOfTwo}
use Rattle.fuse.specs.Positions.{Usable}

-- powers that are the same are of the same exponent
power_prop : (s : ℕ) → IsProp (PowerOfTwo s)
power_prop s u v =
    Σ_prop_path (λ k. hlevel props)
    (elim (cases_order u.0 v.0) [
      | inl e ↦ e
      | inr o ↦ elim o [ inl l ↦ absurd (omega (arith, u.1, v.1, pow-lt l)) | inr l ↦ absurd (omega (arith, u.1, v.1, pow-lt l)) ]
    ])

usable_prop : (segment count : ℕ) → IsProp (Usable segment count)
usable_prop segment count = hlevel (props, power_prop segment)

pub usable_known : (segment count : ℕ) → ∥ Usable segment count ∥₁ → Usable segment count
usable_known segment count known = ∥∥₁_elim known (usable_prop segment count) (λ u. u)
