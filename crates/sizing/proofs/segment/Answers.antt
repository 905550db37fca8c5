-- `sizing::segment` meets its contract: the short table holds the exponents.
use mathlib.Core.Path.{◌≡◌, refl, ◌∙◌, ap}
use Prim.Native.Nat.{ℕ, suc, ◌-◌, ◌^◌, ◌<◌, ◌≤◌}
use native.Mathlib.Nat.{one-mul}
use native.Mathlib.Omega.{arith}
use lib.Pow.{shl_exact}
use Rattle.sizing.specs.Table.{leasts}
use Rattle.sizing.specs.Sizing.{up_to, exponent_of, segment_of, rises_strictly, rises_from}
use Rattle.sizing.proofs.ExponentLaws.{exponent_le, exponent_table}
use Rattle.sizing.proofs.segment.Goals as goal

-- the place that the search answers is one past the exponent
found : (n place : ℕ) → 1 ≤ n → n < 2 ^ 64 → place ≡ up_to leasts n → place ≡ suc (exponent_of n)
found n place l b e = e ∙ exponent_table n l b

small : (n place : ℕ) → 1 ≤ n → n < 2 ^ 64 → place ≡ up_to leasts n → place - 1 ≤ 18
small n place l b e = omega (arith, found n place l b e, exponent_le n)

pub up_to-exponent-requires : goal.up_to-exponent-requires
unfolding rises_strictly rises_from
up_to-exponent-requires c = refl

pub overflow_sub-exponent : goal.overflow_sub-exponent
unfolding leasts
overflow_sub-exponent c = let f = found c.args.n _ c.requires c.ranges.n.fits c.up_to-exponent.ensures in omega arith

pub overflow_cast-result : goal.overflow_cast-result
unfolding leasts
overflow_cast-result c = let f = small c.args.n _ c.requires c.ranges.n.fits c.up_to-exponent.ensures in omega arith

pub overflow_shl-result : goal.overflow_shl-result
unfolding leasts
overflow_shl-result c = let f = small c.args.n _ c.requires c.ranges.n.fits c.up_to-exponent.ensures in omega arith

pub returns : goal.returns
unfolding segment_of leasts
returns c =
    let place = c.up_to-exponent.result in
    let f = found c.args.n _ c.requires c.ranges.n.fits c.up_to-exponent.ensures in
    let g = small c.args.n _ c.requires c.ranges.n.fits c.up_to-exponent.ensures in
    shl_exact {a = 1} 1 (place - 1) 32 (omega arith) (omega arith)
    ∙ one-mul (2 ^ (place - 1)) ∙ ap (λ (k : ℕ). 2 ^ k) {y = exponent_of c.args.n} (omega arith)
