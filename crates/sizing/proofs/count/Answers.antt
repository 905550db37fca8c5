-- `sizing::count` meets its contract: the code's rows are the recorded ones.
use mathlib.Core.Path.{◌≡◌, refl, ap, subst}
use Prim.Native.Nat.{ℕ, ◌-◌, ◌^◌, ◌<◌, ◌≤◌}
use native.Mathlib.Omega.{arith}
use lib.ListN.{length, get_or}
use Rattle.sizing.specs.Table.{firsts, segments}
use Rattle.sizing.specs.Sizing.{up_to, segments_of, rises_strictly, rises_from}
use Rattle.sizing.proofs.SearchLaws.{up_to_length}
use Rattle.sizing.proofs.SizedLaws.{row_of, same_length, segments_within}
use Rattle.sizing.proofs.count.Goals as goal

-- the place that the search answers is at least 1, and at most the number of rows
in_table : (n place : ℕ) → 1 ≤ n → place ≡ up_to firsts n → (1 ≤ place) × (place ≤ length segments)
in_table n place l e =
    (omega (arith, row_of n l), subst (λ (x : ℕ). place ≤ x) same_length (omega (arith, up_to_length firsts n)))

-- the number of segments there
at_row : (n place : ℕ) → place ≡ up_to firsts n → get_or segments (place - 1) 0 ≡ segments_of n
unfolding segments_of
at_row n place e = ap (λ (i : ℕ). get_or segments (i - 1) 0) e

-- there are more than 3
enough : (n place : ℕ) → 1 ≤ n → n < 2 ^ 64 → place ≡ up_to firsts n → 3 ≤ get_or segments (place - 1) 0
enough n place l b e = omega (arith, at_row n place e, (segments_within n l b).0)

pub up_to-row-requires : goal.up_to-row-requires
unfolding rises_strictly rises_from
up_to-row-requires c = refl

pub overflow_sub-row : goal.overflow_sub-row
unfolding firsts
overflow_sub-row c = (in_table c.args.n _ c.requires c.up_to-row.ensures).0

pub offset_bounds-row : goal.offset_bounds-row
unfolding firsts segments
offset_bounds-row c = let t = in_table c.args.n _ c.requires c.up_to-row.ensures in omega (arith, t.1)

pub bounds-row : goal.bounds-row
unfolding firsts segments
bounds-row c = let t = in_table c.args.n _ c.requires c.up_to-row.ensures in omega (arith, t.0, t.1)

pub overflow_sub-result : goal.overflow_sub-result
unfolding firsts segments
overflow_sub-result c = enough c.args.n _ c.requires c.ranges.n.fits c.up_to-row.ensures

pub returns : goal.returns
unfolding firsts segments
returns c = ap (λ (x : ℕ). x - 3) (at_row c.args.n _ c.up_to-row.ensures)
