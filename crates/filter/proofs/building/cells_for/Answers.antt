-- The cells for n hashes, by the plan. Assumes nothing.
use mathlib.Core.Path.{sym, ◌∙◌}
use native.Mathlib.Omega.{arith}
use Rattle.sizing.proofs.SizedLaws.{plan_usable}
use Rattle.filter.proofs.building.cells_for.Goals as goal

pub cells-requires : goal.cells-requires
cells-requires c =
    let u = plan_usable c.args.n c.in-Fuse.s (sym c.of.ensures ∙ c.in-Fuse.is) (omega arith) in
    omega (arith, u.small)
