-- The cells are filled in reverse order of peeling. Assumes nothing.
use Rattle.std.proofs.Common.{◌≡◌, length}
use Rattle.peel.specs.Peel.{fill}
use Rattle.peel.specs.Inner.Table.{cells_of, peels_in}
use Rattle.peel.proofs.fill.Given as goal

abbrev pub invariant-loop-i : goal.invariant-loop-i
invariant-loop-i l = (length l.cells ≡ length l.initial.cells)
    × (fill (cells_of l.g) (peels_in l.g.cells l.i l.wide l.narrow) l.cells
    ≡ fill (cells_of l.g) (peels_in l.g.cells l.n l.wide l.narrow) l.initial.cells)
