-- The attempts, one after another: the loop's invariant is that those before failed, and that the cells are as they were. Assumes nothing.
use mathlib.Core.Path.{◌≡◌}
use lib.ListN.{length}
use Rattle.filter.proofs.BuildingLaws.{Searching}
use Rattle.filter.proofs.building.search.Given as goal

abbrev pub invariant-loop-i : goal.invariant-loop-i
invariant-loop-i l = Searching l.s l.hashes l.i × (length l.wide ≡ length l.initial.wide) × (length l.narrow ≡ length l.initial.narrow)
    × (length l.cells ≡ length l.initial.cells) × (l.cells ≡ l.initial.cells)
