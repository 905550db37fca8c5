-- Degrees and xors of the mixed hashes. Assumes nothing.
use Rattle.std.proofs.Common.{◌≡◌, length, drop}
use Rattle.peel.specs.Peel.{mixed}
use Rattle.peel.specs.Inner.Table.{cells_of, Tables}
use Rattle.peel.proofs.load.Given as goal

abbrev pub invariant-loop-i : goal.invariant-loop-i
invariant-loop-i l = (length l.wide ≡ length l.initial.wide) × (length l.narrow ≡ length l.initial.narrow)
    × Tables (cells_of l.g) l.g.cells (drop l.i (mixed l.g.seed l.hashes)) l.narrow l.wide
