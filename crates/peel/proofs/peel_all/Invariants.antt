-- All steps of an attempt. Assumes nothing.
use Rattle.std.proofs.Common.{◌≡◌, ℕ, List, length}
use Rattle.peel.specs.Peel.{run, begun}
use Rattle.peel.specs.Inner.Table.{cells_of, StandsFor}
use Rattle.peel.proofs.peel_all.Given as goal

abbrev pub invariant-loop : goal.invariant-loop
invariant-loop l = (length l.wide ≡ length l.initial.wide) × (length l.narrow ≡ length l.initial.narrow)
    × ((hs : List ℕ) → StandsFor (cells_of l.g) l.g.cells hs
    (begun (cells_of l.g) l.g.cells hs) l.initial.wide l.initial.narrow l.top 0
    → StandsFor (cells_of l.g) l.g.cells hs
    (run (cells_of l.g) l.counter (begun (cells_of l.g) l.g.cells hs)) l.wide l.narrow
    l.at.top l.at.peeled)
