-- Those of the cells that have degree 1 are queued. Assumes nothing.
use Rattle.std.proofs.Common.{drop}
use Rattle.peel.proofs.TableLaws.{Noting}
use Rattle.peel.specs.Inner.Table.{queued_by, stack}
use Rattle.peel.proofs.queue_cells.Given as goal

abbrev pub invariant-loop-p : goal.invariant-loop-p
invariant-loop-p l = Noting l.c l.initial.narrow (queued_by l.initial.narrow l.cells (stack l.c l.top l.initial.narrow)) (drop l.p-index l.cells) l.t l.narrow
