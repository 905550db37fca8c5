-- The cells of degree 1 are queued in rising order. Assumes nothing.
use Rattle.std.proofs.Common.{◌-◌, ◌≤◌, []}
use Rattle.laws.specs.Count.{rising}
use Rattle.peel.specs.Inner.Table.{queued_by}
use Rattle.peel.proofs.TableLaws.{Noting}
use Rattle.peel.proofs.queue_ones.Given as goal

abbrev pub invariant-loop-p : goal.invariant-loop-p
invariant-loop-p l = (l.top ≤ l.p)
    × Noting l.c l.initial.narrow (queued_by l.initial.narrow (rising 0 l.c) []) (rising l.p (l.c - l.p)) l.top l.narrow
