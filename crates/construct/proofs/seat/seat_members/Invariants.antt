-- `construct::seat::seat_members` meets its contract. The loop's invariant: the first j members sit. Assumes nothing.
use mathlib.Core.Path.{◌≡◌}
use mathlib.Core.Option.{some}
use Rattle.construct.specs.Construct.{seat}
use Rattle.construct.proofs.seat.seat_members.Given as goal

abbrev pub invariant-loop-j : goal.invariant-loop-j
invariant-loop-j l = seat l.members.hashes.now l.members.keys.now l.pilot l.j l.initial.slots ≡ some l.slots
