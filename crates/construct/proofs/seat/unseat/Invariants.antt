-- `construct::seat::unseat` meets its contract. The loop's invariant: of the members that sat, the first j still do. Assumes nothing.
use Prim.Native.Nat.{ℕ}
use mathlib.Core.Path.{◌≡◌}
use mathlib.Core.List.{List}
use mathlib.Core.Option.{some}
use Rattle.construct.specs.Construct.{seat}
use Rattle.construct.proofs.seat.unseat.Given as goal

abbrev pub invariant-loop-j : goal.invariant-loop-j
invariant-loop-j l =
    (s : List ℕ) → seat l.members.hashes.now l.members.keys.now l.pilot l.count s ≡ some l.initial.slots → seat l.members.hashes.now l.members.keys.now l.pilot l.j s ≡ some l.slots
