-- `construct::single::place_singles` meets its contract. The loop's invariant: the buckets below k are passed, and the slots below `from`
-- are taken. Assumes nothing.
use Prim.Native.Nat.{◌≤◌}
use mathlib.Core.Path.{◌≡◌}
use mathlib.Core.Option.{some}
use lib.ListN.{length}
use Rattle.laws.specs.Steps.{steps}
use Rattle.construct.specs.Construct.{place_of}
use Rattle.construct.specs.Inner.Layout.{FilledBelow, held}
use Rattle.construct.proofs.single.place_singles.Given as goal

abbrev pub invariant-loop-k : goal.invariant-loop-k
invariant-loop-k l =
    (steps (place_of l.buckets.hashes.now 1) l.k (held l.initial.pilots l.initial.slots) ≡ some (held l.pilots l.slots))
    × (l.from ≤ length l.slots) × FilledBelow l.slots l.from
