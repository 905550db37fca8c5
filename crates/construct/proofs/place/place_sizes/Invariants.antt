-- `construct::place::place_sizes` meets its contract. The loop's invariant: the passes of the sizes above s are made. Assumes nothing.
use Prim.Native.Nat.{◌-◌, ◌<◌}
use mathlib.Core.Path.{◌≡◌}
use mathlib.Core.Option.{some}
use Rattle.laws.specs.Steps.{steps}
use Rattle.construct.specs.Construct.{place_down}
use Rattle.construct.specs.Inner.Layout.{held}
use Rattle.construct.proofs.place.place_sizes.Given as goal

abbrev pub invariant-loop-s : goal.invariant-loop-s
invariant-loop-s l =
    (0 < l.s) × (steps (place_down l.buckets.hashes.now l.top) (l.top - l.s) (held l.initial.pilots l.initial.slots) ≡ some (held l.pilots l.slots))
