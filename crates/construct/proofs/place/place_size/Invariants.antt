-- `construct::place::place_size` meets its contract. The loop's invariant: the buckets below k are passed. Assumes nothing.
use mathlib.Core.Path.{◌≡◌}
use mathlib.Core.Option.{some}
use Rattle.laws.specs.Steps.{steps}
use Rattle.construct.specs.Construct.{place_of}
use Rattle.construct.specs.Inner.Layout.{held}
use Rattle.construct.proofs.place.place_size.Given as goal

abbrev pub invariant-loop-k : goal.invariant-loop-k
invariant-loop-k l = steps (place_of l.buckets.hashes.now l.s) l.k (held l.initial.pilots l.initial.slots) ≡ some (held l.pilots l.slots)
