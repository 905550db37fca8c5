-- `construct::twins::has_twins` meets its contract. The loop's invariant: no member before j has met its hash. Assumes nothing.
use mathlib.Core.Path.{◌≡◌}
use mathlib.Core.Bool.{false}
use Rattle.laws.specs.Steps.{any_below}
use Rattle.construct.specs.Construct.{met}
use Rattle.construct.proofs.twins.has_twins.Given as goal

abbrev pub invariant-loop-j : goal.invariant-loop-j
invariant-loop-j l = any_below (met l.members.hashes.now l.members.keys.now) l.j ≡ false
