-- `construct::twins::met_before` meets its contract. The loop's invariant: no member before i has the hash. Assumes nothing.
use mathlib.Core.Path.{◌≡◌}
use mathlib.Core.Bool.{false}
use Rattle.laws.specs.Steps.{any_below}
use Rattle.construct.specs.Construct.{alike}
use Rattle.construct.proofs.twins.met_before.Given as goal

abbrev pub invariant-loop-i : goal.invariant-loop-i
invariant-loop-i l = any_below (alike l.members.hashes.now l.members.keys.now l.j) l.i ≡ false
