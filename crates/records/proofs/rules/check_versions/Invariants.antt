-- `check_versions` refuses by `versions_refusal`: the versions from here on break what all of them break. Assumes nothing.
use Prim.Native.Nat.{◌≤◌, ◌-◌}
use mathlib.Core.Path.{◌≡◌}
use lib.ListN.{length}
use Rattle.records.specs.Rules.{versions_refusal}
use Rattle.records.proofs.rules.check_versions.Given as goal

abbrev pub invariant-loop : goal.invariant-loop
invariant-loop l =
    (l.at ≤ length l.bytes) × (l.prev ≤ l.at)
    × (versions_refusal l.bytes l.test l.prev l.at (l.count - l.counter) ≡ versions_refusal l.bytes l.test l.p l.p l.count)
