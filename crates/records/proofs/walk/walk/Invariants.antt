-- `walk` is `walk_from` from the start with no slots: what the walk from here on finds, after the keys passed,
-- is what the whole walk finds. Assumes nothing.
use Prim.Native.Nat.{◌-◌}
use mathlib.Core.Path.{◌≡◌}
use Rattle.records.specs.Rules.{unslotted}
use Rattle.records.specs.Walk.{walk_from}
use Rattle.records.specs.Inner.Walking.{Walking}
use Rattle.records.proofs.WalkLaws.{after}
use Rattle.records.proofs.walk.walk.Given as goal

abbrev pub invariant-loop-keys : goal.invariant-loop-keys
invariant-loop-keys l =
    Walking l.bytes l.prev l.p
    × (after l.keys (walk_from unslotted l.bytes l.test l.prev l.p (l.most - l.keys)) ≡ walk_from unslotted l.bytes l.test 0 0 l.most)
