-- `write_slots` meets its contract. The loop's invariant: the first s slots are written. Assumes nothing.
use mathlib.Core.Path.{◌≡◌}
use mathlib.Core.List.{flat_map}
use lib.ListN.{length, take}
use Rattle.words.specs.Field.{splice}
use Rattle.finish.specs.Inner.Needs.{listed_slot}
use Rattle.finish.proofs.body.write_slots.Given as goal

abbrev pub invariant-loop-s : goal.invariant-loop-s
invariant-loop-s l = l.out ≡ splice l.initial.out l.at (flat_map (listed_slot l.wide (length l.slots)) (take l.s l.slots))
