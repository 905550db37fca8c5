-- `write_pilots` meets its contract. The loop's invariant: the first i pilots are written. Assumes nothing.
use mathlib.Core.Path.{◌≡◌}
use mathlib.Core.List.{flat_map}
use lib.ListN.{take}
use Rattle.words.specs.Field.{bytes_of, splice}
use Rattle.finish.proofs.body.write_pilots.Given as goal

abbrev pub invariant-loop-i : goal.invariant-loop-i
invariant-loop-i l = l.out ≡ splice l.initial.out l.at (flat_map (bytes_of 4) (take l.i l.pilots))
