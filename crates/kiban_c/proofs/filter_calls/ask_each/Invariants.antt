-- `ask_each` stores number by number. The invariant: the first i numbers are put. Assumes nothing.
use mathlib.Core.List.{map}
use Prim.Native.Nat.{◌-◌}
use lib.ListN.{length}
use Rattle.words.proofs.Pasted.{Pasting}
use Rattle.kiban_c.specs.Inner.Asking.{cells_ask_of}
use Rattle.kiban_c.proofs.filter_calls.ask_each.Given as goal

abbrev pub invariant-loop-i : goal.invariant-loop-i
invariant-loop-i l = Pasting l.initial.answers 0 (map (cells_ask_of l.s l.cells) l.hashes) l.i l.answers

abbrev pub decreases-loop-i : goal.decreases-loop-i
decreases-loop-i l = length l.hashes - l.i
