-- `copy_at` stores byte by byte. The invariant: the first i bytes are put. Assumes nothing.
use Rattle.words.proofs.Pasted.{Pasting}
use Rattle.words.proofs.part.copy_at.Given as goal

abbrev pub invariant-loop-i : goal.invariant-loop-i
invariant-loop-i l = Pasting l.initial.dst l.at l.src l.i l.dst
