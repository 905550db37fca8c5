-- `compare` passes equal words and then equal bytes, and answers by the first byte or the length that differs. Assumes nothing.
use Rattle.words.proofs.Ordered.{Alike}
use Rattle.words.proofs.part.compare.Given as goal

abbrev pub invariant-loop-i : goal.invariant-loop-i
invariant-loop-i l = Alike l.a l.b l.i
