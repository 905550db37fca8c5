-- `same` passes equal words and then equal bytes; the first byte that differs decides, or the end. Assumes nothing.
use Rattle.words.proofs.Ordered.{Alike}
use Rattle.words.proofs.part.same.Given as goal

abbrev pub invariant-loop-i : goal.invariant-loop-i
invariant-loop-i l = Alike l.a l.b l.i
