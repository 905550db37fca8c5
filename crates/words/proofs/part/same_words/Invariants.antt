-- `same_words` answers a number of first bytes that are the same in both: each equal word adds eight. Assumes nothing.
use Rattle.std.proofs.Common.{◌*◌}
use Rattle.words.proofs.Ordered.{Alike}
use Rattle.words.proofs.part.same_words.Given as goal

abbrev pub invariant-loop-w : goal.invariant-loop-w
invariant-loop-w l = Alike l.a l.b (8 * l.w)
