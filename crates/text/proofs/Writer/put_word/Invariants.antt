-- `put_word` writes its bytes. The loop's invariant: the bytes so far are written. Assumes nothing.
use Rattle.std.proofs.Common.{take}
use Rattle.text.specs.Inner.Written.{Wrote}
use Rattle.text.proofs.Writer.put_word.Given as goal

abbrev pub invariant-loop-b : goal.invariant-loop-b
invariant-loop-b l = Wrote l.initial.front (take l.b-index l.word) l.front
