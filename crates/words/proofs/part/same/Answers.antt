-- `same` passes equal words and then equal bytes; the first byte that differs decides, or the end. Assumes nothing.
use Rattle.std.proofs.Common.{sym, arith}
use Rattle.words.proofs.Ordered.{same_differ, same_end, same_lengths}
use Rattle.words.proofs.part.same.Goals as goal

pub returns-then-a-b : goal.returns-then-a-b
returns-then-a-b c = sym (same_lengths c.args.a.now c.args.b.now c.if-a-b.true)

pub returns-then-a-i : goal.returns-then-a-i
returns-then-a-i c = same_differ c.loop-i.invariant (omega arith) (omega arith) c.if-a-i.true

pub returns : goal.returns
returns c = same_end c.loop-i.invariant (omega arith) (omega arith)
