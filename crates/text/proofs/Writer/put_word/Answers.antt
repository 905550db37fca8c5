-- `put_word` writes its bytes. The loop's invariant: the bytes so far are written. Assumes nothing.
use Rattle.std.proofs.Common.{add-one, arith, take-suc}
use Rattle.text.proofs.WrittenLaws.{wrote_then}
use Rattle.text.proofs.Writer.put_word.Goals as goal

pub loop-b-preserved : goal.loop-b-preserved
loop-b-preserved c = rw (add-one, take-suc c.args.word.now c.loop-b.b-index 0 (omega arith)) (wrote_then c.loop-b.invariant c.put_byte.ensures)
