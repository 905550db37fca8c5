-- `put_hex` writes its bytes in hex. The loop's invariant: the bytes so far are written. Assumes nothing.
use Rattle.std.proofs.Common.{take}
use Rattle.text.specs.Text.{hex_of}
use Rattle.text.specs.Inner.Written.{Wrote}
use Rattle.text.proofs.Writer.put_hex.Given as goal

abbrev pub invariant-loop-b : goal.invariant-loop-b
invariant-loop-b l = Wrote l.initial.front (hex_of (take l.b-index l.bytes)) l.front
