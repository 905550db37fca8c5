-- `put_hex` writes its bytes in hex. The loop's invariant: the bytes so far are written. Assumes nothing.
use Rattle.std.proofs.Common.{ℕ, take, add-one, arith, length-take-le}
use Rattle.text.specs.Text.{hex_of}
use Rattle.text.proofs.TextLaws.{hex_length}
use Rattle.text.proofs.WrittenLaws.{wrote_none, wrote_then, hex_more}
use Rattle.text.proofs.Writer.put_hex.Goals as goal

pub loop-b-init : goal.loop-b-init
unfolding hex_of
loop-b-init c = wrote_none

pub put_byte-requires : goal.put_byte-requires
put_byte-requires c = let i : ℕ = c.loop-b.b-index in let s = c.args.bytes.now in
    record { inside = omega (arith, hex_length (take i s), hex_length s, length-take-le i s (omega arith)) }

pub put_byte-requires-in-loop-b : goal.put_byte-requires-in-loop-b
put_byte-requires-in-loop-b c = let i : ℕ = c.loop-b.b-index in let s = c.args.bytes.now in
    record { inside = omega (arith, hex_length (take i s), hex_length s, length-take-le i s (omega arith)) }

pub loop-b-preserved : goal.loop-b-preserved
loop-b-preserved c = rw (add-one, hex_more c.args.bytes.now c.loop-b.b-index _ _ (omega arith) c.hex_digit.ensures c.hex_digit-in-loop-b.ensures)
    (wrote_then (wrote_then c.loop-b.invariant c.put_byte.ensures) c.put_byte-in-loop-b.ensures)
