-- `put_decimal` lays the digits down from the array's end. The loop's invariant: the digits of what is left, with those laid, are the number's. Assumes nothing.
use Rattle.std.proofs.Common.{◌≤◌, arith, length-set, ◌∙◌}
use Rattle.text.proofs.TextLaws.{digits_room, digits_on, digits_end}
use Rattle.text.proofs.Writer.put_decimal.Goals as goal

pub overflow_sub-from : goal.overflow_sub-from
overflow_sub-from c = let l = c.loop-rest in let v = l.invariant in
    digits_room _ l.rest l.from l.digits v.whole v.here v.laid (omega arith) c.loop-rest-test.true

pub loop-rest-preserved : goal.loop-rest-preserved
loop-rest-preserved c = let l = c.loop-rest in let v = l.invariant in
    let f : 1 ≤ l.from = digits_room _ l.rest l.from l.digits v.whole v.here v.laid (omega arith) (omega arith) in
    record { whole = length-set l.digits l.from _ ∙ v.whole; here = omega arith; laid = digits_on _ l.rest l.from l.digits v.whole v.here v.laid (omega arith) f }

pub put_word-requires : goal.put_word-requires
put_word-requires c = let l = c.loop-rest in let v = l.invariant in
    rw (digits_end _ l.rest l.from l.digits v.whole v.here v.laid (omega arith)) c.requires

pub returns : goal.returns
returns c = let l = c.loop-rest in let v = l.invariant in
    rw (digits_end _ l.rest l.from l.digits v.whole v.here v.laid (omega arith)) at c.put_word.ensures
