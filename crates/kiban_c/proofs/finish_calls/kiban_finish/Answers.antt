-- `kiban_finish` answers its own check, and then what finish answers. Assumes nothing.
use mathlib.Core.Path.{refl}
use Rattle.kiban_c.proofs.FinishCallLaws.{finish_refused, finish_made}
use Rattle.kiban_c.proofs.finish_calls.kiban_finish.Goals as goal

pub returns-then-answer-lt1 : goal.returns-then-answer-lt1
returns-then-answer-lt1 c = rw c.number.ensures (finish_refused c.if-answer-lt1.true)

pub returns : goal.returns
returns c = let e = c.put_size.ensures in
    rw e.0 (finish_made c.if-answer-lt1.false c.finish.ensures refl e.1)
