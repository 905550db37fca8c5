-- `compare` passes equal words and then equal bytes, and answers by the first byte or the length that differs. Assumes nothing.
use Rattle.std.proofs.Common.{◌∙◌, arith}
use Rattle.words.proofs.Ordered.{order_differ, order_end}
use Rattle.words.proofs.part.compare.Goals as goal

pub returns-in_default : goal.returns-in_default
returns-in_default c = c.cmp.ensures ∙ order_differ c.loop-i.invariant (omega arith) (omega arith) (λ e. c.in_default.not-Equal (c.cmp.ensures ∙ e))

pub returns : goal.returns
returns c = c.cmp-2.ensures ∙ order_end c.loop-i.invariant (omega arith)
