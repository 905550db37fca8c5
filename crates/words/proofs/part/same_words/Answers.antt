-- `same_words` answers a number of first bytes that are the same in both: each equal word adds eight. Assumes nothing.
use Rattle.std.proofs.Common.{sym, ◌∙◌, arith}
use Rattle.words.proofs.Ordered.{word_more}
use Rattle.words.proofs.part.same_words.Goals as goal

pub loop-w-preserved : goal.loop-w-preserved
loop-w-preserved c = word_more c.loop-w.invariant (omega arith) (λ i. (c.type_inv.a i).fits) (λ i. (c.type_inv.b i).fits) (omega arith) (omega arith)
    (sym c.u64_at.ensures ∙ c.if-u64_at.false ∙ c.u64_at-in-loop-w.ensures)
