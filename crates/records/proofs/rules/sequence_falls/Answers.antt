-- `sequence_falls` is `sequence_falls`. Assumes nothing.
use mathlib.Core.Path.{sym, ◌∙◌}
use borrow.Author.Tests.{eq-eqb}
use Rattle.records.proofs.RuleLaws.{sequence_first, sequence_next}
use Rattle.records.proofs.rules.sequence_falls.Goals as goal

pub returns-then-prev-p : goal.returns-then-prev-p
returns-then-prev-p c = eq-eqb _ _ c.if-prev-p.true ∙ sym (sequence_first _ _ _ c.if-prev-p.true)

pub returns-else-prev-p : goal.returns-else-prev-p
returns-else-prev-p c = sym (sequence_next _ _ _ c.if-prev-p.false ∙ cc (c.u64_at.ensures, c.u64_at-else-prev-p.ensures))
