-- `key_rises` is `key_rises`: the two keys are compared. Assumes nothing.
use mathlib.Core.Path.{sym, ◌∙◌}
use borrow.Author.Tests.{eq-eqb}
use Rattle.records.proofs.RuleLaws.{key_first, key_compared}
use Rattle.records.proofs.rules.key_rises.Goals as goal

pub returns-then-prev-p : goal.returns-then-prev-p
returns-then-prev-p c = eq-eqb _ _ c.if-prev-p.true ∙ sym (key_first _ _ _ c.if-prev-p.true)

pub returns-else-prev-p : goal.returns-else-prev-p
returns-else-prev-p c = let a = c.args in
    c.is_lt.ensures ∙ key_compared a.bytes.now a.prev a.p _ c.if-prev-p.false (cc)
