-- `answer_from` is `answer_from`, arm by arm. Assumes nothing.
use mathlib.Core.Path.{sym, ◌∙◌}
use Rattle.point.proofs.GetLaws.{from_open, from_nothing, from_damaged}
use Rattle.point.proofs.answer_from.Goals as goal

pub returns-in-Open : goal.returns-in-Open
returns-in-Open c = let a = c.args in
    c.answered.ensures ∙ sym (from_open a.body.now a.data_length a.limit _ c.in-Open.v _ c.in-Open.is c.first_within.ensures)

pub returns-in-Nothing : goal.returns-in-Nothing
returns-in-Nothing c = sym (from_nothing _ _ c.args.limit _ c.in-Nothing.is)

pub returns-in-Damaged : goal.returns-in-Damaged
returns-in-Damaged c = sym (from_damaged _ _ c.args.limit _ c.in-Damaged.is)
