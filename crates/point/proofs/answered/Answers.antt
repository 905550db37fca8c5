-- `answered` is `answer_of`, arm by arm. Assumes nothing.
use mathlib.Core.Path.{sym}
use Rattle.point.proofs.GetLaws.{answer_past, answer_found, answer_nothing, answer_damaged}
use Rattle.point.proofs.answered.Goals as goal

pub returns-then-past_data : goal.returns-then-past_data
returns-then-past_data c = sym (answer_past _ _ c.in-Found.r c.in-Found.is _ c.past_data.ensures c.if-past_data.true)

pub returns-else-past_data : goal.returns-else-past_data
returns-else-past_data c = sym (answer_found _ _ c.in-Found.r c.in-Found.is _ c.past_data.ensures c.if-past_data.false)

pub returns-in-Nothing : goal.returns-in-Nothing
returns-in-Nothing c = sym (answer_nothing _ _ c.in-Nothing.is)

pub returns-in-Damaged : goal.returns-in-Damaged
returns-in-Damaged c = sym (answer_damaged _ _ c.in-Damaged.is)
