-- `open` opens the record that `locate` finds, arm by arm. Assumes nothing.
use mathlib.Core.Path.{sym, ◌∙◌}
use Rattle.point.proofs.GetLaws.{open_is}
use Rattle.point.proofs.open.Goals as goal

pub returns-in-At : goal.returns-in-At
returns-in-At c = c.open_record.ensures ∙ sym (open_is _ c.args.key.now _ c.in-At.ensures)

pub returns-in-Nothing : goal.returns-in-Nothing
returns-in-Nothing c = sym (open_is _ c.args.key.now _ c.in-Nothing.ensures)

pub returns-in-Damaged : goal.returns-in-Damaged
returns-in-Damaged c = sym (open_is _ c.args.key.now _ c.in-Damaged.ensures)
