-- `entry_within` is `entry_within`, by the head that is read. Assumes nothing.
use mathlib.Core.Path.{sym, ◌∙◌}
use Rattle.records.proofs.SearchLaws.{entry_head}
use Rattle.records.proofs.search.entry_within.Goals as goal

pub returns-in-Some : goal.returns-in-Some
returns-in-Some c = c.first_within.ensures ∙ sym (entry_head _ c.args.place _ _ (sym c.in-Some.ensures))

pub returns-in-None : goal.returns-in-None
returns-in-None c = sym (entry_head _ c.args.place _ _ (sym c.in-None.ensures))
