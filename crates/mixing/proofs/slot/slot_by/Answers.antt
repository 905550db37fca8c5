-- `slot_by` is `slot_by`, by the mark of the pilot. Assumes nothing.
use Rattle.std.proofs.Common.{sym, ◌∙◌, le-ltb, lt-ltb}
use Rattle.mixing.specs.Slots.{slot_by}
use Rattle.mixing.proofs.slot.slot_by.Goals as goal

pub returns-then-pilot-lt-DIRECT : goal.returns-then-pilot-lt-DIRECT
unfolding slot_by
returns-then-pilot-lt-DIRECT c = c.position.ensures ∙ sym (simp (lt-ltb _ _ c.if-pilot-lt-DIRECT.true))

pub returns : goal.returns
unfolding slot_by
returns c = sym (simp (le-ltb _ _ c.if-pilot-lt-DIRECT.false))
