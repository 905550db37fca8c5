-- `shown_at` is `shown`, by what its two searches find. Assumes nothing.
use mathlib.Core.Path.{sym, ◌∙◌}
use Rattle.lines.proofs.ShownLaws.{ruled_newest, shown_left, shown_found}
use Rattle.lines.proofs.shown_at.Goals as goal

pub returns-then-tombstone_found : goal.returns-then-tombstone_found
returns-then-tombstone_found c = let s = c.requires in
    shown_left _ _ _ s _ (ruled_newest _ _ _ s _ c.entry_within-newest.ensures ∙ sym c.tombstone_found.ensures ∙ c.if-tombstone_found.true)

pub returns : goal.returns
returns c = let s = c.requires in
    let e = ruled_newest _ _ _ s _ c.entry_within-newest.ensures ∙ sym c.tombstone_found.ensures ∙ c.if-tombstone_found.false in
    shown_found _ _ _ s _ e _ c.entry_within.ensures
