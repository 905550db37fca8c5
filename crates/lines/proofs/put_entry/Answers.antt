-- `put_entry` writes the line of an entry that shows a record, and nothing of any other. Assumes nothing.
use mathlib.Core.Path.{sym, ◌∙◌}
use mathlib.Core.Logic.{⊎_elim}
use Rattle.records.specs.Places.{entry_at}
use Rattle.records.proofs.ModelLaws.{found_none, found_whole}
use Rattle.lines.specs.Shown.{newest_tombstone, shown}
use Rattle.lines.proofs.LinesLaws.{line_ends, lined_some, lined_none}
use Rattle.lines.proofs.put_entry.Goals as goal

pub put_line-requires : goal.put_line-requires
unfolding entry_at
put_line-requires c = let a = c.args in
    rw c.key_at.ensures
    (line_ends (entry_at a.body.now a.p).key (shown newest_tombstone a.limit (entry_at a.body.now a.p)) _
    (sym c.in-Found.ensures) c.requires.1)

pub returns-in-Found : goal.returns-in-Found
unfolding entry_at
returns-in-Found c = let a = c.args in
    lined_some (entry_at a.body.now a.p).key (shown newest_tombstone a.limit (entry_at a.body.now a.p)) _
    (sym c.in-Found.ensures)
    (rw c.key_at.ensures at c.put_line.ensures)

pub returns-in-Nothing : goal.returns-in-Nothing
returns-in-Nothing c = let a = c.args in
    let o = shown newest_tombstone a.limit (entry_at a.body.now a.p) in
    ⊎_elim
    (λ e. lined_none (entry_at a.body.now a.p).key o (found_none o (sym c.shown_at.ensures ∙ e)))
    (λ e. absurd (found_whole o (sym c.shown_at.ensures ∙ e)))
    c.in-Nothing.is
