-- A cell of degree 1 is queued. Assumes nothing.
use Rattle.peel.proofs.TableLaws.{queued_push}
use Rattle.peel.proofs.note.Goals as goal

pub returns-then-narrow-p-eq1 : goal.returns-then-narrow-p-eq1
returns-then-narrow-p-eq1 c = let g = c in queued_push _ _ _ _ (g.requires.3 c.if-narrow-p-eq1.true) g.requires.2 c.if-narrow-p-eq1.true
