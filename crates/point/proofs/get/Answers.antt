-- `get` is the answer to the opening of the key. Assumes nothing.
use mathlib.Core.Path.{ap, ◌∙◌}
use lib.ListN.{length}
use Rattle.point.specs.declared.Opened.{Opened}
use Rattle.point.specs.Get.{answer_from, get_of}
use Rattle.point.proofs.get.Goals as goal

pub returns : goal.returns
unfolding get_of
returns c = let a = c.args in
    c.answer_from.ensures ∙ ap (λ (o : Opened). answer_from a.body.now (length a.«data».now) o a.limit) c.«open».ensures
