-- `list_places` meets its contract. The loop's invariant: p is the place of the entry that comes next, and the places before it are listed.
-- Assumes nothing.
use Rattle.std.proofs.Common.{◌<◌, ◌≢◌, length, arith, sym, ap, ◌∙◌, get_or-set_other, get_or-set_same, below_more}
use Rattle.std.proofs.lemmas.Grind.{common_steps}
use Rattle.records.specs.Places.{next_entry}
use Rattle.construct.proofs.KeysLaws.{entry_first, entry_next, entry_inside}
use Rattle.finish.proofs.body.list_places.Goals as goal

pub loop-place-init : goal.loop-place-init
loop-place-init c = (sym (entry_first _), λ k l. absurd (omega arith))

pub next_entry-p-requires : goal.next_entry-p-requires
next_entry-p-requires c = entry_inside _ _ c.loop-place.place-index _ c.requires.0 c.loop-place.invariant.0 (grind (arith, common_steps))

pub loop-place-preserved : goal.loop-place-preserved
loop-place-preserved c = let l = c.loop-place in (
  c.next_entry-p.ensures ∙ ap (next_entry _) l.invariant.0 ∙ sym (entry_next _ _),
  below_more _ _
      (λ k h. let ne : k ≢ l.place-index = omega arith in rw get_or-set_other (l.invariant.1 k h))
      (let lt : l.place-index < length l.place-items = omega arith in rw get_or-set_same l.invariant.0),
)
