-- `construct::single::single_of` meets its contract. The lowest free slot is looked for where the last search stopped. Assumes nothing.
use mathlib.Core.Path.{refl, sym, ap, ◌∙◌}
use native.Mathlib.Omega.{arith}
use lib.ListN.{length, length-set}
use Rattle.construct.specs.Construct.{group, size}
use Rattle.construct.proofs.Placed.{of_skips}
use Rattle.construct.proofs.StepLaws.{single_none, single_some, filled_more}
use Rattle.construct.proofs.single.single_of.Goals as goal

pub returns-then-size-ne1 : goal.returns-then-size-ne1
returns-then-size-ne1 c = (c.requires.filled.0, of_skips _ _ _ _ (λ e. c.if-size-ne1.true (c.size.ensures ∙ e)), c.requires.filled.1)

pub returns-in_err-at : goal.returns-in_err-at
returns-in_err-at c =
    rw c.from_residual.ensures (single_none _ (group c.args.buckets.hashes.now c.args.k) _ _ _ refl (sym c.size.ensures ∙ c.if-size-ne1.false) c.requires.ready.slots_long c.in_err-at.ensures)

pub bounds-group-0 : goal.bounds-group-0
unfolding size
bounds-group-0 c = omega (arith, ap length c.group.ensures.keys, c.size.ensures, c.if-size-ne1.false)

pub returns : goal.returns
returns c = let low = c.in_ok-at.ensures in (
  simp length-set (omega (arith, low.0)),
  single_some _ _ _ _ _ c.group.ensures.keys (sym c.size.ensures ∙ c.if-size-ne1.false) c.requires.ready.slots_long _ low,
  filled_more _ _ _ low,
)
