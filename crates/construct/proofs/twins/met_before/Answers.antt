-- `construct::twins::met_before` meets its contract. The loop's invariant: no member before i has the hash. Assumes nothing.
use mathlib.Core.Path.{sym, ap, ◌∙◌}
use native.Mathlib.Omega.{arith}
use borrow.Author.Tests.{eq-eqb, ne_eqb}
use Rattle.laws.specs.Steps.{any_below}
use Rattle.laws.proofs.StepsLaws.{any_none, any_some, any_miss}
use Rattle.construct.specs.Construct.{alike, met}
use Rattle.construct.proofs.twins.met_before.Goals as goal

pub loop-i-init : goal.loop-i-init
loop-i-init c = any_none _

pub returns-then-hash-x : goal.returns-then-hash-x
unfolding met alike
returns-then-hash-x c =
    sym (any_some _ c.loop-i.i _ c.loop-i-test.true (eq-eqb _ _ (sym c.hash.ensures ∙ c.if-hash-x.true ∙ c.hash-x.ensures)))

pub loop-i-preserved : goal.loop-i-preserved
unfolding alike
loop-i-preserved c =
    any_miss _ c.loop-i.i (ne_eqb _ _ (λ e. c.if-hash-x.false (c.hash.ensures ∙ e ∙ sym c.hash-x.ensures))) c.loop-i.invariant

pub returns : goal.returns
unfolding met
returns c = sym (ap (any_below _) (omega arith) ∙ c.loop-i.invariant)
