-- `construct::place::place_of` meets its contract. A bucket of another size is passed over. Assumes nothing.
use mathlib.Core.Path.{sym, ◌∙◌, subst}
use mathlib.Core.Option.{Option}
use native.Mathlib.Omega.{arith}
use Rattle.construct.specs.Construct.{Placing}
use Rattle.construct.specs.Inner.Layout.{Went}
use Rattle.construct.proofs.Placed.{of_skips, of_several}
use Rattle.construct.proofs.place.place_of.Goals as goal

pub returns-then-size-s : goal.returns-then-size-s
returns-then-size-s c = of_skips _ _ _ _ (λ e. c.if-size-s.true (c.size.ensures ∙ e))

pub returns : goal.returns
returns c = let p = c.place_group in
    subst (λ (o : Option Placing). Went o p.new.pilots p.new.slots p.result)
    (sym (of_several _ _ _ _ (sym c.size.ensures ∙ c.if-size-s.false) (λ e. omega (arith, e, c.requires.lt_s)))) p.ensures
