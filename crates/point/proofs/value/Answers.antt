-- `value` is the part of the lent data that the found record names, arm by arm. Assumes nothing.
use mathlib.Core.Path.{refl, sym}
use mathlib.Core.Logic.{⊎_elim}
use Rattle.point.proofs.GetLaws.{get_fits, value_found, value_nothing, value_refused}
use native.Mathlib.Omega.{arith}
use borrow.Author.Rules.{rules}
use Rattle.point.proofs.value.Goals as goal

pub overflow_add-to : goal.overflow_add-to
overflow_add-to c = let f = get_fits _ _ _ _ _ (sym c.in-Found.ensures) in omega arith

pub slice_bounds-result-end : goal.slice_bounds-result-end
slice_bounds-result-end c = let f = get_fits _ _ _ _ _ (sym c.in-Found.ensures) in search rules

pub returns-in-Found : goal.returns-in-Found
returns-in-Found c = value_found _ _ c.args.key.now c.args.limit _ c.in-Found.ensures c.args.«data».ref_ptr refl _ refl (omega arith)

pub returns-in-Nothing : goal.returns-in-Nothing
returns-in-Nothing c =
    ⊎_elim
    (λ e. value_nothing _ _ c.args.key.now c.args.limit _ c.get.ensures c.args.«data».ref_ptr refl e (omega arith))
    (λ e. value_refused _ _ c.args.key.now c.args.limit _ c.get.ensures c.args.«data».ref_ptr refl e.0 e.1 (omega arith))
    c.in-Nothing.is
