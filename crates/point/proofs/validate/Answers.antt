-- `validate` refuses by the first of the header, the pilots and the arena. Assumes nothing.
use mathlib.Core.Path.{sym, ◌∙◌}
use Rattle.numbers.proofs.NumberLaws.{refused_first, passed_on, answered_number}
use Rattle.point.specs.Validate.{validation_refusal, validate_of}
use Rattle.point.proofs.validate.Goals as goal

pub returns-in_err-headed : goal.returns-in_err-headed
unfolding validate_of validation_refusal
returns-in_err-headed c =
    answered_number _ _ (passed_on _ _ _ c.from_residual.ensures.1 (refused_first _ _ _ c.in_err-headed.ensures.refuses))

pub returns-in_err-piloted : goal.returns-in_err-piloted
unfolding validate_of validation_refusal
returns-in_err-piloted c =
    let e = rw c.in_ok-headed.ensures.of_body at c.in_err-piloted.ensures.refuses in
    answered_number _ _ (passed_on _ _ _ c.from_residual-in_err-piloted.ensures.1 (rw (sym c.in_ok-headed.ensures.refuses) (refused_first _ _ _ e)))

pub returns : goal.returns
unfolding validate_of validation_refusal
returns c =
    let q = c.in_ok-headed.ensures.of_body in
    let p = rw q at c.in_ok-piloted.ensures.refuses in
    let e = rw (c.in_ok-piloted.ensures.of_body ∙ q) at c.check_arena.ensures in
    answered_number _ _ (rw (sym c.in_ok-headed.ensures.refuses, sym p) e)
