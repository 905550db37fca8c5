-- `Headed::open` refuses by the first of 20 and 21, and else hands over the body with its header. Assumes nothing.
use mathlib.Core.Path.{sym, refl, ◌∙◌}
use borrow.Author.Tests.{le-leb, lt-leb}
use Rattle.numbers.proofs.NumberLaws.{refused_first, passed_on}
use Rattle.layout.specs.Layout.{header_refusal}
use Rattle.layout.proofs.HeaderLaws.{magic_long, header_on}
use Rattle.layout.proofs.Headed.open.Goals as goal

pub returns-in_err-check_magic-clause-refuses : goal.returns-in_err-check_magic-clause-refuses
unfolding header_refusal
returns-in_err-check_magic-clause-refuses c =
    passed_on _ _ _ c.from_residual.ensures.1 (refused_first _ _ _ c.in_err-check_magic.ensures)

pub read-header-requires : goal.read-header-requires
read-header-requires c = magic_long _ (sym c.in_ok-check_magic.ensures)

pub returns-in_err-check_dimensions-clause-refuses : goal.returns-in_err-check_dimensions-clause-refuses
returns-in_err-check_dimensions-clause-refuses c =
    passed_on _ _ _ c.from_residual-in_err-check_dimensions.ensures.1 (refused_first _ _ _ c.in_err-check_dimensions.ensures
    ∙ sym (header_on _ _ _ _ c.in_ok-check_magic.ensures refl c.read-header.ensures refl))

pub returns-then-body-header-clause-refuses : goal.returns-then-body-header-clause-refuses
returns-then-body-header-clause-refuses c =
    rw (header_on _ _ _ _ c.in_ok-check_magic.ensures refl c.read-header.ensures c.in_ok-check_dimensions.ensures, le-leb _ _ c.if-body-header.true)

pub invariant_of-result : goal.invariant_of-result
invariant_of-result c = record {
  passed = header_on _ _ _ _ c.in_ok-check_magic.ensures refl c.read-header.ensures c.in_ok-check_dimensions.ensures ∙ rw (lt-leb _ _ c.if-body-header.false);
  read = c.read-header.ensures;
}
