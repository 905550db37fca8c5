-- `PointBuilder::check_add` refuses by the first cause that holds. Assumes nothing.
use borrow.Author.Tests.{lt-ltb, le-ltb}
use Rattle.numbers.proofs.NumberLaws.{passed_on}
use Rattle.builder.specs.Add.{taking_causes, add_causes, add_refusal}
use Rattle.builder.proofs.StateLaws.{fit_passed}
use Rattle.builder.proofs.AddLaws.{add_unfit}
use Rattle.builder.proofs.PointBuilder.check_add.Goals.{then-key-via-then-key, then-key-via-else-key+then-length}
use Rattle.builder.proofs.PointBuilder.check_add.Goals as goal

pub returns-in_err-fitting : goal.returns-in_err-fitting
returns-in_err-fitting c = passed_on _ _ _ c.from_residual.ensures.1 (add_unfit _ _ _ _ c.in_err-fitting.ensures.refuses)

pub returns-then-key : goal.returns-then-key
unfolding add_refusal add_causes taking_causes
returns-then-key c = elim c.then-key.branch [
  | then-key-via-then-key w ↦ rw (fit_passed _ c.in_ok-fitting.ensures.refuses, lt-ltb _ _ w.if-key.true)
  | then-key-via-else-key+then-length w ↦ rw (fit_passed _ c.in_ok-fitting.ensures.refuses, le-ltb _ _ w.if-key.false, lt-ltb _ _ w.if-length.true)
]

pub returns-then-full_tombstone : goal.returns-then-full_tombstone
unfolding add_refusal add_causes taking_causes
returns-then-full_tombstone c =
    rw (
      fit_passed _ c.in_ok-fitting.ensures.refuses,
      le-ltb _ _ c.if-key.false,
      le-ltb _ _ c.if-length.false,
      ← c.byte.ensures,
      ← c.full_tombstone.ensures,
      c.if-full_tombstone.true,
    )

pub returns-then-new_key : goal.returns-then-new_key
unfolding add_refusal add_causes taking_causes
returns-then-new_key c =
    rw (
      fit_passed _ c.in_ok-fitting.ensures.refuses,
      le-ltb _ _ c.if-key.false,
      le-ltb _ _ c.if-length.false,
      ← c.byte.ensures,
      ← c.full_tombstone.ensures,
      c.if-full_tombstone.false,
      c.if-new_key.true,
    ) (rw (c.in_ok-fitting.ensures.of_state.0, c.in_ok-fitting.ensures.of_state.1) at c.check_new.ensures)

pub returns : goal.returns
unfolding add_refusal add_causes taking_causes
returns c =
    rw (
      fit_passed _ c.in_ok-fitting.ensures.refuses,
      le-ltb _ _ c.if-key.false,
      le-ltb _ _ c.if-length.false,
      ← c.byte.ensures,
      ← c.full_tombstone.ensures,
      c.if-full_tombstone.false,
      c.if-new_key.false,
    ) (rw (c.in_ok-fitting.ensures.of_state.0, c.in_ok-fitting.ensures.of_state.1) at c.check_continued.ensures)
