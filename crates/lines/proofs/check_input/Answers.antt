-- `check_input` refuses by `listing_refusal`, test by test. Assumes nothing.
use mathlib.Core.Logic.{⊎_elim}
use Rattle.lines.proofs.InputLaws.{size_short, size_long, size_passed}
use Rattle.lines.proofs.check_input.Goals as goal

pub returns-then-input-lt-BODY : goal.returns-then-input-lt-BODY
returns-then-input-lt-BODY c = ⊎_elim (size_short _) (λ p. size_long _ p.0 p.1) c.then-input-lt-BODY.either

pub returns : goal.returns
returns c = size_passed _ c.if-input-lt-BODY.false c.if-input-gt-MAX_INPUT.false _ _ c.u64_at.ensures c.validate.ensures
