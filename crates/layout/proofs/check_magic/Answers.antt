-- `check_magic` refuses by 20, by its two tests. Assumes nothing.
use mathlib.Core.Path.{sym, ◌∙◌}
use Rattle.layout.proofs.HeaderLaws.{magic_short, magic_is}
use native.Mathlib.Omega.{arith}
use Rattle.layout.proofs.check_magic.Goals as goal

pub returns-then-body-lt-BYTES : goal.returns-then-body-lt-BYTES
returns-then-body-lt-BYTES c = sym (magic_short _ c.if-body-lt-BYTES.true)

pub returns-then-same : goal.returns-then-same
returns-then-same c = sym (magic_is _ _ (omega arith) (sym c.same.ensures ∙ c.if-same.true))

pub returns : goal.returns
returns c = sym (magic_is _ _ (omega arith) (sym c.same.ensures ∙ c.if-same.false))
