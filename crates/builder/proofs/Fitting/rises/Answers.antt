-- `Fitting::rises` answers whether the key is greater than the last, by the comparison of the two. Assumes nothing.
use native.Mathlib.Omega.{arith}
use borrow.Author.Tests.{eq-eqb}
use mathlib.Core.Path.{◌∙◌}
use Rattle.builder.specs.Add.{rises_after}
use Rattle.builder.proofs.StateLaws.{fits_known}
use Rattle.builder.proofs.AddLaws.{rises_known}
use Rattle.builder.proofs.Fitting.rises.Goals as goal

pub returns-then-self-eq0 : goal.returns-then-self-eq0
unfolding rises_after
returns-then-self-eq0 c = simp (eq-eqb _ _ c.if-self-eq0.true)

pub key_at-requires : goal.key_at-requires
key_at-requires c = let s = c.args.self.now in
    let f = fits_known s.state s.buffer.now c.if-self-eq0.false s.fitting in
    omega arith

pub returns-else-self-eq0 : goal.returns-else-self-eq0
returns-else-self-eq0 c = let s = c.args.self.now in c.is_lt.ensures ∙ rises_known s.state s.buffer.now c.args.key.now c.if-self-eq0.false _ (cc)
