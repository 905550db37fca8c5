-- `take_in` is its definition, by the rotation. Assumes nothing.
use Rattle.std.proofs.Common.{ℕ, ◌*◌, ◌%◌, ◌^◌, sym, ap, ◌∙◌}
use Rattle.std.proofs.lemmas.Nat.{xor_lt}
use Rattle.mixing.specs.Mixing.{step}
use Rattle.mixrule.specs.Mixing.Opened.{taken_is}
use Rattle.mixing.proofs.Turned.{turned}
use Rattle.mixing.proofs.take_in.Goals as goal

pub returns : goal.returns
returns c = ap (λ (n : ℕ). n * step % 2 ^ 64) (c.rotate_left.ensures ∙ turned _ (xor_lt 64 c.args.h c.args.w c.ranges.h.fits c.ranges.w.fits))
    ∙ sym (taken_is c.args.h c.args.w)
