-- `seed` mixes the multiple of STEP that attempt i names; the sum wraps as the product does. Assumes nothing.
use Rattle.std.proofs.Common.{◌+◌, ◌^◌, sym, ap, ◌∙◌}
use Rattle.mixing.specs.Mixing.{mix_of, step}
use Rattle.mixrule.specs.Mixing.Opened.{seed_is}
use Rattle.mixing.proofs.Wrapped.{wrapped}
use Rattle.mixing.proofs.seed.Goals as goal

pub returns : goal.returns
returns c = c.mix.ensures ∙ ap mix_of (wrapped step (c.args.i + 1) (2 ^ 64)) ∙ sym (seed_is c.args.i)
