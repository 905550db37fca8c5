-- `fingerprint` is the top 16 bits of the hash mixed once more. Assumes nothing.
use Rattle.std.proofs.Common.{ℕ, ◌/◌, ◌^◌, sym, ap, ◌∙◌}
use Rattle.mixrule.specs.Mixing.Opened.{fingerprint_is}
use Rattle.mixing.proofs.fingerprint.Goals as goal

pub returns : goal.returns
returns c = ap (λ (n : ℕ). n / 2 ^ 48) c.mix.ensures ∙ sym (fingerprint_is c.args.h)
