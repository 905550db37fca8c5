-- `mix` is its definition. Assumes nothing.
use Rattle.std.proofs.Common.{refl}
use Rattle.mixrule.specs.Mixing.Opened.{mix_made}
use Rattle.mixing.proofs.mix.Goals as goal

pub returns : goal.returns
returns c = mix_made c.args.h _ _ refl refl
