-- `shift_down` shifts by eight bits a byte. Assumes nothing.
use Rattle.std.proofs.Common.{ℕ, ◌/◌, ap}
use Rattle.mixing.proofs.RestLaws.{pow_bytes}
use Rattle.mixing.proofs.shift_down.Goals as goal

pub returns : goal.returns
returns c = ap (λ (m : ℕ). c.args.x / m) (pow_bytes c.args.bytes)
