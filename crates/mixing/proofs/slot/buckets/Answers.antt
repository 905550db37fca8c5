-- `buckets` is a third, rounded up. Assumes nothing.
use Rattle.std.proofs.Common.{arith}
use Rattle.mixing.specs.Slots.{buckets_of}
use Rattle.mixing.proofs.slot.buckets.Goals as goal

pub returns : goal.returns
unfolding buckets_of
returns c = omega arith
