-- `PointBuilder::append_new` puts the parts of a new entry one behind the other. Assumes nothing.
use Prim.Native.Nat.{◌+◌}
use mathlib.Core.Path.{◌≡◌}
use native.Mathlib.Omega.{arith}
use lib.ListN.{length}
use Rattle.builder.specs.Add.{new_buffer}
use Rattle.builder.proofs.PartLaws.{entry_put}
use Rattle.builder.proofs.PointBuilder.append_new.Goals as goal

pub returns : goal.returns
unfolding new_buffer
returns c = let s = c.args in
    let e : s.self.used + 8 + length s.key.now + 21 ≡ s.self.used + (29 + length s.key.now) = omega arith in
    record { answer = rw e; left = cc (entry_put s.buffer.now s.self.used s.key.now s.version (omega arith)) }
