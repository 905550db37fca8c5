-- `key_at` hands back the key of the entry: as many bytes behind the head as its length says. Assumes nothing.
use native.Mathlib.Omega.{arith}
use Prim.Native.Nat.{◌+◌, ◌-◌}
use mathlib.Core.Path.{◌≡◌}
use Rattle.records.specs.Places.{key_length, key_at}
use Rattle.records.proofs.cursor.key_at.Goals as goal

pub returns : goal.returns
unfolding key_at
returns c = let s = c.args in
    let e : s.p + 8 + c.u32_at.result - (s.p + 8) ≡ key_length s.bytes.now s.p = omega arith in
    rw e
