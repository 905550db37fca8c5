-- `Piloted::open` refuses by 22. The loop's invariant: what the pilots from `i` on say is what all say. Assumes nothing.
use Prim.Native.Nat.{◌-◌}
use mathlib.Core.Path.{◌≡◌}
use Rattle.layout.specs.Layout.{keys_in, buckets_in}
use Rattle.point.specs.Validate.{pilots_refusal}
use Rattle.point.proofs.Piloted.open.Given as goal

abbrev pub invariant-loop-i : goal.invariant-loop-i
invariant-loop-i l =
    pilots_refusal l.headed.body.now l.headed.header.keys l.i (l.headed.header.buckets - l.i) ≡ pilots_refusal l.headed.body.now (keys_in l.headed.body.now) 0 (buckets_in l.headed.body.now)
