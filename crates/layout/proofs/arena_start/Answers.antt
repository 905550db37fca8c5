-- `arena_start` is the place behind the last slot. Assumes nothing.
use mathlib.Core.Path.{ap, ◌∙◌}
use Prim.Native.Nat.{ℕ}
use native.Mathlib.Omega.{arith}
use Rattle.mixing.proofs.SlotLaws.{few_buckets}
use Rattle.layout.specs.Layout.{slot_at, arena_start}
use Rattle.layout.proofs.arena_start.Goals as goal

pub slot_at-requires : goal.slot_at-requires
slot_at-requires c = let few = few_buckets c.args.n in
    let e = c.buckets.ensures in
    (omega arith, omega arith)

pub returns : goal.returns
unfolding arena_start
returns c = c.slot_at.ensures ∙ ap (λ (b : ℕ). slot_at b c.args.n) c.buckets.ensures
