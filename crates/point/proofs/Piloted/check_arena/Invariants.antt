-- `Piloted::check_arena` refuses by the rule that stops the walk over the arena. The loop's invariant: the walk from here on stops by the same rule
-- as the whole walk. Assumes nothing.
use Rattle.std.specs.Prelude.{Some}
use Prim.Native.Nat.{◌-◌}
use mathlib.Core.Path.{◌≡◌}
use Rattle.records.specs.Walk.{walk_from}
use Rattle.point.specs.Validate.{slot_refusal, arena_refusal}
use Rattle.point.specs.Inner.Walking.{Stepping}
use Rattle.point.proofs.Piloted.check_arena.Given as goal

abbrev pub invariant-loop : goal.invariant-loop
invariant-loop l =
    Stepping l.self.headed.body.now l.prev l.p
    × ((walk_from (slot_refusal l.self.headed.body.now) l.self.headed.body.now (Some l.data_length) l.prev l.p (l.self.headed.header.keys - l.counter)).rule ≡ arena_refusal l.self.headed.body.now l.data_length)
