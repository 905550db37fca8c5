-- `construct::seat::find_pilot` meets its contract. The loop's invariant: no pilot before p seats the members, and the slots are as they
-- were. Assumes nothing.
use Prim.Native.Nat.{ℕ, ◌<◌}
use mathlib.Core.Path.{◌≡◌}
use mathlib.Core.Option.{none}
use lib.ListN.{length}
use Rattle.construct.specs.Construct.{seat}
use Rattle.construct.proofs.seat.find_pilot.Given as goal

abbrev pub invariant-loop-p : goal.invariant-loop-p
invariant-loop-p l = (l.slots ≡ l.initial.slots) × ((q : ℕ) → q < l.p → seat l.members.hashes.now l.members.keys.now q (length l.members.keys.now) l.initial.slots ≡ none)
