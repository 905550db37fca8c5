-- `list_places` meets its contract. The loop's invariant: p is the place of the entry that comes next, and the places before it are listed.
-- Assumes nothing.
use Prim.Native.Nat.{ℕ, ◌<◌}
use mathlib.Core.Path.{◌≡◌}
use lib.ListN.{get_or}
use Rattle.records.specs.Places.{entry_place}
use Rattle.finish.proofs.body.list_places.Given as goal

abbrev pub invariant-loop-place : goal.invariant-loop-place
invariant-loop-place l =
    (l.p ≡ entry_place l.arena 0 l.place-index)
    × ((k : ℕ) → k < l.place-index → get_or l.place-items k 0 ≡ entry_place l.arena 0 k)
