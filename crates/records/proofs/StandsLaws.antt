-- Entries that stand, one at a time: keys that pass stand, and k entries are the one here and those behind it. Assumes nothing.
use Rattle.std.specs.Prelude.{Some}
use Prim.Native.Nat.{ℕ, suc, ◌-◌, ◌<◌}
use native.Mathlib.Omega.{arith}
use mathlib.Core.Path.{◌≡◌, ap}
use mathlib.Core.List.{List, ◌∷◌}
use Rattle.records.specs.Places.{next_entry, entry_at, entries_from, entry_place}
use Rattle.records.specs.Inner.Stands.{EntryStands, EntriesStand}
use Rattle.records.proofs.PassedLaws.{Passed, passed_at}

-- THEOREM: keys that pass in a row stand
pub passed_stand : {slots : ℕ → ℕ} {bytes : List ℕ} {size prev p n : ℕ} → Passed slots bytes (Some size) prev p n → EntriesStand bytes p n
passed_stand {size = size} r =
    record { each = λ i l. let e = (passed_at i l r).rules in record { size = size; whole = e.key.whole; next = e.next; versions = e.versions } }

module _ {bytes : List ℕ} {p k : ℕ} (some : 0 < k) where
  pub stands_here : EntriesStand bytes p k → EntryStands bytes p
  unfolding entry_place
  stands_here s = s.each 0 some

  pub stands_on : EntriesStand bytes p k → EntriesStand bytes (next_entry bytes p) (k - 1)
  unfolding entry_place
  stands_on s = record { each = λ i l. s.each (suc i) (omega arith) }

-- the entry here and those behind it
pub entries_on : (bytes : List ℕ) (p k : ℕ) → 0 < k → entries_from bytes p k ≡ entry_at bytes p ∷ entries_from bytes (next_entry bytes p) (k - 1)
unfolding entries_from
entries_on bytes p k some = let e : k ≡ suc (k - 1) = omega arith in ap (entries_from bytes p) e
