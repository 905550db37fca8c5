-- Between the steps: what is known of the entries of bytes that a walk has passed.
use Rattle.std.specs.Prelude.{ℕ, ◌<◌, ◌≤◌, ◌≡◌, List, length, Some}
use Rattle.records.specs.Places.{first_version, next_entry, entry_place}
use Rattle.records.specs.Rules.{entry_versions_refusal}

-- a whole entry stands at p, whose versions pass 27 to 29 for some data
pub record EntryStands (bytes : List ℕ) (p : ℕ) : Type 0 where
  pub size : ℕ
  pub whole : first_version bytes p ≤ length bytes
  pub next : next_entry bytes p ≤ length bytes
  pub versions : entry_versions_refusal bytes (Some size) p ≡ 0

-- k entries stand from p on
pub record EntriesStand (bytes : List ℕ) (p k : ℕ) : Type 0 where
  pub each : (i : ℕ) → i < k → EntryStands bytes (entry_place bytes p i)
