-- What stops a walk: the exact cause of each number from 23 to 30 (document 01, "Validation"), a row of tests for a key and for a version.
use Rattle.std.specs.Prelude.{ℕ, suc, ◌+◌, ◌<◌, ◌≡◌, List, length}
use Rattle.laws.specs.Refusals.{First, None}
use Rattle.records.specs.Limits.{DataLength}
use Rattle.records.specs.Places.{version_count, first_version, next_entry}
use Rattle.records.specs.Rules.{key_causes, version_causes, entry_refusal}

-- r is the number of the first version that breaks a rule, of the k from p on (27 to 29)
pub data VersionsStop (bytes : List ℕ) (test : DataLength) (r : ℕ) : (prev p k : ℕ) → Type 0 where
  version_here : {prev p k : ℕ} → First r (version_causes bytes test prev p) → VersionsStop bytes test r prev p (suc k)
  version_later : {prev p k : ℕ} → None (version_causes bytes test prev p) → VersionsStop bytes test r p (p + 21) k → VersionsStop bytes test r prev p (suc k)

-- r is the number of the entry at p: its key's (23 to 25), or its slot's (26), or its versions'
pub data EntryStops (slots : ℕ → ℕ) (bytes : List ℕ) (test : DataLength) (r prev p : ℕ) : Type 0 where
  by_key : First r (key_causes bytes prev p) → EntryStops slots bytes test r prev p
  by_slot : None (key_causes bytes prev p) → 0 < r → slots p ≡ r → EntryStops slots bytes test r prev p
  by_versions : None (key_causes bytes prev p) → slots p ≡ 0 → VersionsStop bytes test r (first_version bytes p) (first_version bytes p) (version_count bytes p)
      → EntryStops slots bytes test r prev p

-- r is the number that stops the walk over k keys from p on: the first entry's that breaks a rule, or 30 where bytes are left over at the end
pub data WalkStops (slots : ℕ → ℕ) (bytes : List ℕ) (test : DataLength) (r : ℕ) : (prev p k : ℕ) → Type 0 where
  entry_here : {prev p k : ℕ} → EntryStops slots bytes test r prev p → WalkStops slots bytes test r prev p (suc k)
  entry_later : {prev p k : ℕ} → entry_refusal slots bytes test prev p ≡ 0 → WalkStops slots bytes test r p (next_entry bytes p) k → WalkStops slots bytes test r prev p (suc k)
  left_over : {prev p : ℕ} → r ≡ 30 → (p ≡ length bytes → ⊥) → WalkStops slots bytes test r prev p 0
