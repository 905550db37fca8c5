-- The exact cause of each number that validation refuses with (20 to 30), and of the 14 of get, of locating and of opening (document 01,
-- "Validation" and "Get").
use Rattle.std.specs.Prelude.{ℕ, suc, ◌+◌, ◌<◌, ◌≤◌, ◌≡◌, List, true, false, length, Some}
use Rattle.laws.specs.Refusals.{First, None}
use Rattle.words.specs.Part.{same_as}
use Rattle.mixing.specs.Mixing.{hash_of, fingerprint_of}
use Rattle.layout.specs.Layout.{header_refusal, magic_causes, body_causes, seed_in, keys_in, buckets_in, arena_in, pilot_at, pilot_of, direct_past, slot_place, record_offset, fingerprint_low}
use Rattle.records.specs.Limits.{Limit}
use Rattle.records.specs.declared.Record.{Record}
use Rattle.records.specs.declared.Within.TheVariants.{Found}
use Rattle.records.specs.Model.{within}
use Rattle.records.specs.Places.{key_at, first_version, version_count, sequence_at, kind_at}
use Rattle.records.specs.Rules.{bad_kind}
use Rattle.records.specs.Causes.{WalkStops}
use Rattle.point.specs.Validate.{slot_refusal, Checked}
use Rattle.point.specs.Get.{open_of, first_for}
use Rattle.point.specs.Table.{key_slot}

-- validation refuses with r: 20, or 21 of a right magic; 22 of a right header, for a direct pilot at or past n; 23 to 30 of right pilots, for
-- what stops the walk over the arena
pub data ValidationStops (body : List ℕ) (size r : ℕ) : Type 0 where
  magic_wrong : First r (magic_causes body) → ValidationStops body size r
  dimensions_wrong : None (magic_causes body) → First r (body_causes body) → ValidationStops body size r
  pilot_past : header_refusal body ≡ 0 → r ≡ 22 → (i : ℕ) → i < buckets_in body → direct_past (keys_in body) (pilot_at body i) ≡ true → ValidationStops body size r
  arena_stops : Checked body → WalkStops (slot_refusal body) body (Some size) r (arena_in body) (arena_in body) (keys_in body) → ValidationStops body size r

-- a key's slot leads to the place p: the header passes, the chosen pilot is no direct one at or past n, the low 16 fingerprint bits are equal
pub record Leads (body key : List ℕ) (p : ℕ) : Type 0 where
  pub header : header_refusal body ≡ 0
  pub pilot : direct_past (keys_in body) (pilot_of body (hash_of (seed_in body) key)) ≡ false
  pub fingerprint : fingerprint_low body (slot_place body (key_slot body key)) ≡ fingerprint_of (hash_of (seed_in body) key)
  pub place : arena_in body + record_offset body (slot_place body (key_slot body key)) ≡ p

-- the record at p is inside the body up to its key, which is the key asked for
pub record RecordOpens (body key : List ℕ) (p : ℕ) : Type 0 where
  pub whole : first_version body p ≤ length body
  pub same : same_as (key_at body p) key ≡ true

-- a key's slot leads to p, where its record opens
pub record Opens (body key : List ℕ) (p : ℕ) : Type 0 where
  pub leads : Leads body key p
  pub opens : RecordOpens body key p

-- locating a key meets damage (14): 20 or 21; a chosen direct pilot at or past n; the record's start past the body's end
pub data LocatingDamaged (body key : List ℕ) : Type 0 where
  header_damaged : (header_refusal body ≡ 0 → ⊥) → LocatingDamaged body key
  pilot_damaged : header_refusal body ≡ 0 → direct_past (keys_in body) (pilot_of body (hash_of (seed_in body) key)) ≡ true → LocatingDamaged body key
  start_outside : (p : ℕ) → Leads body key p → length body < p → LocatingDamaged body key

-- opening the record at p meets damage (14): record header or key outside the body
pub data RecordDamaged (body : List ℕ) (p : ℕ) : Type 0 where
  header_outside : length body < p + 8 → RecordDamaged body p
  key_outside : p + 8 ≤ length body → length body < first_version body p → RecordDamaged body p

-- opening a key meets damage (14): locating it does, or opening the record that its slot leads to
pub data OpeningDamaged (body key : List ℕ) : Type 0 where
  locating_damaged : LocatingDamaged body key → OpeningDamaged body key
  record_damaged : (p : ℕ) → Leads body key p → RecordDamaged body p → OpeningDamaged body key

-- of the k versions from p on, one that get visits is outside the body or of bad kind; those before it are neither, and not within the limit
pub data VersionDamaged (body : List ℕ) (limit : Limit) : (p k : ℕ) → Type 0 where
  outside : {p k : ℕ} → length body < p + 21 → VersionDamaged body limit p (suc k)
  bad_kind_is : {p k : ℕ} → p + 21 ≤ length body → bad_kind (kind_at body p) ≡ true → VersionDamaged body limit p (suc k)
  later : {p k : ℕ} → p + 21 ≤ length body → bad_kind (kind_at body p) ≡ false → within limit (sequence_at body p) ≡ false → VersionDamaged body limit (p + 21) k
      → VersionDamaged body limit p (suc k)

-- get meets damage (14): opening the key does; a version visited outside the body or of bad kind; offset + length of the answer past the data
pub data DamageMet (body : List ℕ) (size : ℕ) (key : List ℕ) (limit : Limit) : Type 0 where
  opening_damaged : OpeningDamaged body key → DamageMet body size key limit
  version_damaged : (p : ℕ) → Opens body key p → VersionDamaged body limit (first_version body p) (version_count body p) → DamageMet body size key limit
  value_outside : (r : Record) → first_for body (open_of body key) limit ≡ Found r → size < r.offset + r.length → DamageMet body size key limit
