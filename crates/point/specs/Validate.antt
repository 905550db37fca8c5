-- Validation in document 01's order (document 01, "Validation").
use Rattle.std.specs.Prelude.{ℕ, zero, suc, ◌-◌, ◌≡◌, List, [], ◌∷◌, not, cond, eqb, Some, Result}
use Rattle.laws.specs.Refusals.{Cause, cause, first_of, or_else}
use Rattle.numbers.specs.declared.Refusal.{Refusal}
use Rattle.numbers.specs.Numbers.{answered}
use Rattle.mixing.specs.Mixing.{hash_of, fingerprint_of}
use Rattle.layout.specs.Layout.{header_refusal, seed_in, keys_in, buckets_in, arena_in, pilot_at, direct_past, slot_of, slot_place, record_offset, fingerprint_wide}
use Rattle.records.specs.Places.{key_at}
use Rattle.records.specs.Walk.{walk_from}

-- 22 a direct pilot at or past n, among the k pilots from i on
unfoldable pub pilots_refusal : List ℕ → (n i : ℕ) → ℕ → ℕ
pilots_refusal body n i zero = 0
pilots_refusal body n i (suc k) = cond (direct_past n (pilot_at body i)) 22 (pilots_refusal body n (suc i) k)

-- 26 slot offset or fingerprint (read as u32) wrong, of a hash h whose key stands at p
abbrev pub slot_causes : List ℕ → (h p : ℕ) → List Cause
slot_causes body h p =
    cause (not (eqb (record_offset body (slot_place body (slot_of body h))) (p - arena_in body))) 26
    ∷ cause (not (eqb (fingerprint_wide body (slot_place body (slot_of body h))) (fingerprint_of h))) 26
    ∷ []

unfoldable pub slot_test : List ℕ → (h p : ℕ) → ℕ
slot_test body h p = first_of (slot_causes body h p)

-- 26 of the key at p
unfoldable pub slot_refusal : List ℕ → ℕ → ℕ
slot_refusal body p = slot_test body (hash_of (seed_in body) (key_at body p)) p

-- 23 to 30, over the arena
abbrev pub arena_refusal : List ℕ → ℕ → ℕ
arena_refusal body size = (walk_from (slot_refusal body) body (Some size) (arena_in body) (arena_in body) (keys_in body)).rule

-- the number that validation refuses with, 0 where it accepts
unfoldable pub validation_refusal : List ℕ → ℕ → ℕ
validation_refusal body size =
    or_else (header_refusal body) (or_else (pilots_refusal body (keys_in body) 0 (buckets_in body)) (arena_refusal body size))

-- the answer of validation
unfoldable pub validate_of : List ℕ → ℕ → Result (Unit {0}) Refusal
validate_of body size = answered (validation_refusal body size) (record {})

-- 20 to 22 passed
pub record Checked (body : List ℕ) : Type 0 where
  pub header : header_refusal body ≡ 0
  pub pilots : pilots_refusal body (keys_in body) 0 (buckets_in body) ≡ 0
