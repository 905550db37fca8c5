-- Where things stand in a body: the header as it is read and written, the pilots, the slots (document 01, "Layouts"), and the header's rules 20 and 21.
use Rattle.std.specs.Prelude.{ℕ, ◌+◌, ◌*◌, List, [], ◌∷◌, ◌++◌, Bool, not, length, take, ltb, leb, eqb}
use Rattle.laws.specs.Refusals.{Cause, cause, first_of, or_else}
use Rattle.words.specs.Field.{le, bytes_of}
use Rattle.words.specs.Part.{same_as}
use Rattle.mixing.specs.Mixing.{bucket_of}
use Rattle.mixing.specs.Slots.{buckets_of, direct, slot_by}
use Rattle.layout.specs.declared.Header.{Header}

-- KIBANPH2
abbrev pub index_magic : List ℕ
index_magic = 75 ∷ 73 ∷ 66 ∷ 65 ∷ 78 ∷ 80 ∷ 72 ∷ 50 ∷ []

-- of the header: u64 seed, u32 n, u32 b, u64 arena start
abbrev pub seed_in : List ℕ → ℕ
seed_in body = le 8 body 8

abbrev pub keys_in : List ℕ → ℕ
keys_in body = le 4 body 16

abbrev pub buckets_in : List ℕ → ℕ
buckets_in body = le 4 body 20

abbrev pub arena_in : List ℕ → ℕ
arena_in body = le 8 body 24

-- the header that a body begins with
abbrev pub header_in : List ℕ → Header
header_in body = record { seed = seed_in body; keys = keys_in body; buckets = buckets_in body; arena = arena_in body }

-- where slot i stands, behind the header and b pilots; behind the last slot the arena starts
abbrev pub slot_at : (b i : ℕ) → ℕ
slot_at b i = 32 + 4 * b + 12 * i

-- arena start = 32 + 4b + 12n
unfoldable pub arena_start : ℕ → ℕ
arena_start n = slot_at (buckets_of n) n

-- the header as it is written: `KIBANPH2`, u64 seed, u32 n, u32 b, u64 arena start
unfoldable pub header_bytes : (seed n : ℕ) → List ℕ
header_bytes seed n = index_magic ++ (bytes_of 8 seed ++ (bytes_of 4 n ++ (bytes_of 4 (buckets_of n) ++ bytes_of 8 (arena_start n))))

-- 20 body under 32 bytes or wrong magic
abbrev pub magic_causes : List ℕ → List Cause
magic_causes body = cause (ltb (length body) 32) 20 ∷ cause (not (same_as (take 8 body) index_magic)) 20 ∷ []

unfoldable pub magic_refusal : List ℕ → ℕ
magic_refusal body = first_of (magic_causes body)

-- 21 dimensions: n from 1 to 2^31 − 1, b, arena start
abbrev pub dimension_causes : (n b arena : ℕ) → List Cause
dimension_causes n b arena =
    cause (eqb n 0) 21
    ∷ cause (leb direct n) 21
    ∷ cause (not (eqb b (buckets_of n))) 21
    ∷ cause (not (eqb arena (slot_at b n))) 21
    ∷ []

unfoldable pub dimension_refusal : (n b arena : ℕ) → ℕ
dimension_refusal n b arena = first_of (dimension_causes n b arena)

-- 21 of a body: its dimensions, and the arena start below the body's length
abbrev pub body_causes : List ℕ → List Cause
body_causes body = dimension_causes (keys_in body) (buckets_in body) (arena_in body) ++ (cause (leb (length body) (arena_in body)) 21 ∷ [])

-- 20 and 21, which validation and get check first
unfoldable pub header_refusal : List ℕ → ℕ
header_refusal body = or_else (magic_refusal body) (first_of (body_causes body))

-- pilot i
abbrev pub pilot_at : List ℕ → ℕ → ℕ
pilot_at body i = le 4 body (32 + 4 * i)

-- a direct pilot (2^31 + slot) at or past n
abbrev pub direct_past : (n pilot : ℕ) → Bool
direct_past n pilot = leb (direct + n) pilot

-- the pilot of a hash's bucket
unfoldable pub pilot_of : List ℕ → ℕ → ℕ
pilot_of body h = pilot_at body (bucket_of h (buckets_in body))

-- the number of a hash's slot
abbrev pub slot_of : List ℕ → ℕ → ℕ
slot_of body h = slot_by h (pilot_of body h) (keys_in body)

-- where slot i stands
unfoldable pub slot_place : List ℕ → ℕ → ℕ
slot_place body i = slot_at (buckets_in body) i

-- of the slot at s: u64 record offset, u16 fingerprint, and both it and the zero after it
abbrev pub record_offset : List ℕ → ℕ → ℕ
record_offset body s = le 8 body s

abbrev pub fingerprint_low : List ℕ → ℕ → ℕ
fingerprint_low body s = le 2 body (s + 8)

abbrev pub fingerprint_wide : List ℕ → ℕ → ℕ
fingerprint_wide body s = le 4 body (s + 8)
