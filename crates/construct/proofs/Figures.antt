-- Small cases, computed from the definitions; what buckets the hashes have is given. Document 01's three keys, with nothing given: promises'
-- `Example`. Assumes nothing.
use Prim.Native.Nat.{ℕ}
use mathlib.Core.Path.{◌≡◌}
use mathlib.Core.List.{[], ◌∷◌}
use mathlib.Core.Option.{some, bind}
use native.Mathlib.Omega.{arith}
use Rattle.mixing.specs.Mixing.{bucket_of, bucket_of_lt}
use Rattle.laws.specs.Steps.{steps, least, any_below, maximum}
use Rattle.construct.specs.Construct.{buckets_of, tries, direct, members, group, size, alike, met, twins, twins_at, any_twins, settle, spot, seat, pilot_noted, place_group, place_single, place_of, place_size, place_down, largest, blank, attempt_from, attempt_of}

-- of one bucket, every hash is in it
pub one_bucket : (h : ℕ) → bucket_of h 1 ≡ 0
one_bucket h = omega (arith, bucket_of_lt h 1 (omega arith))

-- one key takes slot 0, named directly
pub one_key_is : (h : ℕ) → attempt_of (h ∷ []) ≡ some (record { pilots = direct ∷ []; slots = 1 ∷ [] })
unfolding attempt_of attempt_from any_twins twins_at twins met alike any_below steps bind least maximum buckets_of tries members group size settle spot seat pilot_noted place_group place_single place_of place_size place_down largest blank
one_key_is h = simp one_bucket

-- four keys in two buckets, one of which has three members
pub four_keys : bucket_of 1 2 ≡ 1 → bucket_of 2 2 ≡ 0 → bucket_of 3 2 ≡ 1 → bucket_of 9 2 ≡ 1 → (group (1 ∷ 2 ∷ 3 ∷ 9 ∷ []) 0 ≡ 1 ∷ []) × (group (1 ∷ 2 ∷ 3 ∷ 9 ∷ []) 1 ≡ 0 ∷ 2 ∷ 3 ∷ [])
unfolding group members buckets_of
four_keys a b c d = (simp (a, b, c, d), simp (a, b, c, d))

-- five keys in two buckets: the passes begin at the larger one, of three members
pub five_keys : bucket_of 1 2 ≡ 1 → bucket_of 2 2 ≡ 0 → bucket_of 3 2 ≡ 1 → bucket_of 5 2 ≡ 1 → bucket_of 6 2 ≡ 0 → (size (1 ∷ 2 ∷ 3 ∷ 5 ∷ 6 ∷ []) 0 ≡ 2) × (size (1 ∷ 2 ∷ 3 ∷ 5 ∷ 6 ∷ []) 1 ≡ 3) × (largest (1 ∷ 2 ∷ 3 ∷ 5 ∷ 6 ∷ []) ≡ 3)
unfolding size group members buckets_of largest maximum
five_keys a b c d e = (simp (a, b, c, d, e), simp (a, b, c, d, e), simp (a, b, c, d, e))
