-- Construct: keys are placed by bucket and pilot, over the list of their hashes (document 01, "Arithmetic and construction").
use Rattle.std.specs.Prelude.{ℕ, zero, suc, ◌+◌, ◌-◌, Bool, cond, List, [], ◌∷◌, ◌++◌, length, get_or, set, replicate, eqb}
use Rattle.std.proofs.Math.Option.{Option, none, some, map}
use Rattle.mixing.specs.Mixing.{bucket_of, position_of}
use Rattle.laws.specs.Steps.{steps, least, any_below, maximum}
-- the buckets of n keys, the mark of a pilot that names a slot, and the slot that a pilot gives a hash
unfoldable pub use Rattle.mixing.specs.Slots.{buckets_of, slot_by}
pub use Rattle.mixing.specs.Slots.{direct}

-- pilots 0 to 99,999 are tried
unfoldable pub tries : ℕ
tries = 100000

-- eight seeds are tried
unfoldable pub attempts : ℕ
attempts = 8

-- of the keys below i, those whose hash falls into bucket k of b, in key order
unfoldable pub members : List ℕ → ℕ → ℕ → ℕ → List ℕ
members hs b k zero = []
members hs b k (suc i) = members hs b k i ++ cond (eqb (bucket_of (get_or hs i 0) b) k) (i ∷ []) []

-- the members of bucket k
unfoldable pub group : List ℕ → ℕ → List ℕ
group hs k = members hs (buckets_of (length hs)) k (length hs)

-- how many members bucket k has
unfoldable pub size : List ℕ → ℕ → ℕ
size hs k = length (group hs k)

-- whether the i-th of the keys ms has the hash of the j-th
unfoldable pub alike : List ℕ → List ℕ → ℕ → ℕ → Bool
alike hs ms j i = eqb (get_or hs (get_or ms i 0) 0) (get_or hs (get_or ms j 0) 0)

-- whether a key before the j-th has its hash
unfoldable pub met : List ℕ → List ℕ → ℕ → Bool
met hs ms j = any_below (alike hs ms j) j

-- whether two of the keys ms have equal hashes
unfoldable pub twins : List ℕ → List ℕ → Bool
twins hs ms = any_below (met hs ms) (length ms)

-- whether two members of bucket k have equal hashes
unfoldable pub twins_at : List ℕ → ℕ → Bool
twins_at hs k = twins hs (group hs k)

-- whether two members of some bucket have equal hashes
unfoldable pub any_twins : List ℕ → Bool
any_twins hs = any_below (twins_at hs) (buckets_of (length hs))

-- key m put into slot `at`, if that is unoccupied; a slot holds 0 while it is, and m + 1 for key m
unfoldable pub settle : ℕ → ℕ → List ℕ → Option (List ℕ)
settle at m slots = cond (eqb (get_or slots at 0) 0) (some (set slots at (suc m))) none

-- the position that pilot p gives the j-th of the keys ms
unfoldable pub spot : List ℕ → List ℕ → ℕ → ℕ → ℕ
spot hs ms p j = position_of (get_or hs (get_or ms j 0) 0) p (length hs)

-- the first j of the keys ms put one after another on their positions under pilot p: distinct and unoccupied ones, or none
unfoldable pub seat : List ℕ → List ℕ → ℕ → ℕ → List ℕ → Option (List ℕ)
seat hs ms p j slots = steps (λ i. settle (spot hs ms p i) (get_or ms i 0)) j slots

-- the pilots of the buckets and the slots, while an attempt goes on
pub record Placing : Type 0 where
  pub pilots : List ℕ
  pub slots : List ℕ

-- bucket k gets its pilot, and the slots that come with it
unfoldable pub pilot_noted : ℕ → ℕ → Placing → ℕ × List ℕ → Placing
pilot_noted k mark pl found = record { pilots = set pl.pilots k (mark + found.0); slots = found.1 }

-- bucket k takes its least pilot that puts its members on distinct unoccupied positions
unfoldable pub place_group : List ℕ → ℕ → Placing → Option Placing
place_group hs k pl = map (pilot_noted k 0 pl) (least (λ p. seat hs (group hs k) p (size hs k) pl.slots) tries 0)

-- a single-member bucket takes the lowest free slot, written as 2^31 + slot
unfoldable pub place_single : List ℕ → ℕ → Placing → Option Placing
place_single hs k pl = map (pilot_noted k direct pl) (least (λ at. settle at (get_or (group hs k) 0 0) pl.slots) (length hs) 0)

-- bucket k placed, if its size is s
unfoldable pub place_of : List ℕ → ℕ → ℕ → Placing → Option Placing
place_of hs s k pl = cond (eqb (size hs k) s) (cond (eqb s 1) (place_single hs k pl) (place_group hs k pl)) (some pl)

-- the buckets of size s placed, by lower number first
unfoldable pub place_size : List ℕ → ℕ → Placing → Option Placing
place_size hs s pl = steps (place_of hs s) (buckets_of (length hs)) pl

-- the pass that follows t others, from size `top` down
unfoldable pub place_down : List ℕ → ℕ → ℕ → Placing → Option Placing
place_down hs top t = place_size hs (top - t)

-- the greatest size of a bucket
unfoldable pub largest : List ℕ → ℕ
largest hs = maximum (size hs) (buckets_of (length hs))

-- no slot taken, and every pilot 0, as it stays for empty buckets
unfoldable pub blank : List ℕ → Placing
blank hs = record { pilots = replicate (buckets_of (length hs)) 0; slots = replicate (length hs) 0 }

-- an attempt from a placing: larger buckets come first, single-member buckets last
unfoldable pub attempt_from : List ℕ → Placing → Option Placing
attempt_from hs pl = cond (any_twins hs) none (steps (place_down hs (largest hs)) (largest hs) pl)

-- one attempt, over the hashes of its seed
unfoldable pub attempt_of : List ℕ → Option Placing
attempt_of hs = attempt_from hs (blank hs)

-- the first of the attempts that succeeds, with its number from 0; `hashes i` are the keys' hashes under the seed of attempt i
unfoldable pub construct_of : (ℕ → List ℕ) → Option (ℕ × Placing)
construct_of hashes = least (λ i. attempt_of (hashes i)) attempts 0

-- the slot in which a lookup finds hash h
unfoldable pub index_of : ℕ → List ℕ → ℕ → ℕ
index_of h pilots n = slot_by h (get_or pilots (bucket_of h (length pilots)) 0) n
