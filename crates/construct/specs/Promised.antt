-- What is promised of an attempt, in the words of document 01, "Arithmetic and construction".
use Rattle.std.specs.Prelude.{ℕ, suc, ◌+◌, ◌-◌, ◌≤◌, ◌<◌, ◌≡◌, List, ◌⊎◌, length, get_or}
use Rattle.std.proofs.Math.Option.{some}
use Rattle.mixing.specs.Mixing.{bucket_of}
use Rattle.laws.specs.Steps.{steps}
use Rattle.construct.specs.Construct.{buckets_of, direct, group, size, spot, Placing, place_of, place_down, largest, blank, index_of}

-- pilot p puts the keys ms on distinct unoccupied positions
pub record PilotFits (hs ms : List ℕ) (p : ℕ) (slots : List ℕ) : Type 0 where
  pub unoccupied : (j : ℕ) → j < length ms → get_or slots (spot hs ms p j) 0 ≡ 0
  pub distinct : (i j : ℕ) → i < j → j < length ms → spot hs ms p i ≡ spot hs ms p j → ⊥

-- what bucket k finds when its turn comes: the larger buckets are placed, and of its size those of lower number
pub record Turn (hs : List ℕ) (k : ℕ) (pl : Placing) : Type 0 where
  pub begun : Placing
  pub larger : steps (place_down hs (largest hs)) (largest hs - size hs k) (blank hs) ≡ some begun
  pub lower : steps (place_of hs (size hs k)) k begun ≡ some pl

-- two members of a bucket have equal hashes
pub record EqualHashes (hs : List ℕ) : Type 0 where
  pub one : ℕ
  pub other : ℕ
  pub keys : (one < length hs) × (other < length hs)
  pub apart : one ≡ other → ⊥
  pub bucket : bucket_of (get_or hs one 0) (buckets_of (length hs)) ≡ bucket_of (get_or hs other 0) (buckets_of (length hs))
  pub equal : get_or hs one 0 ≡ get_or hs other 0

-- a bucket of two or more finds no pilot in 0 to 99,999 that puts its members on distinct unoccupied positions
pub record NoPilot (hs : List ℕ) : Type 0 where
  pub bucket : ℕ
  pub low : bucket < buckets_of (length hs)
  pub two : 1 < size hs bucket
  pub placing : Placing
  pub turn : Turn hs bucket placing
  pub none_fits : (p : ℕ) → p ≤ 99999 → PilotFits hs (group hs bucket) p placing.slots → ⊥

-- an attempt fails if two members of a bucket have equal hashes, or if a bucket of two or more finds no pilot
abbrev pub AttemptFails : List ℕ → Type 0
AttemptFails hs = EqualHashes hs ⊎ NoPilot hs

-- every key is found at its index, and every slot holds exactly one key
pub record AllPlaced (hs : List ℕ) (pl : Placing) : Type 0 where
  pub pilots_long : length pl.pilots ≡ buckets_of (length hs)
  pub slots_long : length pl.slots ≡ length hs
  pub found : (i : ℕ) → i < length hs → get_or pl.slots (index_of (get_or hs i 0) pl.pilots (length hs)) 0 ≡ suc i
  pub holds : (a : ℕ) → a < length hs → (i : ℕ) × (i < length hs) × (get_or pl.slots a 0 ≡ suc i) × (index_of (get_or hs i 0) pl.pilots (length hs) ≡ a)

-- v is the least pilot of bucket k, of two members or more, and one of 0 to 99,999
pub record LeastPilot (hs : List ℕ) (k v : ℕ) : Type 0 where
  pub placing : Placing
  pub turn : Turn hs k placing
  pub tried : v ≤ 99999
  pub fits : PilotFits hs (group hs k) v placing.slots
  pub least : (q : ℕ) → q < v → PilotFits hs (group hs k) q placing.slots → ⊥

-- v names the lowest free slot, for bucket k of one member
pub record LowestSlot (hs : List ℕ) (k v : ℕ) : Type 0 where
  pub placing : Placing
  pub turn : Turn hs k placing
  pub slot : ℕ
  pub low : slot < length hs
  pub named : v ≡ direct + slot
  pub free : get_or placing.slots slot 0 ≡ 0
  pub lowest : (a : ℕ) → a < slot → get_or placing.slots a 0 ≡ 0 → ⊥

-- the pilots of an attempt, by the size of their buckets
pub record Pilots (hs pilots : List ℕ) : Type 0 where
  pub several : (k : ℕ) → k < buckets_of (length hs) → 1 < size hs k → LeastPilot hs k (get_or pilots k 0)
  pub single : (k : ℕ) → k < buckets_of (length hs) → size hs k ≡ 1 → LowestSlot hs k (get_or pilots k 0)
  pub empty : (k : ℕ) → k < buckets_of (length hs) → size hs k ≡ 0 → get_or pilots k 0 ≡ 0
