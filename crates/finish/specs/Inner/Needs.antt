-- Between the steps: what the functions of finish ask of what they are lent, and what they leave.
use Rattle.std.specs.Prelude.{ℕ, ◌+◌, ◌-◌, ◌≤◌, ◌<◌, ◌≡◌, cond, List, Result, eqb, length, get_or, take}
use Rattle.std.proofs.Math.Option.{some}
use Rattle.numbers.specs.declared.Refusal.{Refusal}
use Rattle.numbers.specs.Limits.{most_keys}
use Rattle.numbers.specs.Numbers.{answered}
use Rattle.words.specs.Field.{splice}
use Rattle.mixing.specs.Mixing.{hash_of, fingerprint_of}
use Rattle.records.specs.Places.{entry_place}
use Rattle.construct.specs.Construct.{buckets_of, Placing}
use Rattle.construct.specs.Keys.{arena_key, attempt_hashes}
use Rattle.construct.specs.Inner.Layout.{Entries}
use Rattle.finish.specs.Body.{arena_start, slot_bytes, placed_of, body_of}
use Rattle.finish.specs.Finish.{body_length, placing_refusal}

-- n entries inside the arena, 2n words of 64 bits, and room for the body
pub record Room (arena out wide : List ℕ) (n : ℕ) : Type 0 where
  pub any : 0 < n
  pub most : n ≤ most_keys
  pub entries : Entries arena n
  pub long : length wide ≡ n + n
  pub room : arena_start n + length arena ≤ length out

-- a placing by its pilots and its slots
abbrev pub placed_as : (pilots slots : List ℕ) → Placing
placed_as pilots slots = record { pilots = pilots; slots = slots }

-- attempt i is taken, and left in the workspace
pub record AttemptTaken (arena wide pilots slots : List ℕ) (n i : ℕ) : Type 0 where
  pub pilots_long : length pilots ≡ buckets_of n
  pub slots_long : length slots ≡ n
  pub taken : placed_of arena n ≡ some (i, placed_as pilots slots)
  pub hashes : take n wide ≡ attempt_hashes arena n i

-- the keys' hashes, and the entries' places behind them
pub record PlacesListed (arena : List ℕ) (n : ℕ) (before after : List ℕ) : Type 0 where
  pub hashes : (m : ℕ) → m < n → get_or after m 0 ≡ get_or before m 0
  pub places : (m : ℕ) → m < n → get_or after (n + m) 0 ≡ entry_place arena 0 m

-- the slot of the key that is held as m + 1, by what the workspace holds of it
unfoldable pub listed_slot : List ℕ → (n held : ℕ) → List ℕ
listed_slot wide n held = slot_bytes (get_or wide (n + (held - 1)) 0) (fingerprint_of (get_or wide (held - 1) 0))

-- every slot holds one of n keys
pub record Filled (n : ℕ) (slots : List ℕ) : Type 0 where
  pub filled : (s : ℕ) → s < length slots → 0 < get_or slots s 0
  pub keys : (s : ℕ) → s < length slots → get_or slots s 0 ≤ n

-- hashes, pilots and slots from which the body is written
pub record SlotsKnown (arena wide pilots slots : List ℕ) (n seed : ℕ) : Type 0 where
  pub pilots_long : length pilots ≡ buckets_of n
  pub slots_long : length slots ≡ n
  pub hashes : (m : ℕ) → m < n → get_or wide m 0 ≡ hash_of seed (arena_key arena m)
  pub slots_filled : Filled n slots

-- the placing of the keys and what was written of it
pub record BodyPost (arena out : List ℕ) (n : ℕ) (r : Result ℕ Refusal) (out' : List ℕ) : Type 0 where
  pub answer : r ≡ answered (placing_refusal arena n) (body_length arena n)
  pub written : out' ≡ cond (eqb (placing_refusal arena n) 0) (splice out 0 (body_of arena n)) out
