-- Add: its refusal, the next state and the next buffer (document 01, "Calls and the numbers they refuse with").
use Rattle.std.specs.Prelude.{ℕ, ◌+◌, ◌-◌, ◌≤◌, ◌<◌, ◌≡◌, Bool, true, false, cond, not, List, [], ◌∷◌, ltb, leb, eqb, length, Result, Ok, Err}
use Rattle.laws.specs.Refusals.{Cause, cause, first_of}
use Rattle.numbers.specs.Limits.{most_key_bytes, most_value_bytes, most_keys, most_versions}
use Rattle.numbers.specs.Numbers.{answered}
use Rattle.numbers.specs.declared.Refusal.{Refusal}
use Rattle.words.specs.Field.{bytes_of, splice}
use Rattle.words.specs.Part.{order_of, same_as}
use Rattle.records.specs.declared.Kind.{Kind}
use Rattle.records.specs.declared.Record.{Record}
use Rattle.records.specs.Model.{Entry, kind_byte, version_bytes, entry_bytes}
use Rattle.records.specs.Places.{version_count}
use Rattle.std.specs.Ordering.{is_lt}
use Rattle.records.specs.Rules.{full_tombstone}
use Rattle.builder.specs.declared.PointBuilder.{PointBuilder}
use Rattle.builder.specs.State.{fits, Last, last_of, room_of}

-- what add is called with, beside the state and the buffer
pub record Call : Type 0 where
  -- the key
  pub key : List ℕ
  -- put or tombstone
  pub kind : Kind
  -- the value's length
  pub size : ℕ
  -- the record's sequence
  pub sequence : ℕ
  -- a new key, or the last one continued
  pub new_key : Bool

-- the key is greater than the last, if there is one
unfoldable pub rises_after : PointBuilder → Last → List ℕ → Bool
rises_after s last key = cond (eqb s.keys 0) true (is_lt (order_of last.key key))

-- a new key: 4 not greater than the last, 5 a 65,537th key, 6 buffer too short
unfoldable pub new_causes : PointBuilder → Last → (room : ℕ) → List ℕ → List Cause
new_causes s last room key =
    cause (not (rises_after s last key)) 4
    ∷ cause (leb most_keys s.keys) 5
    ∷ cause (ltb room (29 + length key)) 6
    ∷ []

-- a continued key: 4 absent, or unequal to the last, or sequence not below the last one, 5 a version beyond 4,294,967,295, 6 buffer too short
unfoldable pub continued_causes : PointBuilder → Last → (room : ℕ) → List ℕ → (sequence : ℕ) → List Cause
continued_causes s last room key sequence =
    cause (eqb s.keys 0) 4
    ∷ cause (not (same_as last.key key)) 4
    ∷ cause (leb last.sequence sequence) 4
    ∷ cause (leb most_versions last.versions) 5
    ∷ cause (ltb room 21) 6
    ∷ []

-- of the key, new or continued
abbrev pub appending_causes : PointBuilder → Last → (room : ℕ) → Call → List Cause
appending_causes s last room call =
    cond call.new_key (new_causes s last room call.key) (continued_causes s last room call.key call.sequence)

-- of a state that fits, with the last record and the room left: 2 key over 1,048,576 or value over 16,777,216 bytes, 3 tombstone with nonzero
-- length, and then those of the key
unfoldable pub taking_causes : PointBuilder → Last → (room : ℕ) → Call → List Cause
taking_causes s last room call =
    cause (ltb most_key_bytes (length call.key)) 2
    ∷ cause (ltb most_value_bytes call.size) 2
    ∷ cause (full_tombstone (kind_byte call.kind) call.size) 3
    ∷ appending_causes s last room call

-- the causes of add in their order: 1 builder state and buffer do not fit, and then those of a state that fits
unfoldable pub add_causes : PointBuilder → List ℕ → Call → List Cause
add_causes s buffer call = cause (not (fits s buffer)) 1 ∷ taking_causes s (last_of s buffer) (room_of s buffer) call

-- the refusal of add, 0 for none
unfoldable pub add_refusal : PointBuilder → List ℕ → Call → ℕ
add_refusal s buffer call = first_of (add_causes s buffer call)

-- a call that passes 1, 2 and 3
pub record Sized (s : PointBuilder) (buffer : List ℕ) (call : Call) : Type 0 where
  pub fitting : fits s buffer ≡ true
  pub short : length call.key ≤ most_key_bytes
  pub small : call.size ≤ most_value_bytes
  pub valued : full_tombstone (kind_byte call.kind) call.size ≡ false

-- a new key that passes 4, 5 and 6
pub record NewPasses (s : PointBuilder) (buffer : List ℕ) (call : Call) : Type 0 where
  pub newly : call.new_key ≡ true
  pub rising : rises_after s (last_of s buffer) call.key ≡ true
  pub few : s.keys < most_keys
  pub room : 29 + length call.key ≤ room_of s buffer

-- a continued key that passes them
pub record ContinuedPasses (s : PointBuilder) (buffer : List ℕ) (call : Call) : Type 0 where
  pub further : call.new_key ≡ false
  pub keyed : s.keys ≡ 0 → ⊥
  pub same : same_as (last_of s buffer).key call.key ≡ true
  pub older : call.sequence < (last_of s buffer).sequence
  pub countable : (last_of s buffer).versions < most_versions
  pub room : 21 ≤ room_of s buffer

-- the state with a new key: 8 bytes, the key and a version of 21 more, and the last entry starts where the used bytes ended
abbrev pub new_state : PointBuilder → List ℕ → PointBuilder
new_state s key = record { used = s.used + (29 + length key); keys = s.keys + 1; head = s.used }

-- the state with a version more of the last key
abbrev pub continued_state : PointBuilder → PointBuilder
continued_state s = record { used = s.used + 21; keys = s.keys; head = s.head }

-- the next state
abbrev pub next_state : PointBuilder → Call → PointBuilder
next_state s call = cond call.new_key (new_state s call.key) (continued_state s)

-- the patch place used − 8, of the next state
abbrev pub next_place : PointBuilder → Call → ℕ
next_place s call = (next_state s call).used - 8

-- the record that a call adds; its offset is 0 until set offset writes it
abbrev pub record_of : Call → Record
record_of call = record { kind = call.kind; sequence = call.sequence; offset = 0; length = call.size }

-- a new key with its first record
abbrev pub new_entry : List ℕ → Record → Entry
new_entry key version = record { key = key; versions = version ∷ [] }

-- the buffer with a new entry behind the used bytes
unfoldable pub new_buffer : PointBuilder → List ℕ → List ℕ → Record → List ℕ
new_buffer s buffer key version = splice buffer s.used (entry_bytes (new_entry key version))

-- the buffer with the last key's count raised and a version behind the used bytes
unfoldable pub continued_buffer : PointBuilder → List ℕ → Record → List ℕ
continued_buffer s buffer version =
    splice (splice buffer (s.head + 4) (bytes_of 4 (version_count buffer s.head + 1))) s.used (version_bytes version)

-- the next buffer
abbrev pub appended : PointBuilder → List ℕ → Call → List ℕ
appended s buffer call =
    cond call.new_key (new_buffer s buffer call.key (record_of call)) (continued_buffer s buffer (record_of call))

-- an answer of add: the next state and the place of the record's offset, or the refusal
abbrev pub Added : Type 0
Added = Result (PointBuilder × ℕ) Refusal

-- what add answers
unfoldable pub add_of : PointBuilder → List ℕ → Call → Added
add_of s buffer call = answered (add_refusal s buffer call) (next_state s call, next_place s call)

-- the buffer that add leaves: as it was, where it refuses
unfoldable pub buffer_after_add : PointBuilder → List ℕ → Call → List ℕ
buffer_after_add s buffer call = cond (eqb (add_refusal s buffer call) 0) (appended s buffer call) buffer

-- its values: the words of the next state (used, keys, head), and the patch place; none for a refusal
abbrev pub state_values : Added → List ℕ
state_values (Ok taken) = taken.0.used ∷ taken.0.keys ∷ taken.0.head ∷ []
state_values (Err refusal) = []

abbrev pub added_values : Added → List ℕ
added_values (Ok taken) = taken.1 ∷ []
added_values (Err refusal) = []

-- what add commits to: its answer, and every byte of the buffer
pub record AddPost (s : PointBuilder) (before : List ℕ) (call : Call) (r : Added) (after : List ℕ) : Type 0 where
  pub answer : r ≡ add_of s before call
  pub buffer : after ≡ buffer_after_add s before call
