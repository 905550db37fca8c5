-- An idle add is shut out: the first key into an empty builder fixes the next state, the place and every byte of the buffer.
use Rattle.std.specs.Prelude.{Ok, ℕ, ◌≡◌, true, List, [], ◌∷◌, replicate}
use Rattle.records.specs.declared.Kind.TheVariants.{Put}
use Rattle.builder.specs.declared.PointBuilder.{PointBuilder}
use Rattle.builder.specs.Add.{Added}
use Rattle.builder.specs.State.{empty_builder}
use Rattle.builder.specs.Add.{AddPost}

-- 30 bytes lent, all zero
abbrev pub zeros : List ℕ
zeros = replicate 30 0

-- key A put with sequence 9 and a value of 8 bytes, as a new key into the empty builder
abbrev pub FirstAdd : Added → List ℕ → Type 0
FirstAdd r after = AddPost empty_builder zeros (record { key = 65 ∷ []; kind = Put; size = 8; sequence = 9; new_key = true }) r after

-- the state after it
abbrev pub first_state : PointBuilder
first_state = record { used = 30; keys = 1; head = 0 }

-- and the buffer: the key's entry
abbrev pub first_buffer : List ℕ
first_buffer =
    1 ∷ 0 ∷ 0 ∷ 0 ∷ 1 ∷ 0 ∷ 0 ∷ 0 ∷ 65
    ∷ 9 ∷ 0 ∷ 0 ∷ 0 ∷ 0 ∷ 0 ∷ 0 ∷ 0 ∷ 1 ∷ 8 ∷ 0 ∷ 0 ∷ 0 ∷ 0 ∷ 0 ∷ 0 ∷ 0 ∷ 0 ∷ 0 ∷ 0 ∷ 0 ∷ []

pub record IdleAdd : Type 0 where
  -- the answer is that state and the place 22
  pub first_answer : {r : Added} {after : List ℕ} → FirstAdd r after → r ≡ Ok (first_state, 22)
  -- the buffer is the key's entry, byte for byte
  pub first_buffer_is : {r : Added} {after : List ℕ} → FirstAdd r after → after ≡ first_buffer
  -- an add that returns its state unchanged is shut out
  pub never_unchanged : {place : ℕ} {after : List ℕ} → FirstAdd (Ok (empty_builder, place)) after → ⊥
  -- so is one with an invented key count
  pub never_invented : {s : PointBuilder} {place : ℕ} {after : List ℕ} → (s.keys ≡ 1 → ⊥) → FirstAdd (Ok (s, place)) after → ⊥
