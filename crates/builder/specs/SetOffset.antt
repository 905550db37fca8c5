-- Set offset: its refusal and the next buffer (document 01, "Calls and the numbers they refuse with").
use Rattle.std.specs.Prelude.{ℕ, ◌-◌, ◌≡◌, cond, not, List, [], ◌∷◌, eqb, Result}
use Rattle.laws.specs.Refusals.{Cause, cause, first_of}
use Rattle.numbers.specs.Numbers.{answered}
use Rattle.numbers.specs.declared.Refusal.{Refusal}
use Rattle.words.specs.Field.{bytes_of, splice}
use Rattle.builder.specs.declared.PointBuilder.{PointBuilder}
use Rattle.builder.specs.State.{fits}

-- the causes of set offset: 1 builder state and buffer do not fit, 7 nothing added, or place is not used − 8
unfoldable pub set_causes : PointBuilder → List ℕ → (place : ℕ) → List Cause
set_causes s buffer place =
    cause (not (fits s buffer)) 1
    ∷ cause (eqb s.keys 0) 7
    ∷ cause (not (eqb place (s.used - 8))) 7
    ∷ []

-- the refusal of set offset, 0 for none
abbrev pub set_refusal : PointBuilder → List ℕ → (place : ℕ) → ℕ
set_refusal s buffer place = first_of (set_causes s buffer place)

-- what set offset answers
unfoldable pub set_of : PointBuilder → List ℕ → (place : ℕ) → Result (Unit {0}) Refusal
set_of s buffer place = answered (set_refusal s buffer place) (record {})

-- the buffer that it leaves: as it was, where it refuses
unfoldable pub buffer_after_set : PointBuilder → List ℕ → (place offset : ℕ) → List ℕ
buffer_after_set s buffer place offset = cond (eqb (set_refusal s buffer place) 0) (splice buffer place (bytes_of 8 offset)) buffer

-- what set offset commits to: its answer, and every byte of the buffer
pub record SetPost (s : PointBuilder) (before : List ℕ) (place offset : ℕ) (r : Result (Unit {0}) Refusal) (after : List ℕ) : Type 0 where
  pub answer : r ≡ set_of s before place
  pub buffer : after ≡ buffer_after_set s before place offset
