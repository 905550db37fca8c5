-- The builder at the boundary: the state is three words (used, keys, head), the answer one (place).
use Rattle.numbers.specs.Numbers.{number_of}
use Rattle.std.specs.Prelude.{ℕ, ◌≡◌, Bool, not, List, [], ◌∷◌, eqb, get_or}
use Rattle.laws.specs.Refusals.{Cause}
use Rattle.words.specs.Field.{splice}
use Rattle.records.specs.Places.{kind_of}
use Rattle.builder.specs.declared.PointBuilder.{PointBuilder}
use Rattle.builder.specs.Add.{Added}
use Rattle.builder.specs.Add.{Call, add_of, buffer_after_add, state_values, added_values}
use Rattle.builder.specs.SetOffset.{set_of, buffer_after_set}
use Rattle.kiban_c.specs.Lent.{answer_short, state_short, kind_other, number_by, left_by}

-- the state that words hold
abbrev pub state_of : List ℕ → PointBuilder
state_of words = record { used = get_or words 0 0; keys = get_or words 1 0; head = get_or words 2 0 }

-- a flag that is 0 or not
abbrev pub flag_of : ℕ → Bool
flag_of n = not (eqb n 0)

-- what kiban_add checks first, in this order: answer under 1 word, 6; state under 3 words, 1; another kind, 28
abbrev pub add_checks : (state : List ℕ) (kind : ℕ) (answer : List ℕ) → List Cause
add_checks state kind answer = answer_short answer 1 ∷ state_short state ∷ kind_other kind ∷ []

-- add's call, of the kind that was given (another kind was refused before: `kind_of` would read it as a tombstone)
abbrev pub call_given : (key : List ℕ) (kind size sequence new_key : ℕ) → Call
call_given key kind size sequence new_key =
    record { key = key; kind = kind_of kind; size = size; sequence = sequence; new_key = flag_of new_key }

-- what add answers, with the state that was given
abbrev pub add_called : (buffer state key : List ℕ) (kind size sequence new_key : ℕ) → Added
add_called buffer state key kind size sequence new_key = add_of (state_of state) buffer (call_given key kind size sequence new_key)

-- the buffer that it leaves
abbrev pub add_buffer : (buffer state key : List ℕ) (kind size sequence new_key : ℕ) → List ℕ
add_buffer buffer state key kind size sequence new_key = buffer_after_add (state_of state) buffer (call_given key kind size sequence new_key)

-- what kiban_add commits to: the number, and every lent byte and word
pub record AddCall (buffer state key : List ℕ) (kind size sequence new_key : ℕ) (answer : List ℕ) (r : ℕ) (buffer' state' answer' : List ℕ) : Type 0 where
  pub number : r ≡ number_by (add_checks state kind answer) (number_of (add_called buffer state key kind size sequence new_key))
  pub buffer_after : buffer' ≡ left_by (add_checks state kind answer) buffer (add_buffer buffer state key kind size sequence new_key)
  pub state_after : state' ≡ left_by (add_checks state kind answer) state (splice state 0 (state_values (add_called buffer state key kind size sequence new_key)))
  pub answer_after : answer' ≡ left_by (add_checks state kind answer) answer (splice answer 0 (added_values (add_called buffer state key kind size sequence new_key)))

-- what kiban_set_offset checks first: state under 3 words, 1
abbrev pub set_offset_checks : (state : List ℕ) → List Cause
set_offset_checks state = state_short state ∷ []

-- what kiban_set_offset commits to: the number, and every byte of the buffer
pub record SetOffsetCall (buffer state : List ℕ) (place offset r : ℕ) (buffer' : List ℕ) : Type 0 where
  pub number : r ≡ number_by (set_offset_checks state) (number_of (set_of (state_of state) buffer place))
  pub buffer_after : buffer' ≡ left_by (set_offset_checks state) buffer (buffer_after_set (state_of state) buffer place offset)
