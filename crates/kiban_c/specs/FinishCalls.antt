-- Finish at the boundary: the answer is one word (the body's length).
use Rattle.std.specs.Prelude.{Result}
use Rattle.numbers.specs.Numbers.{number_of}
use Rattle.numbers.specs.declared.Refusal.{Refusal}
use Rattle.std.specs.Prelude.{ℕ, ◌≡◌, List, [], ◌∷◌, length}
use Rattle.laws.specs.Refusals.{Cause}
use Rattle.words.specs.Field.{splice}
use Rattle.finish.specs.Finish.{finish_of, out_after, lengths_refusal, space_after, finished_values}
use Rattle.kiban_c.specs.Lent.{answer_short, number_by, left_by}

-- what finish answers, for what is lent
abbrev pub finish_called : (arena out wide narrow : List ℕ) → Result ℕ Refusal
finish_called arena out wide narrow = finish_of arena (length out) (length wide) (length narrow)

-- what kiban_finish checks first: answer under 1 word, 6
abbrev pub finish_checks : (answer : List ℕ) → List Cause
finish_checks answer = answer_short answer 1 ∷ []

-- what kiban_finish commits to: the number, and every lent byte and word
pub record FinishCall (arena out wide narrow answer : List ℕ) (r : ℕ) (out' wide' narrow' answer' : List ℕ) : Type 0 where
  pub number : r ≡ number_by (finish_checks answer) (number_of (finish_called arena out wide narrow))
  pub out_after_is : out' ≡ left_by (finish_checks answer) out (out_after arena out (length wide) (length narrow))
  pub wide_after : wide' ≡ left_by (finish_checks answer) wide (space_after (lengths_refusal arena (length out) (length wide) (length narrow)) wide)
  pub narrow_after : narrow' ≡ left_by (finish_checks answer) narrow (space_after (lengths_refusal arena (length out) (length wide) (length narrow)) narrow)
  pub answer_after : answer' ≡ left_by (finish_checks answer) answer (splice answer 0 (finished_values (finish_called arena out wide narrow)))
