-- Reading an index at the boundary: kiban_validate is the number of `validate_of`; get's answer is four words (kind, sequence, offset, length).
use Rattle.numbers.specs.Numbers.{number_of}
use Rattle.std.specs.Prelude.{ℕ, ◌≡◌, cond, List, [], ◌∷◌, eqb, length, None, Some}
use Rattle.laws.specs.Refusals.{Cause}
use Rattle.words.specs.Field.{splice}
use Rattle.records.specs.Limits.{Limit}
use Rattle.point.specs.declared.Answer.{Answer}
use Rattle.point.specs.Validate.{validate_of}
use Rattle.point.specs.Get.{get_of, answer_number, answer_values}
use Rattle.kiban_c.specs.Lent.{answer_short, number_by, left_by}

-- what kiban_validate returns
abbrev pub validate_call_of : (body : List ℕ) (size : ℕ) → ℕ
validate_call_of body size = number_of (validate_of body size)

-- the limit that a host gives: none where `limited` is 0
abbrev pub limit_given : (limited limit : ℕ) → Limit
limit_given limited limit = cond (eqb limited 0) None (Some limit)

-- what get answers
abbrev pub get_called : (body bytes key : List ℕ) (limited limit : ℕ) → Answer
get_called body bytes key limited limit = get_of body (length bytes) key (limit_given limited limit)

-- what kiban_get checks first: answer under 4 words, 6
abbrev pub get_checks : (answer : List ℕ) → List Cause
get_checks answer = answer_short answer 4 ∷ []

-- what kiban_get commits to: the number (0 found, 1 nothing, 14), and every word of the answer
pub record GetCall (body bytes key : List ℕ) (limited limit : ℕ) (answer : List ℕ) (r : ℕ) (answer' : List ℕ) : Type 0 where
  pub number : r ≡ number_by (get_checks answer) (answer_number (get_called body bytes key limited limit))
  pub answer_after : answer' ≡ left_by (get_checks answer) answer (splice answer 0 (answer_values (get_called body bytes key limited limit)))
