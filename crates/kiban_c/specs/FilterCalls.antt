-- The filter at the boundary: build's answer is one word (the bytes written), read's six, and ask_all's a byte for each hash.
use Rattle.numbers.specs.declared.Refusal.{Refusal}
use Rattle.std.specs.Prelude.{Result}
use Rattle.numbers.specs.Numbers.{number_of}
use Rattle.std.specs.Prelude.{ℕ, ◌≡◌, List, [], ◌∷◌, map, length}
use Rattle.laws.specs.Refusals.{Cause}
use Rattle.words.specs.Field.{splice}
use Rattle.sort.specs.Sort.{sorted}
use Rattle.filter.specs.declared.SstFilter.{SstFilter}
use Rattle.filter.specs.declared.SstFilter.TheVariants as read
use Rattle.filter.specs.declared.Built.{Built}
use Rattle.filter.specs.Reading.{read_of, read_refusal, read_values}
use Rattle.filter.specs.Asking.{ask_of, ask_number}
use Rattle.filter.specs.Building.{build_of, built_values, hashes_by, space_by, out_by}
use Rattle.kiban_c.specs.Lent.{answer_short, number_by, left_by}

-- ---- building

-- what build answers, for what is lent
abbrev pub build_called : (hashes wide narrow out : List ℕ) → Result Built Refusal
build_called hashes wide narrow out = build_of hashes (length wide) (length narrow) (length out)

-- what kiban_filter_build checks first: answer under 1 word, 6
abbrev pub filter_build_checks : (answer : List ℕ) → List Cause
filter_build_checks answer = answer_short answer 1 ∷ []

-- what kiban_filter_build commits to: the number, and every lent byte and word
pub record FilterBuildCall (hashes wide narrow out answer : List ℕ) (r : ℕ) (hashes' wide' narrow' out' answer' : List ℕ) : Type 0 where
  pub number : r ≡ number_by (filter_build_checks answer) (number_of (build_called hashes wide narrow out))
  pub hashes_after : hashes' ≡ left_by (filter_build_checks answer) hashes (hashes_by (build_called hashes wide narrow out) hashes)
  pub wide_after : wide' ≡ left_by (filter_build_checks answer) wide (space_by (build_called hashes wide narrow out) wide)
  pub narrow_after : narrow' ≡ left_by (filter_build_checks answer) narrow (space_by (build_called hashes wide narrow out) narrow)
  pub out_after_is : out' ≡ left_by (filter_build_checks answer) out (out_by (build_called hashes wide narrow out) (sorted hashes) out)
  pub answer_after : answer' ≡ left_by (filter_build_checks answer) answer (splice answer 0 (built_values (build_called hashes wide narrow out)))

-- ---- reading

-- what kiban_filter_read checks first: answer under 6 words, 6
abbrev pub filter_read_checks : (answer : List ℕ) → List Cause
filter_read_checks answer = answer_short answer 6 ∷ []

-- what kiban_filter_read commits to: the number, and every word of the answer
pub record FilterReadCall (bytes answer : List ℕ) (r : ℕ) (answer' : List ℕ) : Type 0 where
  pub number : r ≡ number_by (filter_read_checks answer) (read_refusal (read_of bytes))
  pub answer_after : answer' ≡ left_by (filter_read_checks answer) answer (splice answer 0 (read_values (read_of bytes)))

-- ---- asking

-- the number of a hash: what kiban_filter_ask returns
abbrev pub filter_ask_of : (bytes : List ℕ) (hash : ℕ) → ℕ
filter_ask_of bytes hash = ask_number (ask_of bytes hash)

-- the number of each hash, in their order; none where reading refuses
abbrev pub ask_all_values : SstFilter → (bytes hashes : List ℕ) → List ℕ
ask_all_values read.Positive bytes hashes = map (filter_ask_of bytes) hashes
ask_all_values (read.Fuse s) bytes hashes = map (filter_ask_of bytes) hashes
ask_all_values read.Refused bytes hashes = []

-- what kiban_filter_ask_all checks first: fewer answers than hashes, 6
abbrev pub filter_ask_all_checks : (hashes answers : List ℕ) → List Cause
filter_ask_all_checks hashes answers = answer_short answers (length hashes) ∷ []

-- what kiban_filter_ask_all commits to: the number, and every byte of the answers
pub record FilterAskAllCall (bytes hashes answers : List ℕ) (r : ℕ) (answers' : List ℕ) : Type 0 where
  pub number : r ≡ number_by (filter_ask_all_checks hashes answers) (read_refusal (read_of bytes))
  pub answers_after : answers' ≡ left_by (filter_ask_all_checks hashes answers) answers (splice answers 0 (ask_all_values (read_of bytes) bytes hashes))
