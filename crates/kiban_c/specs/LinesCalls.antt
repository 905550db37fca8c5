-- The listing at the boundary: the answer is one word (the text's length).
use Rattle.std.specs.Prelude.{Result}
use Rattle.numbers.specs.Numbers.{number_of}
use Rattle.numbers.specs.declared.Refusal.{Refusal}
use Rattle.std.specs.Prelude.{ℕ, ◌≡◌, List, [], ◌∷◌}
use Rattle.laws.specs.Refusals.{Cause}
use Rattle.words.specs.Field.{splice}
use Rattle.lines.specs.Shown.{newest_tombstone}
use Rattle.lines.specs.Listing.{text_of, listed_of, buffer_of, listed_values}
use Rattle.kiban_c.specs.Lent.{answer_short, number_by, left_by}

-- the text of an input, under the rule of document 01
abbrev pub listing_text : List ℕ → List ℕ
listing_text input = text_of newest_tombstone input

-- what listing answers, for what is lent
abbrev pub listing_called : (input out : List ℕ) → Result ℕ Refusal
listing_called input out = listed_of (listing_text input) out

-- what kiban_listing checks first: answer under 1 word, 6
abbrev pub listing_checks : (answer : List ℕ) → List Cause
listing_checks answer = answer_short answer 1 ∷ []

-- what kiban_listing commits to: the number (0 also where the text is `refused R`), and every lent byte and word
pub record ListingCall (input out answer : List ℕ) (r : ℕ) (out' answer' : List ℕ) : Type 0 where
  pub number : r ≡ number_by (listing_checks answer) (number_of (listing_called input out))
  pub out_after_is : out' ≡ left_by (listing_checks answer) out (buffer_of (listing_text input) out)
  pub answer_after : answer' ≡ left_by (listing_checks answer) answer (splice answer 0 (listed_values (listing_called input out)))
