-- The text of a listing: a function from input bytes to output bytes (document 01, "The listing").
use Rattle.std.specs.Prelude.{ℕ, zero, suc, ◌+◌, ◌≤◌, ◌≡◌, cond, List, [], ◌∷◌, ◌++◌, ltb, leb, eqb, length, drop, Result, Ok, Err}
use Rattle.laws.specs.Refusals.{cause, first_of, or_else}
use Rattle.words.specs.Field.{le, splice}
use Rattle.text.specs.Text.{key_text, field, named}
use Rattle.numbers.specs.declared.Refusal.{Refusal}
use Rattle.numbers.specs.declared.Refusal.TheVariants.{Buffer}
use Rattle.numbers.specs.Numbers.{number_of}
use Rattle.records.specs.declared.Kind.{Kind}
use Rattle.records.specs.declared.Kind.TheVariants.{Put, Tombstone}
use Rattle.records.specs.declared.Record.{Record}
use Rattle.records.specs.Model.{Entry}
use Rattle.point.specs.Validate.{validate_of}
use Rattle.point.specs.Table.{table_of}
use Rattle.lines.specs.Shown.{Rule, Shows, shown_of}

-- ---- the words: limit, keys, shown, refused; put, tomb

abbrev pub limit_word : List ℕ
limit_word = 108 ∷ 105 ∷ 109 ∷ 105 ∷ 116 ∷ []

abbrev pub keys_word : List ℕ
keys_word = 32 ∷ 107 ∷ 101 ∷ 121 ∷ 115 ∷ []

abbrev pub shown_word : List ℕ
shown_word = 32 ∷ 115 ∷ 104 ∷ 111 ∷ 119 ∷ 110 ∷ []

abbrev pub refused_word : List ℕ
refused_word = 114 ∷ 101 ∷ 102 ∷ 117 ∷ 115 ∷ 101 ∷ 100 ∷ []

abbrev pub kind_word : Kind → List ℕ
kind_word Put = 32 ∷ 112 ∷ 117 ∷ 116 ∷ []
kind_word Tombstone = 32 ∷ 116 ∷ 111 ∷ 109 ∷ 98 ∷ []

-- ---- the lines, each ended by a newline

abbrev pub newline : List ℕ
newline = 10 ∷ []

-- how many lines a text has: its newlines
unfoldable pub line_count : List ℕ → ℕ
line_count [] = 0
line_count (b ∷ bs) = cond (eqb b 10) 1 0 + line_count bs

-- a record's part of its line: sequence, `put` or `tomb`, offset, length
unfoldable pub record_text : Record → List ℕ
record_text r = field r.sequence ++ (kind_word r.kind ++ (field r.offset ++ (field r.length ++ newline)))

-- the line of a key with the record that it shows
unfoldable pub line_of : List ℕ → Record → List ℕ
line_of key r = key_text key ++ record_text r

-- one line for each key shown, in their order
unfoldable pub text_of_shown : List Shows → List ℕ
text_of_shown [] = []
text_of_shown (s ∷ ss) = line_of s.key s.version ++ text_of_shown ss

-- the lines of a table
abbrev pub lines_of : Rule → ℕ → List Entry → List ℕ
lines_of rule limit table = text_of_shown (shown_of rule limit table)

-- header: limit, keys in the body, lines that follow
unfoldable pub listing_header : (limit keys count : ℕ) → List ℕ
listing_header limit keys count = named limit_word limit ++ (named keys_word keys ++ (named shown_word count ++ newline))

-- the listing of a table
unfoldable pub table_text : Rule → ℕ → List Entry → List ℕ
table_text rule limit table = listing_header limit (length table) (length (shown_of rule limit table)) ++ lines_of rule limit table

-- `refused R`
unfoldable pub refused_text : ℕ → List ℕ
refused_text r = named refused_word r ++ newline

-- ---- the input: u64 limit, u64 data length, body

abbrev pub limit_in : List ℕ → ℕ
limit_in input = le 8 input 0

abbrev pub data_length_in : List ℕ → ℕ
data_length_in input = le 8 input 8

abbrev pub body_in : List ℕ → List ℕ
body_in input = drop 16 input

-- 16 input under 16 or over 65,536 bytes
unfoldable pub size_refusal : List ℕ → ℕ
size_refusal input = first_of (cause (ltb (length input) 16) 16 ∷ cause (ltb 65536 (length input)) 16 ∷ [])

-- 16, then validation's numbers; 0 where the input is listed
unfoldable pub listing_refusal : List ℕ → ℕ
listing_refusal input = or_else (size_refusal input) (number_of (validate_of (body_in input) (data_length_in input)))

-- the text that a refusal, or none, gives
abbrev pub text_by : Rule → List ℕ → ℕ → List ℕ
text_by rule input zero = table_text rule (limit_in input) (table_of (body_in input))
text_by rule input (suc r) = refused_text (suc r)

-- the text of an input
unfoldable pub text_of : Rule → List ℕ → List ℕ
text_of rule input = text_by rule input (listing_refusal input)

-- ---- the call's answer and its buffer

-- the text's length, or 6 where the buffer is too short for it
unfoldable pub listed_of : (text before : List ℕ) → Result ℕ Refusal
listed_of text before = cond (leb (length text) (length before)) (Ok (length text)) (Err Buffer)

-- the text at the buffer's start, what is behind it untouched; or the buffer untouched
unfoldable pub buffer_of : (text before : List ℕ) → List ℕ
buffer_of text before = cond (leb (length text) (length before)) (splice before 0 text) before

-- the value of an answer, the text's length, where it is listed (also where the text is `refused R`)
abbrev pub listed_values : Result ℕ Refusal → List ℕ
listed_values (Ok n) = n ∷ []
listed_values (Err r) = []

-- what `listing` promises for every input: its answer, every byte of its buffer, and that 131,072 bytes always suffice
pub record Listing (rule : Rule) (input before : List ℕ) (r : Result ℕ Refusal) (after : List ℕ) : Type 0 where
  pub answer : r ≡ listed_of (text_of rule input) before
  pub buffer : after ≡ buffer_of (text_of rule input) before
  pub room : length (text_of rule input) ≤ 131072
