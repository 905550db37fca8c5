-- What the desk reads: the text that a listing puts in front of its buffer is `refused R` exactly for R's first cause, and else the table's; of
-- an accepted body, which keys have a line and with which record, one line for each, in rising order, as many as the header says; and
-- 131,072 bytes of room always suffice.
use Rattle.std.specs.Prelude.{Ok, Result, ℕ, ◌≤◌, ◌≡◌, false, ◌⊎◌, length, take, None, Some}
use Rattle.numbers.specs.declared.Refusal.{Refusal}
use mathlib.Core.List.{List, ◌++◌, Memᴰ}
use Rattle.std.proofs.Math.Option.{some}
use Rattle.words.specs.Field.{AllBytes}
use Rattle.layout.specs.Layout.{keys_in}
use Rattle.records.specs.declared.Record.{Record}
use Rattle.records.specs.Model.{Entry, lookup}
use Rattle.point.specs.declared.Answer.TheVariants.{Found}
use Rattle.point.specs.Validate.{validate_of}
use Rattle.point.specs.Get.{get_of}
use Rattle.point.specs.Table.{table_of}
use Rattle.lines.specs.Shown.{Rule, tombstone_in, newest_tombstone, shown, Shows, shown_of, ShownRise}
use Rattle.lines.specs.Listing.{line_count, lines_of, text_of_shown, listing_header, table_text, refused_text, limit_in, data_length_in, body_in, text_of, Listing}
use Rattle.lines.specs.Causes.{ListingStops, Listable}

-- the table that an input's body holds
abbrev pub table_in : List ℕ → List Entry
table_in input = table_of (body_in input)

-- the keys that the listing of an input shows, each with its record; and the lines behind its header
abbrev pub shown_in : List ℕ → List Shows
shown_in input = shown_of newest_tombstone (limit_in input) (table_in input)

abbrev pub lines_in : List ℕ → List ℕ
lines_in input = lines_of newest_tombstone (limit_in input) (table_in input)

-- a call with room for the text
pub record TextStands (rule : Rule) (input : List ℕ) (r : Result ℕ Refusal) (after : List ℕ) : Type 0 where
  -- the answer is the text's length, and the text stands in front of the buffer
  pub text_stands : (r ≡ Ok (length (text_of rule input))) × (take (length (text_of rule input)) after ≡ text_of rule input)
  -- what stands there is `refused n` exactly for n's cause
  pub stands_refused : (n : ℕ) → take (length (text_of rule input)) after ≡ refused_text n → ListingStops input n
  pub refused_stands : (n : ℕ) → ListingStops input n → take (length (text_of rule input)) after ≡ refused_text n

-- the text of an input
pub record ListedText (rule : Rule) (input : List ℕ) : Type 0 where
  -- the table is listed exactly where the input can be listed
  pub listable_listed : Listable input → text_of rule input ≡ table_text rule (limit_in input) (table_in input)
  pub listed_listable : text_of rule input ≡ table_text rule (limit_in input) (table_in input) → Listable input

-- the lines of an input whose body is accepted
pub record ListedLines (input : List ℕ) : Type 0 where
  -- an entry shows a record exactly where its key's newest record is no tombstone, and shows the key's newest within the limit
  pub shown_only : (e : Entry) → Memᴰ e (table_in input) → (r : Record) → shown newest_tombstone (limit_in input) e ≡ some r
      → (tombstone_in (lookup (table_in input) e.key None) ≡ false) × (lookup (table_in input) e.key (Some (limit_in input)) ≡ some r)
  pub shown_all : (e : Entry) → Memᴰ e (table_in input) → (r : Record)
      → tombstone_in (lookup (table_in input) e.key None) ≡ false → lookup (table_in input) e.key (Some (limit_in input)) ≡ some r
      → shown newest_tombstone (limit_in input) e ≡ some r
  -- a key has a line exactly where its newest record is no tombstone, and the line shows its newest within the limit
  pub line_only : (s : Shows) → Memᴰ s (shown_in input)
      → (tombstone_in (lookup (table_in input) s.key None) ≡ false) × (lookup (table_in input) s.key (Some (limit_in input)) ≡ some s.version)
  pub line_all : (key : List ℕ) (r : Record) → tombstone_in (lookup (table_in input) key None) ≡ false
      → lookup (table_in input) key (Some (limit_in input)) ≡ some r → Memᴰ (record { key = key; version = r }) (shown_in input)
  -- what a line shows is what get finds
  pub line_found : AllBytes input → (s : Shows) → Memᴰ s (shown_in input)
      → get_of (body_in input) (data_length_in input) s.key (Some (limit_in input)) ≡ Found s.version
  -- the keys of the lines rise strictly, so each key has one line
  pub keys_rise : ShownRise (shown_in input)

-- what the desk reads
pub record OnListing : Type 0 where
  -- 131,072 bytes of room suffice for every input
  pub room_suffices : {rule : Rule} {input before : List ℕ} {r : Result ℕ Refusal} {after : List ℕ} → Listing rule input before r after
      → 131072 ≤ length before → r ≡ Ok (length (text_of rule input))
  pub stands : {rule : Rule} {input before : List ℕ} {r : Result ℕ Refusal} {after : List ℕ} → Listing rule input before r after
      → length (text_of rule input) ≤ length before → TextStands rule input r after
  -- `refused R`: the numbers that have a cause are 16, and 20 to 30
  pub stops_numbers : {input : List ℕ} {n : ℕ} → ListingStops input n → (n ≡ 16) ⊎ ((20 ≤ n) × (n ≤ 30))
  pub text : (rule : Rule) (input : List ℕ) → ListedText rule input
  -- an input that no cause refuses can be listed
  pub unrefused_listable : (input : List ℕ) → ((n : ℕ) → ListingStops input n → ⊥) → Listable input
  pub lines : (input : List ℕ) → validate_of (body_in input) (data_length_in input) ≡ Ok (record {}) → ListedLines input
  -- the lines are those of the keys shown, one for each, in their order, and as many as the header says
  pub lines_shown : (input : List ℕ) → lines_in input ≡ text_of_shown (shown_in input)
  pub lines_counted : (input : List ℕ) → line_count (lines_in input) ≡ length (shown_in input)
  -- the whole text of an input that can be listed: the header with its limit, the keys in its body and the lines that follow; the lines
  pub whole_text : (input : List ℕ) → Listable input
      → text_of newest_tombstone input ≡ listing_header (limit_in input) (keys_in (body_in input)) (line_count (lines_in input)) ++ lines_in input
