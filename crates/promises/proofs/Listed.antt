-- What the desk reads, from the theorems of lines. Assumes nothing.
use Rattle.std.specs.Prelude.{Ok, Result, None, Some}
use Rattle.numbers.specs.declared.Refusal.{Refusal}
use Prim.Native.Nat.{ℕ, ◌≤◌}
use mathlib.Core.Path.{◌≡◌, refl, sym, ap, ap₂, ◌∙◌}
use mathlib.Core.Bool.{Bool}
use mathlib.Core.List.{List, ◌++◌}
use lib.ListN.{length, take}
use lib.Seq.{take_at}
use borrow.Author.Tests.{le-leb}
use Rattle.words.proofs.Laws.{bytes_drop}
use Rattle.words.proofs.PartLaws.{splice_front}
use Rattle.layout.specs.Layout.{keys_in, arena_in}
use Rattle.records.specs.Model.{lookup, Rises}
use Rattle.records.proofs.PassedLaws.{entries_count}
use Rattle.point.specs.Validate.{validate_of}
use Rattle.point.specs.Table.{table_of, answer_to}
use Rattle.point.proofs.SlotLaws.{accepted_rises}
use Rattle.point.proofs.Theorems.{get_is_lookup}
use Rattle.lines.specs.Shown.{Rule, tombstone_in, newest_tombstone}
use Rattle.lines.specs.Listing.{line_count, listing_header, table_text, limit_in, data_length_in, body_in, text_of, listed_of, Listing}
use Rattle.lines.specs.Causes.{Listable}
use Rattle.lines.proofs.CauseLaws.{refused_stops, stops_refused, listed_text, text_listed_only, unstopped_taken, stops_numbers}
use Rattle.lines.proofs.Theorems as theorems
use Rattle.lines.proofs.Theorems.{newest_out, room_values}
use Rattle.lines.proofs.CountLaws as counts
use Rattle.promises.specs.Listed.{table_in, shown_in, lines_in, TextStands, ListedLines, OnListing}

text_stands : {rule : Rule} {input before : List ℕ} {r : Result ℕ Refusal} {after : List ℕ} → Listing rule input before r after
    → length (text_of rule input) ≤ length before → TextStands rule input r after
unfolding listed_of
text_stands {rule} {input} {before} P room =
    let text = text_of rule input in
    let front = ap (take (length text)) ((room_values P room).2 ∙ splice_front before text) ∙ take_at text _ (length text) refl in
    record {
      text_stands = (P.answer ∙ rw (le-leb (length text) (length before) room), front);
      stands_refused = λ n e. refused_stops rule input n (sym front ∙ e);
      refused_stands = λ n s. front ∙ stops_refused rule input n s;
    }

listed_lines : (input : List ℕ) → validate_of (body_in input) (data_length_in input) ≡ Ok (record {}) → ListedLines input
listed_lines input ok =
    let limit = limit_in input in
    let rises : Rises (table_in input) = accepted_rises (body_in input) (data_length_in input) ok in
    let out : List ℕ → Bool = λ key. tombstone_in (lookup (table_in input) key None) in
    let is-out = newest_out (table_in input) rises limit in
    let only = theorems.line_only newest_tombstone limit (table_in input) rises out is-out in
    record {
      shown_only = λ e among r. theorems.shown_only newest_tombstone limit (table_in input) rises out is-out e among r;
      shown_all = λ e among r. theorems.shown_all newest_tombstone limit (table_in input) rises out is-out e among r;
      line_only = only;
      line_all = theorems.line_all newest_tombstone limit (table_in input) rises out is-out;
      line_found = λ all s m.
          get_is_lookup (body_in input) (data_length_in input) ok (bytes_drop 16 input all) s.key (Some limit) ∙ ap answer_to (only s m).1;
      keys_rise = theorems.keys_rise newest_tombstone limit (table_in input) rises;
    }

lines_counted : (input : List ℕ) → line_count (lines_in input) ≡ length (shown_in input)
lines_counted input = counts.lines_counted (shown_in input)

keys_counted : (input : List ℕ) → length (table_in input) ≡ keys_in (body_in input)
unfolding table_of
keys_counted input = entries_count (body_in input) (arena_in (body_in input)) (keys_in (body_in input))

whole_text : (input : List ℕ) → Listable input
    → text_of newest_tombstone input ≡ listing_header (limit_in input) (keys_in (body_in input)) (line_count (lines_in input)) ++ lines_in input
unfolding table_text
whole_text input l =
    listed_text newest_tombstone input l
    ∙ ap₂ (λ (keys count : ℕ). listing_header (limit_in input) keys count ++ lines_in input) (keys_counted input) (sym (lines_counted input))

-- THEOREM: what the desk reads
pub on_listing : OnListing
on_listing = record {
  room_suffices = theorems.room_suffices;
  stands = text_stands;
  stops_numbers = stops_numbers;
  text = λ rule input. record {
    listable_listed = listed_text rule input;
    listed_listable = text_listed_only rule input;
  };
  unrefused_listable = unstopped_taken;
  lines = listed_lines;
  lines_shown = λ input. refl;
  lines_counted = lines_counted;
  whole_text = whole_text;
}
