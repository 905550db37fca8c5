-- Document 01's example, as a table: its listing at limit 8. Assumes nothing.
use mathlib.Core.Path.{◌≡◌, refl}
use mathlib.Core.List.{[], ◌∷◌}
use Rattle.text.specs.Text.{digits_in, decimal, hex_of, key_text, field, named}
use Rattle.records.specs.Model.{within, better, greatest}
use Rattle.records.specs.Example.{example_table}
use Rattle.lines.specs.Shown.{newest_tombstone, shown, shown_of}
use Rattle.lines.specs.Listing.{record_text, line_of, text_of_shown, listing_header, table_text}

-- `limit 8 keys 3 shown 1` and `41 4 put 40 8`, each with its newline
pub example_text_lem : table_text newest_tombstone 8 example_table ≡ 108 ∷ 105 ∷ 109 ∷ 105 ∷ 116 ∷ 32 ∷ 56 ∷ 32 ∷ 107 ∷ 101 ∷ 121 ∷ 115 ∷ 32 ∷ 51 ∷ 32 ∷ 115 ∷ 104 ∷ 111 ∷ 119 ∷ 110 ∷ 32 ∷ 49 ∷ 10 ∷ 52 ∷ 49 ∷ 32 ∷ 52 ∷ 32 ∷ 112 ∷ 117 ∷ 116 ∷ 32 ∷ 52 ∷ 48 ∷ 32 ∷ 56 ∷ 10 ∷ []
unfolding example_table digits_in decimal hex_of key_text field named within better greatest newest_tombstone shown shown_of record_text line_of text_of_shown listing_header table_text
example_text_lem = refl
