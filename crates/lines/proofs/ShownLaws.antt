-- What an entry shows, by what the searches over its versions find; its line and its count before those of the entries behind it. Assumes nothing.
use Rattle.std.specs.Prelude.{None, Some}
use Prim.Native.Nat.{ℕ, ◌+◌, ◌≤◌}
use native.Mathlib.Nat.{zero-add}
use native.Mathlib.Omega.{arith}
use mathlib.Core.Path.{◌≡◌, refl, sym, ap, ◌∙◌}
use mathlib.Core.Bool.{true, false}
use mathlib.Core.List.{List, [], ◌∷◌, ◌++◌, append-nil}
use mathlib.Core.Option.{Option, none, some}
use lib.ListN.{length}
use Rattle.records.specs.declared.Record.{Record}
use Rattle.records.specs.declared.Within.{Within}
use Rattle.records.specs.declared.Within.TheVariants.{Nothing}
use Rattle.records.specs.Model.{Entry, record_within}
use Rattle.records.specs.Places.{entry_at}
use Rattle.records.specs.Within.{entry_within, found_of}
use Rattle.records.specs.Inner.Stands.{EntryStands}
use Rattle.records.proofs.WithinLaws.{entry_within_lem}
use Rattle.lines.specs.Shown.{Rule, tombstone_in, newest_tombstone, shown, Shows, shows_for, shown_of}
use Rattle.lines.specs.Listing.{line_of, text_of_shown}
use Rattle.lines.specs.Inner.Steps.{tombstone_found}

-- ---- an entry

tombstone_of : (o : Option Record) → tombstone_found (found_of o) ≡ tombstone_in o
tombstone_of none = refl
tombstone_of (some r) = refl

module _ (body : List ℕ) (limit p : ℕ) (s : EntryStands body p) where
  -- the rule of document 01, by the newest record found
  pub ruled_newest : (newest : Within) → newest ≡ entry_within body p None → newest_tombstone limit (entry_at body p) ≡ tombstone_found newest
  unfolding newest_tombstone
  ruled_newest newest e = sym (ap tombstone_found (e ∙ entry_within_lem body None p s) ∙ tombstone_of (record_within None (entry_at body p)))

  module _ (rule : Rule) where
    -- the rule leaves it out
    pub shown_left : rule limit (entry_at body p) ≡ true → Nothing ≡ found_of (shown rule limit (entry_at body p))
    unfolding shown
    shown_left e = rw e

    -- it does not
    pub shown_found : rule limit (entry_at body p) ≡ false → (w : Within) → w ≡ entry_within body p (Some limit) → w ≡ found_of (shown rule limit (entry_at body p))
    unfolding shown
    shown_found e w ew = rw e (ew ∙ entry_within_lem body (Some limit) p s)

-- ---- what one entry shows, before what those behind it show

module _ (key : List ℕ) where
  pub shows_text : (o : Option Record) (ss : List Shows) → text_of_shown (shows_for key o ss) ≡ text_of_shown (shows_for key o []) ++ text_of_shown ss
  unfolding text_of_shown
  shows_text none ss = refl
  shows_text (some r) ss = ap (λ (l : List ℕ). l ++ text_of_shown ss) (sym (append-nil (line_of key r)))

  pub shows_count : (o : Option Record) (ss : List Shows) → length (shows_for key o ss) ≡ length (shows_for key o []) + length ss
  shows_count none ss = sym (zero-add (length ss))
  shows_count (some r) ss = omega arith

  pub shows_few : (o : Option Record) (ss : List Shows) (n : ℕ) → length ss ≤ n → length (shows_for key o ss) ≤ n + 1
  shows_few none ss n h = omega arith
  shows_few (some r) ss n h = omega arith

-- a table shows no more keys than it has
pub shown_few : (rule : Rule) (limit : ℕ) (table : List Entry) → length (shown_of rule limit table) ≤ length table
unfolding shown_of
shown_few rule limit [] = omega arith
shown_few rule limit (e ∷ es) = omega (arith, shows_few e.key (shown rule limit e) (shown_of rule limit es) (length es) (shown_few rule limit es))
