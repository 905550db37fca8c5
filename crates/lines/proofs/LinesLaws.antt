-- The walk that writes the lines, an entry at a time. Assumes nothing.
use Prim.Native.Nat.{ℕ, ◌+◌, ◌-◌, ◌<◌, ◌≤◌}
use native.Mathlib.Nat.{zero-add}
use native.Mathlib.Omega.{arith}
use mathlib.Core.Path.{◌≡◌, refl, ap, ◌∙◌}
use mathlib.Core.List.{List, [], ◌++◌, append-nil}
use mathlib.Core.Option.{Option, none}
use lib.ListN.{length}
use Rattle.text.specs.declared.Writer.{Writer}
use Rattle.text.specs.Inner.Written.{Ends, Wrote}
use Rattle.text.proofs.WrittenLaws.{wrote_none, wrote_then, ends_first, ends_second}
use Rattle.layout.specs.Layout.{keys_in, arena_in}
use Rattle.records.specs.declared.Record.{Record}
use Rattle.records.specs.declared.Within.TheVariants.{Found}
use Rattle.records.specs.Within.{found_of}
use Rattle.records.specs.Places.{next_entry, entry_at, entries_from}
use Rattle.records.specs.Inner.Stands.{EntriesStand}
use Rattle.records.proofs.ModelLaws.{found_some}
use Rattle.records.proofs.PassedLaws.{entries_count}
use Rattle.records.proofs.StandsLaws.{stands_on, entries_on}
use Rattle.point.specs.Table.{table_of}
use Rattle.point.specs.Inner.Stands.{TableStands}
use Rattle.lines.specs.Shown.{Rule, shown, Shows, shows_for, shown_of}
use Rattle.lines.specs.Listing.{line_of, text_of_shown}
use Rattle.lines.specs.Inner.Steps.{shown_by, Lined}
use Rattle.lines.proofs.ShownLaws.{shows_text, shows_count, shown_few}

module _ (rule : Rule) (limit : ℕ) (body : List ℕ) where
  -- what the k entries from p on show
  abbrev pub shown_from : (p k : ℕ) → List Shows
  shown_from p k = shown_of rule limit (entries_from body p k)

  module _ (p k : ℕ) where
    module _ (some : 0 < k) where
      shown_on : shown_from p k ≡ shows_for (entry_at body p).key (shown rule limit (entry_at body p)) (shown_from (next_entry body p) (k - 1))
      unfolding shown_of
      shown_on = ap (shown_of rule limit) (entries_on body p k some)

      text_on : text_of_shown (shown_from p k) ≡ text_of_shown (shown_by rule limit (entry_at body p)) ++ text_of_shown (shown_from (next_entry body p) (k - 1))
      text_on = ap text_of_shown shown_on ∙ shows_text (entry_at body p).key (shown rule limit (entry_at body p)) (shown_from (next_entry body p) (k - 1))

      count_on : length (shown_from p k) ≡ length (shown_by rule limit (entry_at body p)) + length (shown_from (next_entry body p) (k - 1))
      count_on = ap length shown_on ∙ shows_count (entry_at body p).key (shown rule limit (entry_at body p)) (shown_from (next_entry body p) (k - 1))

    shown_end : k ≤ 0 → shown_from p k ≡ []
    unfolding shown_of entries_from
    shown_end h = let e : k ≡ 0 = omega arith in rw e

-- ---- the walk: k entries are left from p on, and what was written with their lines is the whole

pub record Going (rule : Rule) (limit : ℕ) (before : Writer) (body : List ℕ) (out : Writer) (shown p left : ℕ) : Type 0 where
  pub stand : EntriesStand body p left
  pub ends : Ends out.at (text_of_shown (shown_from rule limit body p left))
  pub whole : (after : Writer) → Wrote out (text_of_shown (shown_from rule limit body p left)) after
      → Wrote before (text_of_shown (shown_from rule limit body (arena_in body) (keys_in body))) after
  pub count : shown + length (shown_from rule limit body p left) ≡ length (shown_from rule limit body (arena_in body) (keys_in body))

-- before the first entry
pub going_start : (rule : Rule) (limit : ℕ) {before : Writer} (body : List ℕ) (p left : ℕ) → p ≡ arena_in body → left ≡ keys_in body → TableStands body → Ends before.at (text_of_shown (shown_of rule limit (table_of body)))
    → Going rule limit before body before 0 p left
unfolding table_of
going_start rule limit body p left ep el t e = rw (ep, el) (record { stand = t.all; ends = e; whole = λ w l. l; count = zero-add _ })

module _ {rule : Rule} {limit : ℕ} {before : Writer} {body : List ℕ} {out : Writer} {shown p left : ℕ} (g : Going rule limit before body out shown p left) where
  module _ (some : 0 < left) where
    pub going_room : Ends out.at (text_of_shown (shown_by rule limit (entry_at body p)))
    going_room = ends_first _ (rw (text_on rule limit body p left some) at g.ends)

    -- the count fits a word of 32 bits
    pub going_count : keys_in body < 4294967296 → shown + length (shown_by rule limit (entry_at body p)) < 4294967296
    going_count few =
        omega
        (arith, count_on rule limit body p left some, g.count, shown_few rule limit (entries_from body (arena_in body) (keys_in body)), entries_count body (arena_in body) (keys_in body), few)

    module _ (after : Writer) (count q : ℕ) (put : Lined (shown_by rule limit (entry_at body p)) out after count) (eq : q ≡ next_entry body p) where
      pub going_on : Going rule limit before body after (shown + count) q (left - 1)
      going_on =
          rw eq
          (record {
            stand = stands_on some g.stand;
            ends = ends_second put.wrote (rw (text_on rule limit body p left some) at g.ends);
            whole = λ w l. g.whole w (rw (text_on rule limit body p left some) (wrote_then put.wrote l));
            count = omega (arith, put.counted, count_on rule limit body p left some, g.count);
          })

  -- none is left
  pub going_end : left ≤ 0 → Lined (shown_of rule limit (table_of body)) before out shown
  unfolding table_of text_of_shown
  going_end h =
      let n = shown_end rule limit body p left h in
      record {
        wrote = g.whole out (rw n wrote_none);
        counted = omega (arith, ap length n, g.count);
      }

-- ---- an entry's line

module _ (key : List ℕ) (o : Option Record) where
  -- it shows r
  module _ (r : Record) (e : found_of o ≡ Found r) where
    line_is : text_of_shown (shows_for key o []) ≡ line_of key r
    unfolding text_of_shown
    line_is = rw (found_some o r e) (append-nil (line_of key r))

    pub line_ends : {at : ℕ} → Ends at (text_of_shown (shows_for key o [])) → Ends at (line_of key r)
    line_ends h = rw line_is at h

    pub lined_some : {before after : Writer} → Wrote before (line_of key r) after → Lined (shows_for key o []) before after 1
    lined_some w = record { wrote = rw line_is w; counted = rw (found_some o r e) }

  -- it shows none
  pub lined_none : {before : Writer} → o ≡ none → Lined (shows_for key o []) before before 0
  unfolding text_of_shown
  lined_none e = rw e (record { wrote = wrote_none; counted = refl })
