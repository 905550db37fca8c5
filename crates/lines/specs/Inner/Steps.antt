-- Between the steps: what a search has found, read for the rule, what one entry shows, and what the writers leave.
use Rattle.std.specs.Prelude.{ℕ, ◌≡◌, Bool, false, List, [], length, Result}
use denote.Ref.{MutBor}
use Rattle.std.specs.Fn.{Shared}
use Rattle.text.specs.declared.Writer.{Writer}
use Rattle.text.specs.Inner.Written.{Wrote}
use Rattle.numbers.specs.declared.Refusal.{Refusal}
use Rattle.records.specs.declared.Within.{Within}
use Rattle.records.specs.declared.Within.TheVariants.{Found, Nothing, Damaged}
use Rattle.records.specs.Model.{Entry}
use Rattle.lines.specs.Shown.{Rule, is_tombstone, shown, Shows, shows_for}
use Rattle.lines.specs.Listing.{text_of_shown, listed_of, buffer_of}

-- a tombstone was found
abbrev pub tombstone_found : Within → Bool
tombstone_found (Found r) = is_tombstone r.kind
tombstone_found Nothing = false
tombstone_found Damaged = false

-- what one entry shows: its key with its record, or nothing
abbrev pub shown_by : Rule → ℕ → Entry → List Shows
shown_by rule limit e = shows_for e.key (shown rule limit e) []

-- what is left where the lines of the keys shown were written, and how many they are
pub record Lined (shows : List Shows) (before after : Writer) (count : ℕ) : Type 0 where
  pub wrote : Wrote before (text_of_shown shows) after
  pub counted : count ≡ length shows

-- what a call that puts a text into a buffer leaves
pub record Lists (text before : List ℕ) (r : Result ℕ Refusal) (after : List ℕ) : Type 0 where
  pub answer : r ≡ listed_of text before
  pub buffer : after ≡ buffer_of text before

-- a call puts a text through whatever writer it is lent
pub record Puts {F : Type 0} (g : Shared F (MutBor Writer × Unit {0}) (Unit {0} × (MutBor Writer × Unit {0}))) (f : F) (text : List ℕ) : Type 0 where
  pub puts : (before after : MutBor Writer) → g.post f (before, tt) (tt, (after, tt)) → Wrote before.now text after.now
