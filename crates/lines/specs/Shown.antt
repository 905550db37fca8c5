-- What a listing shows of a table, under a rule (document 01, "The listing").
use Rattle.std.specs.Prelude.{ℕ, Bool, true, false, cond, List, [], ◌∷◌, ◌≡◌, None, Some}
use Rattle.std.proofs.Math.Option.{Option, none, some}
use Rattle.std.specs.declared.cmp.Ordering.TheVariants.{Less}
use Rattle.words.specs.Part.{order_of}
use Rattle.records.specs.declared.Kind.{Kind}
use Rattle.records.specs.declared.Kind.TheVariants.{Put, Tombstone}
use Rattle.records.specs.declared.Record.{Record}
use Rattle.records.specs.Model.{Entry, record_within}

-- a rule: whether an entry is left out under a limit
abbrev pub Rule : Type 0
Rule = ℕ → Entry → Bool

abbrev pub is_tombstone : Kind → Bool
is_tombstone Put = false
is_tombstone Tombstone = true

abbrev pub tombstone_in : Option Record → Bool
tombstone_in none = false
tombstone_in (some r) = is_tombstone r.kind

-- the rule of document 01: a key whose newest record is a tombstone is left out
unfoldable pub newest_tombstone : Rule
newest_tombstone limit e = tombstone_in (record_within None e)

-- the record that an entry shows: any entry that is not left out shows its record within the limit, if there is one
unfoldable pub shown : Rule → ℕ → Entry → Option Record
shown rule limit e = cond (rule limit e) none (record_within (Some limit) e)

-- a key with the record that it shows
pub record Shows : Type 0 where
  pub key : List ℕ
  pub version : Record

abbrev pub shows_for : List ℕ → Option Record → List Shows → List Shows
shows_for key none rest = rest
shows_for key (some r) rest = record { key = key; version = r } ∷ rest

-- the keys that a table shows, in key order, each with its record
unfoldable pub shown_of : Rule → ℕ → List Entry → List Shows
shown_of rule limit [] = []
shown_of rule limit (e ∷ es) = shows_for e.key (shown rule limit e) (shown_of rule limit es)

-- keys strictly rising
pub data ShownRise : List Shows → Type 0 where
  shown_none : ShownRise []
  shown_one : {s : Shows} → ShownRise (s ∷ [])
  shown_more : {s t : Shows} {ss : List Shows} → order_of s.key t.key ≡ Less → ShownRise (t ∷ ss) → ShownRise (s ∷ t ∷ ss)
