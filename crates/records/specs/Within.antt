-- The first version within a limit: from a place and a count, and of an entry.
use Rattle.std.specs.Prelude.{ℕ, zero, suc, ◌+◌, cond, List, None, Option as Read, Some}
use Rattle.std.proofs.Math.Option.{Option, none, some}
use Rattle.records.specs.Limits.{Limit}
use Rattle.records.specs.declared.Record.{Record}
use Rattle.records.specs.declared.Within.{Within}
use Rattle.records.specs.declared.Within.TheVariants.{Found, Nothing, Damaged}
use Rattle.records.specs.declared.cursor.Head.{Head}
use Rattle.records.specs.Model.{within}
use Rattle.records.specs.Cursor.{head_at, version_at}

-- a version that was read, if it is within the limit, else what is found behind it; one that can't be read is damage
abbrev pub within_or : Limit → Read Record → Within → Within
within_or limit (Some r) behind = cond (within limit r.sequence) (Found r) behind
within_or limit None behind = Damaged

-- the first of the k versions from p on that is within the limit; a version visited outside the bytes or of bad kind is damage
unfoldable pub first_within : List ℕ → Limit → (p k : ℕ) → Within
first_within bytes limit p zero = Nothing
first_within bytes limit p (suc k) = within_or limit (version_at bytes p) (first_within bytes limit (p + 21) k)

-- the first version within the limit of an entry by its head; an entry outside the bytes is damage
abbrev pub head_within : List ℕ → Limit → Read Head → Within
head_within bytes limit (Some h) = first_within bytes limit h.first h.versions
head_within bytes limit None = Damaged

-- and of the entry at p
unfoldable pub entry_within : List ℕ → ℕ → Limit → Within
entry_within bytes p limit = head_within bytes limit (head_at bytes p)

-- a record that was found, or nothing
abbrev pub found_of : Option Record → Within
found_of none = Nothing
found_of (some r) = Found r
