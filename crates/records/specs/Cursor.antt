-- The head of an entry and a version, as they are read at a place.
use Rattle.std.specs.Prelude.{ℕ, ◌+◌, cond, List, ltb, length, None, Option, Some}
use Rattle.records.specs.declared.cursor.Head.{Head}
use Rattle.records.specs.declared.Record.{Record}
use Rattle.records.specs.Places.{version_count, first_version, kind_at, record_at}
use Rattle.records.specs.Rules.{bad_kind}

-- of the entry at p: how many versions it has, and where the first one stands
abbrev pub head_of : List ℕ → ℕ → Head
head_of bytes p = record { versions = version_count bytes p; first = first_version bytes p }

-- the head at p, or that the head or its key lies outside the bytes
unfoldable pub head_at : List ℕ → ℕ → Option Head
head_at bytes p =
    cond (ltb (length bytes) (p + 8)) None
    (cond (ltb (length bytes) (first_version bytes p)) None (Some (head_of bytes p)))

-- the version at p, or that it lies outside the bytes or is of bad kind
unfoldable pub version_at : List ℕ → ℕ → Option Record
version_at bytes p =
    cond (ltb (length bytes) (p + 21)) None
    (cond (bad_kind (kind_at bytes p)) None (Some (record_at bytes p)))
