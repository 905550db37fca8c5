-- How new a record may be, and the data that offsets point into: each may be left open.
use Rattle.std.specs.Prelude.{ℕ, Option}

-- a limit: none, or up to a sequence
abbrev pub Limit : Type 0
Limit = Option ℕ

-- the length of the data, where it is tested
abbrev pub DataLength : Type 0
DataLength = Option ℕ
