-- Asking a filter for a hash.
use Rattle.std.specs.Prelude.{cond, List, ℕ, length, drop}
use Rattle.fuse.specs.Asking.{contains_of}
use Rattle.fuse.specs.Layout.{fitting}
use Rattle.filter.specs.declared.SstFilter.{SstFilter}
use Rattle.filter.specs.declared.SstFilter.TheVariants as read
use Rattle.filter.specs.declared.Asked.{Asked}
use Rattle.filter.specs.declared.Asked.TheVariants.{Absent, Maybe, Refused}
use Rattle.filter.specs.Reading.{read_of}

-- Positive is always maybe; sizes that do not fit the cells are refused
unfoldable pub ask_cells_of : SstFilter → (cells : List ℕ) (hash : ℕ) → Asked
ask_cells_of read.Positive cells hash = Maybe
ask_cells_of (read.Fuse s) cells hash = cond (fitting s (length cells)) (cond (contains_of cells s hash) Maybe Absent) Refused
ask_cells_of read.Refused cells hash = Refused

-- asking bytes: what is read, beside the cells from byte 48
unfoldable pub ask_of : List ℕ → (hash : ℕ) → Asked
ask_of bytes hash = ask_cells_of (read_of bytes) (drop 48 bytes) hash

-- this paper's number of an answer: 0 absent, 1 maybe, 15
abbrev pub ask_number : Asked → ℕ
ask_number Absent = 0
ask_number Maybe = 1
ask_number Refused = 15
