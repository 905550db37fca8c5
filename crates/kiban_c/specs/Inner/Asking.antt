-- Between the steps: what asking for each hash answers, once the header is read.
use Rattle.std.specs.Prelude.{ℕ, List}
use Rattle.fuse.specs.declared.Sizes.{Sizes}
use Rattle.filter.specs.declared.SstFilter.TheVariants.{Fuse}
use Rattle.filter.specs.Asking.{ask_cells_of, ask_number}

-- the number of a hash, from the sizes of a Fuse filter beside its cells
abbrev pub cells_ask_of : Sizes → (cells : List ℕ) (hash : ℕ) → ℕ
cells_ask_of s cells hash = ask_number (ask_cells_of (Fuse s) cells hash)
