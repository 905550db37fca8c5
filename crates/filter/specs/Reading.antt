-- Reading a filter's bytes, after document 01, "Filter reading".
use Rattle.std.specs.Prelude.{Bool, false, cond, List, [], ◌∷◌, ◌++◌, ℕ, ◌^◌, ◌<◌, eqb, length}
use Rattle.words.specs.Part.{same_as}
use Rattle.fuse.specs.declared.Sizes.{Sizes}
use Rattle.fuse.specs.Positions.{cells_in}
use Rattle.fuse.specs.Layout.{positive_bytes, fuse_header, sizes_in, fitting, fuse_laid, Accepted}
use Rattle.filter.specs.declared.SstFilter.{SstFilter}
use Rattle.filter.specs.declared.SstFilter.TheVariants.{Positive, Fuse, Refused}

-- what reading finds: the Positive layout, a Fuse filter of the sizes in its header, or neither
unfoldable pub read_of : List ℕ → SstFilter
read_of bytes = cond (same_as bytes positive_bytes) Positive (cond (fuse_laid bytes (sizes_in bytes)) (Fuse (sizes_in bytes)) Refused)

-- this paper's number: 15 for bytes that are not accepted, else none
abbrev pub read_refusal : SstFilter → ℕ
read_refusal Positive = 0
read_refusal (Fuse s) = 0
read_refusal Refused = 15

-- its values: 0 Positive or 1 Fuse, keys, seed, segment, count, cells; zeros after 0; none for what is refused
abbrev pub read_values : SstFilter → List ℕ
read_values Positive = 0 ∷ 0 ∷ 0 ∷ 0 ∷ 0 ∷ 0 ∷ []
read_values (Fuse s) = 1 ∷ s.keys ∷ s.seed ∷ s.segment ∷ s.count ∷ cells_in s.segment s.count ∷ []
read_values Refused = []

-- the bytes in front of the cells
unfoldable pub front_of : SstFilter → List ℕ
front_of Positive = positive_bytes
front_of (Fuse s) = fuse_header s
front_of Refused = []

-- whether some bytes are read as this filter beside so many cells
unfoldable pub acceptable : SstFilter → (cells : ℕ) → Bool
acceptable Positive cells = eqb cells 0
acceptable (Fuse s) cells = fitting s cells
acceptable Refused cells = false

-- the two layouts, and how each is read
pub data Layout : List ℕ → SstFilter → Type 0 where
  positive : Layout positive_bytes Positive
  fuse : (s : Sizes) (cells : List ℕ) → Accepted s (length cells) → s.seed < 2 ^ 64 → Layout (fuse_header s ++ cells) (Fuse s)
