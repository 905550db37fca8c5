-- Whether a filter's cells hold a hash, after document 01, "Arithmetic and construction".
use Rattle.std.specs.Prelude.{ℕ, ◌+◌, ◌%◌, ◌^◌, Bool, List, [], ◌∷◌, ◌==◌, bit_xor, slice_index}
use Rattle.mixing.specs.Mixing.{mix_of}
use Rattle.fuse.specs.declared.Sizes.{Sizes}
use Rattle.fuse.specs.Positions.{positions_of}

-- the filter's h: mix(hash + seed), wrapping
unfoldable pub graph_hash : (seed hash : ℕ) → ℕ
graph_hash seed hash = mix_of ((hash + seed) % 2 ^ 64)

-- the xor of the cells at the positions
unfoldable pub xor_at : List ℕ → List ℕ → ℕ
xor_at cells [] = 0
xor_at cells (p ∷ ps) = bit_xor (slice_index cells p) (xor_at cells ps)

-- a hash is present when its four cells xor to the low byte of h
unfoldable pub contains_of : List ℕ → Sizes → (hash : ℕ) → Bool
contains_of cells s hash =
    (xor_at cells (positions_of s.segment s.count (graph_hash s.seed hash)) == graph_hash s.seed hash % 256)
