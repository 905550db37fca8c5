-- Laws of the bytes in front of the cells: put one behind the other, and read again. Assumes nothing.
use Rattle.std.proofs.Common.{◌≡◌, ℕ, ◌+◌, ◌^◌, ◌<◌, ◌≤◌, List, ◌++◌, length, drop, refl, ap, ◌∙◌, arith}
use Rattle.words.specs.Field.{bytes_of, splice}
use Rattle.words.proofs.Laws.{splice_splice}
use Rattle.words.proofs.WrittenLaws.{le_there}
use Rattle.fuse.specs.declared.Sizes.{Sizes}
use Rattle.fuse.specs.Positions.{cells_in}
use Rattle.fuse.specs.Layout.{filter_magic, positive_bytes, fuse_header, sizes_in}

pub header_length : (s : Sizes) → length (fuse_header s) ≡ 48
unfolding fuse_header filter_magic bytes_of
header_length s = refl

pub positive_length : length positive_bytes ≡ 48
unfolding positive_bytes
positive_length = refl

-- a part put behind what stands in front
pub put_behind : (xs p q : List ℕ) (at : ℕ) → length p ≡ at → at ≤ length xs → splice (splice xs 0 p) at q ≡ splice xs 0 (p ++ q)
put_behind xs p q at e l =
    let f : at ≡ 0 + length p = omega arith in
    ap (λ (k : ℕ). splice (splice xs 0 p) k q) f ∙ splice_splice xs 0 p (omega arith) q

-- the header, field by field
pub fuse_header_written : (s : Sizes) (n : ℕ) (xs : List ℕ) → n ≡ cells_in s.segment s.count → 48 ≤ length xs →
    splice (splice (splice (splice (splice (splice (splice (splice xs 0 (bytes_of 8 0x324c_464e_4142_494b)) 8 (bytes_of 8 0x0000_0030_0801_0201))
    16 (bytes_of 8 s.keys)) 24 (bytes_of 8 s.seed)) 32 (bytes_of 4 s.segment)) 36 (bytes_of 4 s.count)) 40 (bytes_of 4 n)) 44 (bytes_of 4 n)
    ≡ splice xs 0 (fuse_header s)
unfolding bytes_of filter_magic fuse_header
fuse_header_written s n xs e l =
    let put : ℕ → List ℕ → List ℕ → List ℕ = λ at q t. splice t at q in
    let p₁ : List ℕ = bytes_of 8 0x324c_464e_4142_494b in
    let p₂ : List ℕ = p₁ ++ bytes_of 8 0x0000_0030_0801_0201 in
    let p₃ : List ℕ = p₂ ++ bytes_of 8 s.keys in
    let p₄ : List ℕ = p₃ ++ bytes_of 8 s.seed in
    let p₅ : List ℕ = p₄ ++ bytes_of 4 s.segment in
    let p₆ : List ℕ = p₅ ++ bytes_of 4 s.count in
    let p₇ : List ℕ = p₆ ++ bytes_of 4 n in
    ap (put 44 (bytes_of 4 n)) (ap (put 40 (bytes_of 4 n)) (ap (put 36 (bytes_of 4 s.count)) (ap (put 32 (bytes_of 4 s.segment))
    (ap (put 24 (bytes_of 8 s.seed)) (ap (put 16 (bytes_of 8 s.keys))
    (put_behind xs p₁ (bytes_of 8 0x0000_0030_0801_0201) 8 refl (omega arith))
    ∙ put_behind xs p₂ (bytes_of 8 s.keys) 16 refl (omega arith))
    ∙ put_behind xs p₃ (bytes_of 8 s.seed) 24 refl (omega arith))
    ∙ put_behind xs p₄ (bytes_of 4 s.segment) 32 refl (omega arith))
    ∙ put_behind xs p₅ (bytes_of 4 s.count) 36 refl (omega arith))
    ∙ put_behind xs p₆ (bytes_of 4 n) 40 refl (omega arith))
    ∙ put_behind xs p₇ (bytes_of 4 n) 44 refl (omega arith)
    ∙ ap (λ (k : ℕ). splice xs 0 (p₆ ++ bytes_of 4 k ++ bytes_of 4 k)) e

-- ---- read again

-- the sizes in a header are those that it was made of
pub sizes_back : (s : Sizes) (cells : List ℕ) → s.keys < 2 ^ 64 → s.seed < 2 ^ 64 → s.segment < 2 ^ 32 → s.count < 2 ^ 32 → sizes_in (fuse_header s ++ cells) ≡ s
unfolding sizes_in fuse_header filter_magic bytes_of
sizes_back s cells a b c d =
    let xs : List ℕ = fuse_header s ++ cells in
    λ i. record {
      keys = le_there 8 s.keys 16 xs (drop 24 xs) a refl i;
      seed = le_there 8 s.seed 24 xs (drop 32 xs) b refl i;
      segment = le_there 4 s.segment 32 xs (drop 36 xs) c refl i;
      count = le_there 4 s.count 36 xs (drop 40 xs) d refl i;
    }
