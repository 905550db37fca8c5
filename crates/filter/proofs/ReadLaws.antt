-- Laws of reading: the three answers as the code gives them, and what each says of the bytes. Assumes nothing.
use mathlib.Core.Path.{◌≡◌, refl, sym, ap, ◌∙◌}
use mathlib.Core.Bool.{Bool, true, false, cond, and-eq-true_iff}
use mathlib.Core.List.{List, ◌++◌}
use Prim.Native.Nat.{ℕ, ◌-◌, ◌<◌}
use native.Mathlib.Omega.{arith}
use lib.ListN.{length, take, drop, take-append-drop}
use Rattle.words.specs.Part.{same_as}
use Rattle.words.proofs.Ordered.{same_equal, same_lengths}
use Rattle.fuse.specs.declared.Sizes.{Sizes}
use Rattle.fuse.specs.Layout.{positive_bytes, fuse_header, sizes_in, fitting, fuse_laid, Accepted}
use Rattle.fuse.proofs.FitLaws.{fitting_accepted, not_fitting, cells_some}
use Rattle.fuse.proofs.HeaderLaws.{positive_length}
use Rattle.filter.specs.declared.SstFilter.TheVariants.{Positive, Fuse, Refused}
use Rattle.filter.specs.Reading.{read_of}

-- ---- the answers

pub read_positive : (bytes : List ℕ) → same_as bytes positive_bytes ≡ true → Positive ≡ read_of bytes
unfolding read_of
read_positive bytes e = simp e

pub read_other : (bytes : List ℕ) (t : Bool) → same_as bytes positive_bytes ≡ false → t ≡ fuse_laid bytes (sizes_in bytes)
    → cond t (Fuse (sizes_in bytes)) Refused ≡ read_of bytes
unfolding read_of
read_other bytes t e f = simp (e, ← f)

-- fewer than 48 bytes leave no cells, and no filter has none
pub short_none : (bytes : List ℕ) (s : Sizes) → length bytes < 48 → false ≡ fuse_laid bytes s
unfolding fuse_laid
short_none bytes s l =
    simp (← not_fitting s (length bytes - 48) (λ a. omega (arith, a.fits.whole, (cells_some s.segment s.count a.fits.usable).0)))

pub read_short : (bytes : List ℕ) → length bytes < 48 → Refused ≡ read_of bytes
read_short bytes l =
    read_other bytes false (same_lengths bytes positive_bytes (λ e. omega (arith, positive_length))) (short_none bytes (sizes_in bytes) l)

-- ---- what was accepted

split_fuse : (t u : Bool) (x s : Sizes) → cond t Positive (cond u (Fuse x) Refused) ≡ Fuse s → (u ≡ true) × (x ≡ s)
split_fuse true u x s e = (cc, cc)
split_fuse false true x s e = (refl, cc)
split_fuse false false x s e = (cc, cc)

split_positive : (t u : Bool) (x : Sizes) → cond t Positive (cond u (Fuse x) Refused) ≡ Positive → t ≡ true
split_positive true u x e = refl
split_positive false true x e = cc
split_positive false false x e = cc

module _ (bytes : List ℕ) where
  -- Positive is read from its layout alone
  pub positive_bytes_lem : read_of bytes ≡ Positive → positive_bytes ≡ bytes
  unfolding read_of
  positive_bytes_lem e =
      sym (same_equal bytes positive_bytes (split_positive (same_as bytes positive_bytes) (fuse_laid bytes (sizes_in bytes)) (sizes_in bytes) e))

  module _ (s : Sizes) (e : read_of bytes ≡ Fuse s) where
    pub fuse_sizes : sizes_in bytes ≡ s
    unfolding read_of
    fuse_sizes = (split_fuse (same_as bytes positive_bytes) (fuse_laid bytes (sizes_in bytes)) (sizes_in bytes) s e).1

    laid : (fitting s (length bytes - 48) ≡ true) × (same_as (take 48 bytes) (fuse_header s) ≡ true)
    unfolding read_of fuse_laid
    laid =
        (and-eq-true_iff (fitting s (length bytes - 48)) (same_as (take 48 bytes) (fuse_header s))).0
        (ap (fuse_laid bytes) (sym fuse_sizes)
        ∙ (split_fuse (same_as bytes positive_bytes) (fuse_laid bytes (sizes_in bytes)) (sizes_in bytes) s e).0)

    -- accepted sizes
    pub fuse_accepted : Accepted s (length bytes - 48)
    fuse_accepted = fitting_accepted s (length bytes - 48) laid.0

    -- the header is the one written of these sizes
    pub fuse_bytes : fuse_header s ++ drop 48 bytes ≡ bytes
    fuse_bytes = ap (λ (h : List ℕ). h ++ drop 48 bytes) (sym (same_equal (take 48 bytes) (fuse_header s) laid.1)) ∙ take-append-drop 48 bytes
