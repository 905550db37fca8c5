-- Laws of asking: the answers as the code gives them. Assumes nothing.
use mathlib.Core.Path.{◌≡◌, refl, ap, ◌∙◌}
use mathlib.Core.Bool.{Bool, true, cond}
use mathlib.Core.List.{List}
use Prim.Native.Nat.{ℕ, ◌-◌, ◌<◌}
use native.Mathlib.Nat.{le_of_eq}
use lib.ListN.{length, take, drop, length-drop}
use lib.Seq.{take_all}
use Rattle.fuse.specs.declared.Sizes.{Sizes}
use Rattle.fuse.specs.Asking.{contains_of}
use Rattle.fuse.specs.Layout.{fitting}
use Rattle.filter.specs.declared.SstFilter.{SstFilter}
use Rattle.filter.specs.declared.SstFilter.TheVariants as read
use Rattle.filter.specs.declared.Asked.TheVariants.{Absent, Maybe, Refused}
use Rattle.filter.specs.Asking.{ask_cells_of, ask_of}
use Rattle.filter.proofs.ReadLaws.{read_short}

module _ (filter : SstFilter) (cells : List ℕ) (hash : ℕ) where
  pub ask_positive : filter ≡ read.Positive → Maybe ≡ ask_cells_of filter cells hash
  unfolding ask_cells_of
  ask_positive e = rw e

  pub ask_unread : filter ≡ read.Refused → Refused ≡ ask_cells_of filter cells hash
  unfolding ask_cells_of
  ask_unread e = rw e

  module _ (s : Sizes) (e : filter ≡ read.Fuse s) where
    pub ask_fuse : (t : Bool) → true ≡ fitting s (length cells) → t ≡ contains_of cells s hash
        → cond t Maybe Absent ≡ ask_cells_of filter cells hash
    unfolding ask_cells_of
    ask_fuse t f p = rw (e, ← f, ← p)

-- fewer than 48 bytes are refused
pub ask_short : (bytes : List ℕ) (hash : ℕ) → length bytes < 48 → Refused ≡ ask_of bytes hash
unfolding ask_of
ask_short bytes hash l =
    ask_unread read.Refused (drop 48 bytes) hash refl ∙ ap (λ (f : SstFilter). ask_cells_of f (drop 48 bytes) hash) (read_short bytes l)

-- the bytes past the header, as the code takes them
pub cells_part : (bytes : List ℕ) → take (length bytes - 48) (drop 48 bytes) ≡ drop 48 bytes
cells_part bytes = take_all (length bytes - 48) (drop 48 bytes) (le_of_eq (length-drop 48 bytes))
