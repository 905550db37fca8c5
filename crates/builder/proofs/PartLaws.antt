-- Parts put one behind the other: a version's fields, and a new entry's parts. Assumes nothing.
use Prim.Native.Nat.{ℕ, ◌+◌, ◌≤◌}
use mathlib.Core.Path.{◌≡◌}
use mathlib.Core.List.{List, [], ◌∷◌, ◌++◌, append_assoc, append-nil}
use native.Mathlib.Omega.{arith}
use lib.ListN.{length, length-append}
use Rattle.words.specs.Field.{bytes_of, splice}
use Rattle.words.proofs.Laws.{length_bytes_of, splice_then}
use Rattle.records.specs.declared.Record.{Record}
use Rattle.records.specs.Model.{kind_byte, version_bytes, versions_bytes, entry_bytes}
use Rattle.builder.specs.Add.{new_entry}

module _ (xs : List ℕ) (at : ℕ) (r : Record) (h : at + 21 ≤ length xs) where
  pub version_put : splice (splice (splice (splice xs at (bytes_of 8 r.sequence)) (at + 8) (kind_byte r.kind ∷ [])) (at + 9) (bytes_of 4 r.length)) (at + 13) (bytes_of 8 r.offset) ≡ splice xs at (version_bytes r)
  unfolding version_bytes
  version_put =
      rw (splice_then xs at (bytes_of 8 r.sequence) (at + 8) (kind_byte r.kind ∷ []) (simp length_bytes_of (omega arith)) (simp length_bytes_of (omega arith)))
      (rw (splice_then xs at (bytes_of 8 r.sequence ++ (kind_byte r.kind ∷ [])) (at + 9) (bytes_of 4 r.length) (simp (length-append, length_bytes_of) (omega arith)) (simp (length-append, length_bytes_of) (omega arith)))
      (rw (splice_then xs at (bytes_of 8 r.sequence ++ (kind_byte r.kind ∷ []) ++ bytes_of 4 r.length) (at + 13) (bytes_of 8 r.offset) (simp (length-append, length_bytes_of) (omega arith)) (simp (length-append, length_bytes_of) (omega arith)))
      (simp append_assoc)))

-- a new entry's length, count, key and version
pub entry_put : (xs : List ℕ) (at : ℕ) (key : List ℕ) (r : Record) → at + (29 + length key) ≤ length xs → splice (splice (splice (splice xs at (bytes_of 4 (length key))) (at + 4) (bytes_of 4 1)) (at + 8) key) (at + 8 + length key) (version_bytes r) ≡ splice xs at (entry_bytes (new_entry key r))
unfolding entry_bytes versions_bytes
entry_put xs at key r h =
    rw (splice_then xs at (bytes_of 4 (length key)) (at + 4) (bytes_of 4 1) (simp length_bytes_of (omega arith)) (simp length_bytes_of (omega arith)))
    (rw (splice_then xs at (bytes_of 4 (length key) ++ bytes_of 4 1) (at + 8) key (simp (length-append, length_bytes_of) (omega arith)) (simp (length-append, length_bytes_of) (omega arith)))
    (rw (splice_then xs at (bytes_of 4 (length key) ++ bytes_of 4 1 ++ key) (at + 8 + length key) (version_bytes r) (simp (length-append, length_bytes_of) (omega arith)) (simp (length-append, length_bytes_of) (omega arith)))
    (simp (append_assoc, append-nil))))
