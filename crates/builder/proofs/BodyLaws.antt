-- The bytes of a table by its last entry: read there, its count raised, a version more, the last offset set. Assumes nothing.
use Prim.Native.Nat.{ℕ, ◌+◌, ◌*◌}
use mathlib.Core.Path.{◌≡◌, refl, sym, ap, ◌∙◌}
use mathlib.Core.List.{List, [], ◌∷◌, ◌++◌, append_assoc, append-nil}
use native.Mathlib.Omega.{arith}
use lib.ListN.{length, take, drop, length-append}
use lib.Seq.{take_at, drop_at}
use Rattle.words.specs.Field.{bytes_of, splice}
use Rattle.words.proofs.Laws.{length_bytes_of}
use Rattle.records.specs.declared.Record.{Record}
use Rattle.records.specs.Model.{Entry, kind_byte, version_bytes, versions_bytes, entry_bytes, table_bytes}
use Rattle.records.proofs.WriteLaws.{versions_size}
use Rattle.builder.specs.Taken.{entry, with_offset}

-- a part put in the place of another of its length
pub splice_middle : (xs ys zs ws : List ℕ) (at : ℕ) → at ≡ length xs → length ws ≡ length ys → splice (xs ++ (ys ++ zs)) at ws ≡ xs ++ (ws ++ zs)
unfolding splice
splice_middle xs ys zs ws at e l =
    let front : take at (xs ++ (ys ++ zs)) ≡ xs = take_at xs (ys ++ zs) at (sym e) in
    let s : length (xs ++ ys) ≡ at + length ws = simp length-append (omega arith) in
    let back : drop (at + length ws) (xs ++ (ys ++ zs)) ≡ zs =
    ap (drop (at + length ws)) (sym (append_assoc xs ys zs)) ∙ drop_at (xs ++ ys) zs (at + length ws) s in
    rw (front, back) (append_assoc xs ws zs)

pub versions_append : (rs ss : List Record) → versions_bytes (rs ++ ss) ≡ versions_bytes rs ++ versions_bytes ss
unfolding versions_bytes
versions_append [] ss = refl
versions_append (r ∷ rs) ss = rw (versions_append rs ss) (sym (append_assoc (version_bytes r) (versions_bytes rs) (versions_bytes ss)))

pub table_append : (es fs : List Entry) → table_bytes (es ++ fs) ≡ table_bytes es ++ table_bytes fs
unfolding table_bytes
table_append [] fs = refl
table_append (e ∷ es) fs = rw (table_append es fs) (sym (append_assoc (entry_bytes e) (table_bytes es) (table_bytes fs)))

pub table_last : (front : List Entry) (e : Entry) → table_bytes (front ++ (e ∷ [])) ≡ table_bytes front ++ entry_bytes e
unfolding table_bytes
table_last front e = table_append front (e ∷ []) ∙ ap (λ (l : List ℕ). table_bytes front ++ l) (append-nil (entry_bytes e))

module _ (front : List Entry) (key : List ℕ) where
  -- the bytes of a table whose last entry has this key and these versions, with a count of its own
  pub body : List Record → ℕ → List ℕ
  body versions count = (table_bytes front ++ bytes_of 4 (length key)) ++ (bytes_of 4 count ++ (key ++ versions_bytes versions))

  pub body_table : (versions : List Record) → table_bytes (front ++ (entry key versions ∷ [])) ≡ body versions (length versions)
  unfolding body entry_bytes
  body_table versions = table_last front (entry key versions) ∙ sym (append_assoc (table_bytes front) _ _)

  pub body_more : (versions : List Record) (r : Record) (count : ℕ) → body (versions ++ (r ∷ [])) count ≡ body versions count ++ version_bytes r
  unfolding body versions_bytes
  body_more versions r count = rw (versions_append versions (r ∷ [])) (simp (append_assoc, append-nil))

  pub body_length_lem : (versions : List Record) (count : ℕ) → length (body versions count) ≡ length (table_bytes front) + 8 + length key + 21 * length versions
  unfolding body
  body_length_lem versions count = simp (length-append, length_bytes_of, versions_size) (omega arith)

  -- the count raised
  pub body_count : (versions : List Record) (count new : ℕ) (rest : List ℕ) → splice (body versions count ++ rest) (length (table_bytes front) + 4) (bytes_of 4 new) ≡ body versions new ++ rest
  unfolding body
  body_count versions count new rest =
      let a = table_bytes front ++ bytes_of 4 (length key) in
      let z = key ++ versions_bytes versions in
      ap (λ (l : List ℕ). splice l (length (table_bytes front) + 4) (bytes_of 4 new)) (append_assoc a (bytes_of 4 count ++ z) rest ∙ ap (λ (l : List ℕ). a ++ l) (append_assoc (bytes_of 4 count) z rest))
      ∙ splice_middle a (bytes_of 4 count) (z ++ rest) (bytes_of 4 new) (length (table_bytes front) + 4) (simp (length-append, length_bytes_of)) (simp length_bytes_of)
      ∙ simp append_assoc

-- a version's bytes before its offset
abbrev unset : Record → List ℕ
unset r = bytes_of 8 r.sequence ++ (kind_byte r.kind ∷ bytes_of 4 r.length)

-- the offset of a last version set
pub version_offset : (xs : List ℕ) (r : Record) (rest : List ℕ) (offset at : ℕ) → at ≡ length xs + 13 → splice ((xs ++ version_bytes r) ++ rest) at (bytes_of 8 offset) ≡ (xs ++ version_bytes (with_offset offset r)) ++ rest
unfolding version_bytes
version_offset xs r rest offset at e =
    let l : at ≡ length (xs ++ unset r) = simp (length-append, length_bytes_of) (omega arith) in
    let q : (xs ++ version_bytes r) ++ rest ≡ (xs ++ unset r) ++ (bytes_of 8 r.offset ++ rest) = simp append_assoc in
    ap (λ (z : List ℕ). splice z at (bytes_of 8 offset)) q
    ∙ splice_middle (xs ++ unset r) (bytes_of 8 r.offset) rest (bytes_of 8 offset) at l (simp length_bytes_of)
    ∙ simp append_assoc
