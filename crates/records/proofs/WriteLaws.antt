-- A table that is written is read again, behind any front and before any rest; so no two tables have the same bytes. Assumes nothing.
use Prim.Native.Nat.{ℕ, ◌+◌, ◌*◌}
use native.Mathlib.Omega.{arith}
use mathlib.Core.Path.{◌≡◌, refl, sym, ap, ◌∙◌}
use mathlib.Core.List.{List, [], ◌∷◌, ◌++◌, append_assoc}
use lib.ListN.{length, get_or, take, drop, length-append}
use lib.Seq.{get_or_at, drop_at, drop-append_seam, take-append_seam}
use Rattle.laws.specs.Each.{Each}
use Rattle.laws.specs.Each.Each.{each_more}
use Rattle.words.specs.Field.{le, bytes_of}
use Rattle.words.proofs.Laws.{length_bytes_of}
use Rattle.words.proofs.WrittenLaws.{le_written}
use Rattle.records.specs.declared.Record.{Record}
use Rattle.records.specs.Model.{Entry, kind_byte, version_bytes, versions_bytes, entry_bytes, table_bytes}
use Rattle.records.specs.Places.{key_at, record_at, versions_from, entry_at, entries_from, next_entry, entry_place}
use Rattle.records.specs.Tables.{RecordFits, EntryFits, TableFits}
use Rattle.records.proofs.KindLaws.{kind_back}

-- ---- sizes

pub version_size : (r : Record) → length (version_bytes r) ≡ 21
unfolding version_bytes
version_size r = simp (length-append, length_bytes_of)

pub versions_size : (rs : List Record) → length (versions_bytes rs) ≡ 21 * length rs
unfolding versions_bytes
versions_size [] = refl
versions_size (r ∷ rs) = length-append (version_bytes r) (versions_bytes rs) ∙ omega (arith, version_size r, versions_size rs)

pub entry_size : (e : Entry) → length (entry_bytes e) ≡ 8 + length e.key + 21 * length e.versions
unfolding entry_bytes
entry_size e = simp (length-append, length_bytes_of, versions_size) (omega arith)

-- ---- one version

module _ (r : Record) (xs ys : List ℕ) (f : RecordFits r) where
  pub back_sequence : le 8 (xs ++ (version_bytes r ++ ys)) (length xs) ≡ r.sequence
  unfolding version_bytes
  back_sequence =
      le_written 8 r.sequence (length xs) _ xs (kind_byte r.kind ∷ (bytes_of 4 r.length ++ (bytes_of 8 r.offset ++ ys))) f.sequence_fits refl (simp append_assoc)

  pub back_kind : get_or (xs ++ (version_bytes r ++ ys)) (length xs + 8) 0 ≡ kind_byte r.kind
  unfolding version_bytes
  back_kind =
      let q : xs ++ (version_bytes r ++ ys) ≡ (xs ++ bytes_of 8 r.sequence) ++ (kind_byte r.kind ∷ (bytes_of 4 r.length ++ (bytes_of 8 r.offset ++ ys))) = simp append_assoc in
      ap (λ (z : List ℕ). get_or z (length xs + 8) 0) q
      ∙ get_or_at (xs ++ bytes_of 8 r.sequence) (kind_byte r.kind) (bytes_of 4 r.length ++ (bytes_of 8 r.offset ++ ys)) 0 (length xs + 8) (simp (length-append, length_bytes_of))

  pub back_length : le 4 (xs ++ (version_bytes r ++ ys)) (length xs + 9) ≡ r.length
  unfolding version_bytes
  back_length =
      le_written 4 r.length (length xs + 9) _ (xs ++ (bytes_of 8 r.sequence ++ (kind_byte r.kind ∷ []))) (bytes_of 8 r.offset ++ ys) f.length_fits
      (simp (length-append, length_bytes_of)) (simp append_assoc)

  pub back_offset : le 8 (xs ++ (version_bytes r ++ ys)) (length xs + 13) ≡ r.offset
  unfolding version_bytes
  back_offset =
      le_written 8 r.offset (length xs + 13) _ (xs ++ (bytes_of 8 r.sequence ++ (kind_byte r.kind ∷ bytes_of 4 r.length))) ys f.offset_fits
      (simp (length-append, length_bytes_of)) (simp append_assoc)

  pub back_record : record_at (xs ++ (version_bytes r ++ ys)) (length xs) ≡ r
  unfolding record_at
  back_record = rw (back_sequence, back_kind, back_length, back_offset, kind_back)

-- ---- the versions

pub back_versions : (rs : List Record) (xs ys : List ℕ) → Each RecordFits rs → versions_from (xs ++ (versions_bytes rs ++ ys)) (length xs) (length rs) ≡ rs
unfolding versions_from versions_bytes
back_versions [] xs ys f = refl
back_versions (r ∷ rs) xs ys (each_more g f) =
    let zs = xs ++ ((version_bytes r ++ versions_bytes rs) ++ ys) in
    let q : zs ≡ xs ++ (version_bytes r ++ (versions_bytes rs ++ ys)) = simp append_assoc in
    let s : zs ≡ (xs ++ version_bytes r) ++ (versions_bytes rs ++ ys) = simp append_assoc in
    let l : length (xs ++ version_bytes r) ≡ length xs + 21 = simp (length-append, version_size) in
    let here : record_at zs (length xs) ≡ r = ap (λ (z : List ℕ). record_at z (length xs)) q ∙ back_record r xs (versions_bytes rs ++ ys) g in
    let rest : versions_from zs (length xs + 21) (length rs) ≡ rs =
    ap (λ (z : List ℕ). versions_from z (length xs + 21) (length rs)) s
    ∙ ap (λ (n : ℕ). versions_from ((xs ++ version_bytes r) ++ (versions_bytes rs ++ ys)) n (length rs)) (sym l)
    ∙ back_versions rs (xs ++ version_bytes r) ys f in
    ap (λ (x : Record). x ∷ versions_from zs (length xs + 21) (length rs)) here ∙ ap (λ (x : List Record). r ∷ x) rest

-- ---- one entry

split_entry : (e : Entry) (xs ys : List ℕ)
    → xs ++ (entry_bytes e ++ ys) ≡ (xs ++ (bytes_of 4 (length e.key) ++ bytes_of 4 (length e.versions))) ++ (e.key ++ (versions_bytes e.versions ++ ys))
unfolding entry_bytes
split_entry e xs ys = simp append_assoc

module _ (e : Entry) (xs ys : List ℕ) (f : EntryFits e) where
  pub back_head : le 4 (xs ++ (entry_bytes e ++ ys)) (length xs) ≡ length e.key
  unfolding entry_bytes
  back_head =
      le_written 4 (length e.key) (length xs) _ xs (bytes_of 4 (length e.versions) ++ (e.key ++ (versions_bytes e.versions ++ ys))) f.key_fits refl (simp append_assoc)

  pub back_count : le 4 (xs ++ (entry_bytes e ++ ys)) (length xs + 4) ≡ length e.versions
  unfolding entry_bytes
  back_count =
      le_written 4 (length e.versions) (length xs + 4) _ (xs ++ bytes_of 4 (length e.key)) (e.key ++ (versions_bytes e.versions ++ ys)) f.count_fits
      (simp (length-append, length_bytes_of)) (simp append_assoc)

  pub back_key : key_at (xs ++ (entry_bytes e ++ ys)) (length xs) ≡ e.key
  unfolding key_at
  back_key =
      rw back_head
      (ap (λ (z : List ℕ). take (length e.key) (drop (length xs + 8) z)) (split_entry e xs ys)
      ∙ ap (take (length e.key)) (drop_at (xs ++ (bytes_of 4 (length e.key) ++ bytes_of 4 (length e.versions))) (e.key ++ (versions_bytes e.versions ++ ys)) (length xs + 8) (simp (length-append, length_bytes_of)))
      ∙ take-append_seam e.key (versions_bytes e.versions ++ ys))

  back_list : versions_from (xs ++ (entry_bytes e ++ ys)) (length xs + 8 + length e.key) (length e.versions) ≡ e.versions
  unfolding entry_bytes
  back_list =
      let ws = xs ++ (bytes_of 4 (length e.key) ++ (bytes_of 4 (length e.versions) ++ e.key)) in
      let s : xs ++ (entry_bytes e ++ ys) ≡ ws ++ (versions_bytes e.versions ++ ys) = simp append_assoc in
      let l : length ws ≡ length xs + 8 + length e.key = simp (length-append, length_bytes_of) (omega arith) in
      ap (λ (z : List ℕ). versions_from z (length xs + 8 + length e.key) (length e.versions)) s
      ∙ ap (λ (n : ℕ). versions_from (ws ++ (versions_bytes e.versions ++ ys)) n (length e.versions)) (sym l)
      ∙ back_versions e.versions ws ys f.versions_fit

  pub back_entry : entry_at (xs ++ (entry_bytes e ++ ys)) (length xs) ≡ e
  unfolding entry_at
  back_entry = rw (back_key, back_head, back_count, back_list)

  pub back_next : next_entry (xs ++ (entry_bytes e ++ ys)) (length xs) ≡ length (xs ++ entry_bytes e)
  back_next = rw (back_head, back_count) (omega (arith, length-append xs (entry_bytes e), entry_size e))

-- ---- the table

-- THEOREM: a table that is written is read again
pub back_table : (t : List Entry) (xs ys : List ℕ) → TableFits t → entries_from (xs ++ (table_bytes t ++ ys)) (length xs) (length t) ≡ t
unfolding entries_from table_bytes
back_table [] xs ys f = refl
back_table (e ∷ es) xs ys (each_more g f) =
    let zs = xs ++ ((entry_bytes e ++ table_bytes es) ++ ys) in
    let q : zs ≡ xs ++ (entry_bytes e ++ (table_bytes es ++ ys)) = simp append_assoc in
    let s : zs ≡ (xs ++ entry_bytes e) ++ (table_bytes es ++ ys) = simp append_assoc in
    let here : entry_at zs (length xs) ≡ e = ap (λ (z : List ℕ). entry_at z (length xs)) q ∙ back_entry e xs (table_bytes es ++ ys) g in
    let next : next_entry zs (length xs) ≡ length (xs ++ entry_bytes e) = ap (λ (z : List ℕ). next_entry z (length xs)) q ∙ back_next e xs (table_bytes es ++ ys) g in
    let rest : entries_from zs (next_entry zs (length xs)) (length es) ≡ es =
    ap (λ (n : ℕ). entries_from zs n (length es)) next
    ∙ ap (λ (z : List ℕ). entries_from z (length (xs ++ entry_bytes e)) (length es)) s
    ∙ back_table es (xs ++ entry_bytes e) ys f in
    ap (λ (x : Entry). x ∷ entries_from zs (next_entry zs (length xs)) (length es)) here ∙ ap (λ (x : List Entry). e ∷ x) rest

-- its entries end where its bytes do
pub back_end : (t : List Entry) (xs ys : List ℕ) → TableFits t → entry_place (xs ++ (table_bytes t ++ ys)) (length xs) (length t) ≡ length xs + length (table_bytes t)
unfolding entry_place table_bytes
back_end [] xs ys f = omega arith
back_end (e ∷ es) xs ys (each_more g f) =
    let zs = xs ++ ((entry_bytes e ++ table_bytes es) ++ ys) in
    let q : zs ≡ xs ++ (entry_bytes e ++ (table_bytes es ++ ys)) = simp append_assoc in
    let s : zs ≡ (xs ++ entry_bytes e) ++ (table_bytes es ++ ys) = simp append_assoc in
    let next : next_entry zs (length xs) ≡ length (xs ++ entry_bytes e) = ap (λ (z : List ℕ). next_entry z (length xs)) q ∙ back_next e xs (table_bytes es ++ ys) g in
    ap (λ (n : ℕ). entry_place zs n (length es)) next
    ∙ ap (λ (z : List ℕ). entry_place z (length (xs ++ entry_bytes e)) (length es)) s
    ∙ back_end es (xs ++ entry_bytes e) ys f
    ∙ omega (arith, length-append xs (entry_bytes e), length-append (entry_bytes e) (table_bytes es))

-- an entry with what follows it, in two ways, is one entry
entry_same : (e f : Entry) (xs ys : List ℕ) → EntryFits e → EntryFits f → entry_bytes e ++ xs ≡ entry_bytes f ++ ys → e ≡ f
entry_same e f xs ys g h q =
    sym (back_entry e [] xs g) ∙ ap (λ (z : List ℕ). entry_at z 0) q ∙ back_entry f [] ys h

-- THEOREM: no two tables have the same bytes
pub table_unique : (s t : List Entry) → TableFits s → TableFits t → table_bytes s ≡ table_bytes t → s ≡ t
unfolding table_bytes
table_unique [] [] f g q = refl
table_unique [] (e ∷ es) f g q = absurd (omega (arith, ap length q, length-append (entry_bytes e) (table_bytes es), entry_size e))
table_unique (e ∷ es) [] f g q = absurd (omega (arith, ap length q, length-append (entry_bytes e) (table_bytes es), entry_size e))
table_unique (e ∷ es) (d ∷ ds) (each_more f fs) (each_more g gs) q =
    let same : e ≡ d = entry_same e d (table_bytes es) (table_bytes ds) f g q in
    let rest : table_bytes es ≡ table_bytes ds =
    sym (drop-append_seam (entry_bytes e) (table_bytes es))
    ∙ ap (drop (length (entry_bytes e))) (q ∙ ap (λ (x : Entry). entry_bytes x ++ table_bytes ds) (sym same))
    ∙ drop-append_seam (entry_bytes e) (table_bytes ds) in
    ap (λ (x : Entry). x ∷ es) same ∙ ap (λ (x : List Entry). d ∷ x) (table_unique es ds fs gs rest)
