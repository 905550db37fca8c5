-- A table that keeps the rules has bytes that pass, behind any front and before any rest. Assumes nothing.
use Prim.Native.Nat.{ℕ, suc, ◌+◌, ◌*◌, ◌<◌}
use native.Mathlib.Omega.{arith}
use mathlib.Core.Path.{◌≡◌, refl, ap, ◌∙◌}
use mathlib.Core.List.{List, [], ◌∷◌, ◌++◌, append_assoc}
use mathlib.Core.Bool.{true, false, not, or-true}
use lib.ListN.{length, length-append}
use lib.Dec.{eqb}
use borrow.Author.Tests.{eq-eqb, lt-ltb}
use Rattle.laws.specs.Each.{Each}
use Rattle.laws.specs.Each.Each.{each_more}
use Rattle.std.specs.declared.cmp.Ordering.TheVariants.{Less}
use Rattle.words.specs.Field.{le, bytes_of}
use Rattle.words.specs.Part.{order_of}
use Rattle.words.proofs.Laws.{length_bytes_of}
use Rattle.records.specs.declared.Kind.{Kind}
use Rattle.records.specs.declared.Kind.TheVariants.{Put, Tombstone}
use Rattle.records.specs.declared.Record.{Record}
use Rattle.records.specs.Limits.{DataLength}
use Rattle.records.specs.Model.{Entry, kind_byte, version_bytes, versions_bytes, entry_bytes, table_bytes, Falls, Rises}
use Rattle.records.specs.Model.Falls.{falls_more}
use Rattle.records.specs.Model.Rises.{rises_more}
use Rattle.records.specs.Places.{key_length, version_count, key_at, next_entry, sequence_at, kind_at, length_at, offset_at, entry_place}
use Rattle.records.specs.Rules.{key_rises, bad_kind, full_tombstone, sequence_falls, versions_refusal}
use Rattle.records.specs.Tables.{RecordRules, EntryRules, TableRules}
use Rattle.records.proofs.KindLaws.{kind_good}
use Rattle.records.proofs.RuleLaws.{Versioned, version_passes, Entered, key_first, sequence_first}
use Rattle.records.proofs.TableLaws.{entry_fits}
use Rattle.records.proofs.PassedLaws.{Passed}
use Rattle.records.proofs.PassedLaws.Passed.{passed_none, passed_more}
use Rattle.records.proofs.WriteLaws.{version_size, entry_size, back_sequence, back_kind, back_length, back_offset, back_head, back_count, back_key, back_next}

full_ok : (k : Kind) (size : ℕ) → (k ≡ Tombstone → size ≡ 0) → full_tombstone (kind_byte k) size ≡ false
full_ok Put size t = refl
full_ok Tombstone size t = ap not (eq-eqb size 0 (t refl))

module _ (test : DataLength) (zs : List ℕ) where
  -- one version
  version_accept : (r : Record) (xs ys : List ℕ) (prev p : ℕ) → zs ≡ xs ++ (version_bytes r ++ ys) → p ≡ length xs → RecordRules test r
      → sequence_falls zs prev p ≡ true → Versioned zs test prev p
  version_accept r xs ys prev p q e u h =
      let l : length zs ≡ length xs + (21 + length ys) = ap length q ∙ simp (length-append, version_size) in
      let k : kind_at zs p ≡ kind_byte r.kind = rw (q, e) (back_kind r xs ys u.fits) in
      let sl : length_at zs p ≡ r.length = rw (q, e) (back_length r xs ys u.fits) in
      let so : offset_at zs p ≡ r.offset = rw (q, e) (back_offset r xs ys u.fits) in
      record {
        fits = omega arith;
        kind = ap bad_kind k ∙ kind_good r.kind;
        small = rw sl u.small;
        inside = rw (sl, so) u.inside;
        empty = rw (k, sl) (full_ok r.kind r.length u.empty);
        falling = h;
      }

  sequence_ok : (prev p s t : ℕ) → sequence_at zs prev ≡ s → sequence_at zs p ≡ t → t < s → sequence_falls zs prev p ≡ true
  unfolding sequence_falls
  sequence_ok prev p s t es et l = rw (es, et, lt-ltb t s l) (or-true (eqb prev p))

  versions_accept : (rs : List Record) (xs ys : List ℕ) (prev p : ℕ) → zs ≡ xs ++ (versions_bytes rs ++ ys) → p ≡ length xs → Each (RecordRules test) rs → Falls rs
      → sequence_falls zs prev p ≡ true → versions_refusal zs test prev p (length rs) ≡ 0
  unfolding versions_refusal versions_bytes
  versions_accept [] xs ys prev p q e u g h = refl
  versions_accept (r ∷ []) xs ys prev p q e (each_more u us) g h =
      rw (version_passes zs test prev p (version_accept r xs ys prev p (q ∙ simp append_assoc) e u h))
  versions_accept (r ∷ (s ∷ rs)) xs ys prev p q e (each_more u (each_more v us)) (falls_more l g) h =
      let ws = version_bytes s ++ (versions_bytes rs ++ ys) in
      let q1 : zs ≡ xs ++ (version_bytes r ++ ws) = q ∙ simp append_assoc in
      let q2 : zs ≡ (xs ++ version_bytes r) ++ ((version_bytes s ++ versions_bytes rs) ++ ys) = q ∙ simp append_assoc in
      let q3 : zs ≡ (xs ++ version_bytes r) ++ (version_bytes s ++ (versions_bytes rs ++ ys)) = q ∙ simp append_assoc in
      let e2 : p + 21 ≡ length (xs ++ version_bytes r) = omega (arith, length-append xs (version_bytes r), version_size r) in
      let s1 : sequence_at zs p ≡ r.sequence = rw (q1, e) (back_sequence r xs ws u.fits) in
      let s2 : sequence_at zs (p + 21) ≡ s.sequence = ap (le 8 zs) e2 ∙ rw q3 (back_sequence s (xs ++ version_bytes r) (versions_bytes rs ++ ys) v.fits) in
      rw (version_passes zs test prev p (version_accept r xs ws prev p q1 e u h))
      (versions_accept (s ∷ rs) (xs ++ version_bytes r) ys p (p + 21) q2 e2 (each_more v us) g (sequence_ok p (p + 21) r.sequence s.sequence s1 s2 l))

  -- one entry
  module _ (e : Entry) (xs ys : List ℕ) (p : ℕ) (q : zs ≡ xs ++ (entry_bytes e ++ ys)) (at : p ≡ length xs) (u : EntryRules test e) where
    size_is : length zs ≡ length xs + (8 + length e.key + 21 * length e.versions + length ys)
    size_is = ap length q ∙ simp (length-append, entry_size)

    head_is : key_length zs p ≡ length e.key
    head_is = rw (q, at) (back_head e xs ys (entry_fits test e u))

    count_is : version_count zs p ≡ length e.versions
    count_is = rw (q, at) (back_count e xs ys (entry_fits test e u))

    key_is : key_at zs p ≡ e.key
    key_is = rw (q, at) (back_key e xs ys (entry_fits test e u))

    next_is : next_entry zs p ≡ length (xs ++ entry_bytes e)
    next_is = rw (q, at) (back_next e xs ys (entry_fits test e u))

    split : zs ≡ (xs ++ (bytes_of 4 (length e.key) ++ (bytes_of 4 (length e.versions) ++ e.key))) ++ (versions_bytes e.versions ++ ys)
    unfolding entry_bytes
    split = q ∙ simp append_assoc

    long : p + 8 + length e.key ≡ length (xs ++ (bytes_of 4 (length e.key) ++ (bytes_of 4 (length e.versions) ++ e.key)))
    long = simp (length-append, length_bytes_of) (omega arith)

    entry_accept : (slots : ℕ → ℕ) (prev : ℕ) → key_rises zs prev p ≡ true → slots p ≡ 0 → Entered slots zs test prev p
    entry_accept slots prev up slot =
        let l = size_is in
        let h = head_is in
        let n = count_is in
        let s = u.some in
        let v : versions_refusal zs test (p + 8 + length e.key) (p + 8 + length e.key) (length e.versions) ≡ 0 =
        versions_accept e.versions (xs ++ (bytes_of 4 (length e.key) ++ (bytes_of 4 (length e.versions) ++ e.key))) ys (p + 8 + length e.key) (p + 8 + length e.key) split long
        u.versions u.falls (sequence_first zs (p + 8 + length e.key) (p + 8 + length e.key) refl) in
        record {
          key = record { head = omega arith; small = rw h u.small; whole = omega arith; some = λ z. omega arith; rising = up };
          slot = slot;
          versions = rw (h, n) v;
          next = omega arith;
        }

  rises_ok : (prev p : ℕ) → order_of (key_at zs prev) (key_at zs p) ≡ Less → key_rises zs prev p ≡ true
  unfolding key_rises
  rises_ok prev p h = rw h (or-true (eqb prev p))

  -- the entries
  entries_accept : (slots : ℕ → ℕ) (t : List Entry) (xs ys : List ℕ) (prev p : ℕ) → zs ≡ xs ++ (table_bytes t ++ ys) → p ≡ length xs → Each (EntryRules test) t → Rises t
      → key_rises zs prev p ≡ true → ((i : ℕ) → i < length t → slots (entry_place zs p i) ≡ 0) → Passed slots zs test prev p (length t)
  unfolding table_bytes entry_place
  entries_accept slots [] xs ys prev p q at u g up s = passed_none
  entries_accept slots (e ∷ []) xs ys prev p q at (each_more u us) g up s =
      passed_more (entry_accept e xs ys p (q ∙ simp append_assoc) at u slots prev up (s 0 (omega arith))) passed_none
  entries_accept slots (e ∷ (f ∷ es)) xs ys prev p q at (each_more u (each_more v us)) (rises_more b g) up s =
      let q1 : zs ≡ xs ++ (entry_bytes e ++ ((entry_bytes f ++ table_bytes es) ++ ys)) = q ∙ simp append_assoc in
      let q2 : zs ≡ (xs ++ entry_bytes e) ++ ((entry_bytes f ++ table_bytes es) ++ ys) = q ∙ simp append_assoc in
      let q3 : zs ≡ (xs ++ entry_bytes e) ++ (entry_bytes f ++ (table_bytes es ++ ys)) = q ∙ simp append_assoc in
      let n = next_is e xs ((entry_bytes f ++ table_bytes es) ++ ys) p q1 at u in
      let k1 = key_is e xs ((entry_bytes f ++ table_bytes es) ++ ys) p q1 at u in
      let k2 = key_is f (xs ++ entry_bytes e) (table_bytes es ++ ys) (next_entry zs p) q3 n v in
      passed_more (entry_accept e xs ((entry_bytes f ++ table_bytes es) ++ ys) p q1 at u slots prev up (s 0 (omega arith)))
      (entries_accept slots (f ∷ es) (xs ++ entry_bytes e) ys p (next_entry zs p) q2 n (each_more v us) g
      (rises_ok p (next_entry zs p) (rw (k1, k2) b)) (λ i l. s (suc i) (omega arith)))

-- THEOREM: the entries of a table that keeps the rules pass, wherever its bytes stand, where their slots do
pub table_passes : (test : DataLength) (slots : ℕ → ℕ) (t : List Entry) (xs ys : List ℕ) → TableRules test t
    → ((i : ℕ) → i < length t → slots (entry_place (xs ++ (table_bytes t ++ ys)) (length xs) i) ≡ 0)
    → Passed slots (xs ++ (table_bytes t ++ ys)) test (length xs) (length xs) (length t)
table_passes test slots t xs ys u s =
    entries_accept test (xs ++ (table_bytes t ++ ys)) slots t xs ys (length xs) (length xs) refl refl u.entries u.rises
    (key_first (xs ++ (table_bytes t ++ ys)) (length xs) (length xs) refl) s
