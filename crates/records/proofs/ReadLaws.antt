-- What is read of bytes that pass: their bytes are those of the table read, its keys rise, its sequences fall, it keeps the rules. Assumes nothing.
use Prim.Native.Nat.{ℕ, zero, suc, ◌+◌, ◌-◌, ◌*◌, ◌≤◌}
use native.Mathlib.Omega.{arith}
use mathlib.Core.Path.{◌≡◌, refl, sym, ap, ◌∙◌}
use mathlib.Core.List.{List, ◌∷◌, ◌++◌, append_assoc}
use mathlib.Core.Bool.{true, false}
use lib.ListN.{length, take, drop, length-append, length-drop}
use lib.Seq.{drop-cons, length-take-le, take_at}
use lib.Dec.{ltb, eqb}
use borrow.Author.Tests.{ltb-true, eqb-true, eq-eqb, not-false}
use Rattle.laws.specs.Each.{Each}
use Rattle.laws.specs.Each.Each.{each_none, each_more}
use Rattle.laws.proofs.RefusalLaws.{or_else_zero}
use Rattle.words.specs.Field.{le, bytes_of}
use Rattle.words.specs.Part.{order_of}
use Rattle.words.proofs.Laws.{le_lt}
use Rattle.words.specs.Field.{AllBytes}
use Rattle.words.proofs.WrittenLaws.{part_rest, read_rest}
use Rattle.records.specs.Limits.{DataLength}
use Rattle.records.specs.Model.{kind_byte, version_bytes, versions_bytes, entry_bytes, table_bytes, Falls, Rises}
use Rattle.records.specs.Model.Falls.{falls_none, falls_one, falls_more}
use Rattle.records.specs.Model.Rises.{rises_none, rises_one, rises_more}
use Rattle.records.specs.Places.{key_length, version_count, key_at, first_version, next_entry, sequence_at, kind_at, length_at, kind_of, record_at, versions_from, entry_at, entries_from, entry_place}
use Rattle.records.specs.Rules.{bad_kind, full_tombstone, version_refusal, versions_refusal}
use Rattle.records.specs.Tables.{RecordRules, EntryRules, TableRules}
use Rattle.records.proofs.ModelLaws.{less_is}
use Rattle.records.proofs.KindLaws.{kind_byte_lem, tombstone_two}
use Rattle.records.proofs.RuleLaws.{Versioned, versioned, Entered, key_next, sequence_next}
use Rattle.records.proofs.PassedLaws.{Passed, passed_end}
use Rattle.records.proofs.PassedLaws.Passed.{passed_more}

pub versions_count : (bytes : List ℕ) (p k : ℕ) → length (versions_from bytes p k) ≡ k
unfolding versions_from
versions_count bytes p zero = refl
versions_count bytes p (suc k) = ap suc (versions_count bytes (p + 21) k)

pub key_length_lem : (bytes : List ℕ) (p : ℕ) → first_version bytes p ≤ length bytes → length (key_at bytes p) ≡ key_length bytes p
unfolding key_at
key_length_lem bytes p h = length-take-le (key_length bytes p) (drop (p + 8) bytes) (rw length-drop (omega arith))

-- ---- the bytes

module _ (bytes : List ℕ) (test : DataLength) (all : AllBytes bytes) where
  kind_rest : (p : ℕ) → p + 21 ≤ length bytes → bad_kind (kind_at bytes p) ≡ false → kind_byte (kind_of (kind_at bytes p)) ∷ drop (p + 9) bytes ≡ drop (p + 8) bytes
  kind_rest p h e =
      let n : suc (p + 8) ≡ p + 9 = omega arith in
      ap (λ (k : ℕ). k ∷ drop (p + 9) bytes) (kind_byte_lem (kind_at bytes p) e)
      ∙ ap (λ (k : ℕ). kind_at bytes p ∷ drop k bytes) (sym n)
      ∙ sym (drop-cons bytes (p + 8) 0 (omega arith))

  version_read : (prev p : ℕ) → Versioned bytes test prev p → version_bytes (record_at bytes p) ++ drop (p + 21) bytes ≡ drop p bytes
  unfolding version_bytes record_at
  version_read prev p v =
      simp append_assoc
      (ap (λ (r : List ℕ). bytes_of 8 (le 8 bytes p) ++ (kind_byte (kind_of (kind_at bytes p)) ∷ (bytes_of 4 (le 4 bytes (p + 9)) ++ r)))
      (read_rest 8 bytes (p + 13) (p + 21) all v.fits (omega arith))
      ∙ ap (λ (r : List ℕ). bytes_of 8 (le 8 bytes p) ++ (kind_byte (kind_of (kind_at bytes p)) ∷ r)) (read_rest 4 bytes (p + 9) (p + 13) all (omega arith) (omega arith))
      ∙ ap (λ (r : List ℕ). bytes_of 8 (le 8 bytes p) ++ r) (kind_rest p v.fits v.kind)
      ∙ read_rest 8 bytes p (p + 8) all (omega arith) refl)

  versions_read : (k prev p : ℕ) → versions_refusal bytes test prev p k ≡ 0 → versions_bytes (versions_from bytes p k) ++ drop (p + 21 * k) bytes ≡ drop p bytes
  unfolding versions_refusal versions_bytes versions_from
  versions_read zero prev p e = let z : p + 21 * 0 ≡ p = omega arith in ap (λ (n : ℕ). drop n bytes) z
  versions_read (suc k) prev p e =
      let s = or_else_zero (version_refusal bytes test prev p) (versions_refusal bytes test p (p + 21) k) e in
      let n : p + 21 * suc k ≡ p + 21 + 21 * k = omega arith in
      ap (λ (m : ℕ). (version_bytes (record_at bytes p) ++ versions_bytes (versions_from bytes (p + 21) k)) ++ drop m bytes) n
      ∙ append_assoc (version_bytes (record_at bytes p)) (versions_bytes (versions_from bytes (p + 21) k)) (drop (p + 21 + 21 * k) bytes)
      ∙ ap (λ (r : List ℕ). version_bytes (record_at bytes p) ++ r) (versions_read k p (p + 21) s.1)
      ∙ version_read prev p (versioned bytes test prev p s.0)

  key_read : (p : ℕ) → key_at bytes p ++ drop (first_version bytes p) bytes ≡ drop (p + 8) bytes
  unfolding key_at
  key_read p = part_rest (key_length bytes p) (p + 8) (first_version bytes p) bytes refl

  module _ (slots : ℕ → ℕ) where
    entry_read : (prev p : ℕ) → Entered slots bytes test prev p → entry_bytes (entry_at bytes p) ++ drop (next_entry bytes p) bytes ≡ drop p bytes
    unfolding entry_bytes entry_at
    entry_read prev p r =
        simp (append_assoc, key_length_lem bytes p r.key.whole, versions_count bytes (first_version bytes p) (version_count bytes p))
        (ap (λ (x : List ℕ). bytes_of 4 (le 4 bytes p) ++ (bytes_of 4 (le 4 bytes (p + 4)) ++ (key_at bytes p ++ x))) (versions_read (version_count bytes p) (first_version bytes p) (first_version bytes p) r.versions)
        ∙ ap (λ (x : List ℕ). bytes_of 4 (le 4 bytes p) ++ (bytes_of 4 (le 4 bytes (p + 4)) ++ x)) (key_read p)
        ∙ ap (λ (x : List ℕ). bytes_of 4 (le 4 bytes p) ++ x) (read_rest 4 bytes (p + 4) (p + 8) all r.key.head (omega arith))
        ∙ read_rest 4 bytes p (p + 4) all (let h = r.key.head in omega arith) refl)

    table_read : (prev p n : ℕ) → Passed slots bytes test prev p n → table_bytes (entries_from bytes p n) ++ drop (entry_place bytes p n) bytes ≡ drop p bytes
    unfolding table_bytes entries_from entry_place
    table_read prev p zero r = refl
    table_read prev p (suc n) (passed_more e r) =
        append_assoc (entry_bytes (entry_at bytes p)) (table_bytes (entries_from bytes (next_entry bytes p) n)) (drop (entry_place bytes (next_entry bytes p) n) bytes)
        ∙ ap (λ (x : List ℕ). entry_bytes (entry_at bytes p) ++ x) (table_read p (next_entry bytes p) n r)
        ∙ entry_read prev p e

    -- THEOREM: the bytes of keys that pass are those of the table that is read
    pub passed_bytes : (prev p n : ℕ) → p ≤ length bytes → Passed slots bytes test prev p n
        → take (entry_place bytes p n - p) (drop p bytes) ≡ table_bytes (entries_from bytes p n)
    passed_bytes prev p n h r =
        let e = table_read prev p n r in
        let i = passed_end r h in
        let l : length (table_bytes (entries_from bytes p n)) ≡ entry_place bytes p n - p = omega (arith, simp (length-append, length-drop) at (ap length e)) in
        ap (take (entry_place bytes p n - p)) (sym e)
        ∙ take_at (table_bytes (entries_from bytes p n)) (drop (entry_place bytes p n) bytes) (entry_place bytes p n - p) l

  -- ---- the rules

  full_empty : (kind size : ℕ) → full_tombstone kind size ≡ false → kind ≡ 2 → size ≡ 0
  full_empty kind size e k = eqb-true size 0 (not-false (eqb size 0) (rw (eq-eqb kind 2 k) at e))

  version_rules : (prev p : ℕ) → Versioned bytes test prev p → RecordRules test (record_at bytes p)
  unfolding record_at
  version_rules prev p v =
      record {
        fits = record { sequence_fits = le_lt 8 bytes p all; length_fits = le_lt 4 bytes (p + 9) all; offset_fits = le_lt 8 bytes (p + 13) all };
        small = v.small;
        inside = v.inside;
        empty = λ z. full_empty (kind_at bytes p) (length_at bytes p) v.empty (tombstone_two (kind_at bytes p) v.kind z);
      }

  pub versions_rules : (k prev p : ℕ) → versions_refusal bytes test prev p k ≡ 0 → Each (RecordRules test) (versions_from bytes p k)
  unfolding versions_refusal versions_from
  versions_rules zero prev p e = each_none
  versions_rules (suc k) prev p e =
      let s = or_else_zero (version_refusal bytes test prev p) _ e in
      each_more (version_rules prev p (versioned bytes test prev p s.0)) (versions_rules k p (p + 21) s.1)

-- sequences fall strictly
pub versions_fall : (bytes : List ℕ) (test : DataLength) (k prev p : ℕ) → versions_refusal bytes test prev p k ≡ 0 → Falls (versions_from bytes p k)
unfolding versions_refusal versions_from record_at
versions_fall bytes test zero prev p e = falls_none
versions_fall bytes test (suc zero) prev p e = falls_one
versions_fall bytes test (suc (suc k)) prev p e =
    let s = or_else_zero (version_refusal bytes test prev p) _ e in
    let t = or_else_zero (version_refusal bytes test p (p + 21)) _ s.1 in
    let n : p ≡ p + 21 → ⊥ = λ z. omega arith in
    let f : ltb (sequence_at bytes (p + 21)) (sequence_at bytes p) ≡ true = sym (sequence_next bytes p (p + 21) n) ∙ (versioned bytes test p (p + 21) t.0).falling in
    falls_more (ltb-true (sequence_at bytes (p + 21)) (sequence_at bytes p) f) (versions_fall bytes test (suc k) p (p + 21) s.1)

module _ {slots : ℕ → ℕ} {bytes : List ℕ} {test : DataLength} where
  -- keys rise strictly
  pub passed_rise : (prev p n : ℕ) → Passed slots bytes test prev p n → Rises (entries_from bytes p n)
  unfolding entries_from entry_at
  passed_rise prev p zero r = rises_none
  passed_rise prev p (suc zero) r = rises_one
  passed_rise prev p (suc (suc n)) (passed_more e (passed_more f r)) =
      let d : p ≡ next_entry bytes p → ⊥ = λ z. omega arith in
      rises_more (less_is (order_of (key_at bytes p) (key_at bytes (next_entry bytes p))) (sym (key_next bytes p (next_entry bytes p) d) ∙ f.key.rising)) (passed_rise p (next_entry bytes p) (suc n) (passed_more f r))

  entry_rules : (prev p : ℕ) → AllBytes bytes → Entered slots bytes test prev p → EntryRules test (entry_at bytes p)
  unfolding entry_at
  entry_rules prev p all r =
      let n = r.key.some in
      let v = version_count bytes p in
      let w = first_version bytes p in
      record {
        small = rw (key_length_lem bytes p r.key.whole) r.key.small;
        some = rw (versions_count bytes w v) (omega arith);
        few = rw (versions_count bytes w v) (le_lt 4 bytes (p + 4) all);
        falls = versions_fall bytes test v w w r.versions;
        versions = versions_rules bytes test all v w w r.versions;
      }

  entries_rules : (prev p n : ℕ) → AllBytes bytes → Passed slots bytes test prev p n → Each (EntryRules test) (entries_from bytes p n)
  unfolding entries_from
  entries_rules prev p zero all r = each_none
  entries_rules prev p (suc n) all (passed_more e r) = each_more (entry_rules prev p all e) (entries_rules p (next_entry bytes p) n all r)

  -- THEOREM: the table that is read of keys that pass keeps the rules
  pub passed_rules : (prev p n : ℕ) → AllBytes bytes → Passed slots bytes test prev p n → TableRules test (entries_from bytes p n)
  passed_rules prev p n all r = record { entries = entries_rules prev p n all r; rises = passed_rise prev p n r }
