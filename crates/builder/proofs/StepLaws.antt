-- A table stays held: by a new key, by a continued key, by a set offset. Assumes nothing.
use Rattle.std.specs.Prelude.{None}
use Prim.Native.Nat.{ℕ, ◌+◌, ◌-◌, ◌^◌, ◌≤◌, ◌<◌}
use mathlib.Core.Path.{◌≡◌, refl, sym, ap, ◌∙◌}
use mathlib.Core.Bool.{false}
use mathlib.Core.List.{List, [], ◌∷◌, ◌++◌}
use native.Mathlib.Omega.{arith}
use borrow.Author.Tests.{eqb-true, eq-eqb, not-false}
use lib.Dec.{eqb}
use lib.ListN.{length, take, drop, length-append, take-append-drop}
use lib.Seq.{length-take-le, take_at}
use Rattle.laws.specs.Each.{Each}
use Rattle.laws.specs.Each.Each.{each_none, each_more}
use Rattle.numbers.specs.Limits.{most_key_bytes, most_keys, most_versions}
use Rattle.words.specs.Field.{bytes_of, splice}
use Rattle.words.proofs.Laws.{length_bytes_of, length_splice, take_splice_end}
use Rattle.records.specs.declared.Kind.{Kind}
use Rattle.records.specs.declared.Kind.TheVariants.{Put, Tombstone}
use Rattle.records.specs.declared.Record.{Record}
use Rattle.records.specs.Model.{Entry, kind_byte, version_bytes, entry_bytes, table_bytes, Rises, falls_one}
use Rattle.records.specs.Places.{version_count}
use Rattle.records.specs.Rules.{full_tombstone}
use Rattle.records.specs.Tables.{RecordRules, EntryRules, TableRules}
use Rattle.records.proofs.WriteLaws.{version_size, entry_size}
use Rattle.builder.specs.declared.PointBuilder.{PointBuilder}
use Rattle.builder.specs.Add.{Call, Sized, record_of, new_entry, new_state, continued_state, new_buffer, continued_buffer}
use Rattle.builder.specs.Taken.{entry, with_offset}
use Rattle.builder.proofs.ListLaws.{each_last, last_each, falls_on, falls_last, rises_last}
use Rattle.builder.proofs.BodyLaws.{table_last, body, body_table, body_more, body_length_lem, body_count, version_offset}
use Rattle.builder.proofs.HeldLaws.{Standing, entry_rules, read_count, bytes_before, behind, bytes_before_length}

-- ---- a record that passed keeps the rules

empty_valued : (kind : Kind) (size : ℕ) → full_tombstone (kind_byte kind) size ≡ false → kind ≡ Tombstone → size ≡ 0
empty_valued Put size v e = absurd (let z : ◌≡◌ {A = ℕ} 0 1 = cc in omega arith)
empty_valued Tombstone size v e = eqb-true size 0 (not-false (eqb size 0) v)

pub valued_empty : (kind : Kind) (size : ℕ) → (kind ≡ Tombstone → size ≡ 0) → full_tombstone (kind_byte kind) size ≡ false
valued_empty Put size e = refl
valued_empty Tombstone size e = rw (eq-eqb size 0 (e refl))

pub record_rules : {s : PointBuilder} {buffer : List ℕ} {call : Call} → Sized s buffer call → call.sequence < 2 ^ 64 → RecordRules None (record_of call)
record_rules {s} {buffer} {call} k q =
    record {
      fits = record { sequence_fits = q; length_fits = omega (arith, k.small); offset_fits = omega arith };
      small = k.small;
      inside = refl;
      empty = empty_valued call.kind call.size k.valued;
    }

-- ---- a new key

module _ (s : PointBuilder) (buffer key : List ℕ) (table : List Entry) (r : Record) where
  new_rules : length key ≤ most_key_bytes → RecordRules None r → EntryRules None (new_entry key r)
  new_rules h k = record { small = h; some = omega arith; few = omega arith; falls = falls_one; versions = each_more k each_none }

  pub new_stands : take s.used buffer ≡ table_bytes table → s.used + (29 + length key) ≤ length buffer → s.keys ≡ length table → s.keys < most_keys
      → length key ≤ most_key_bytes → RecordRules None r → Each (EntryRules None) table → Rises (table ++ (new_entry key r ∷ []))
      → Standing (new_state s key) (new_buffer s buffer key r) table key [] r
  unfolding new_buffer
  new_stands b room counted few h k each rising =
      let l : length (entry_bytes (new_entry key r)) ≡ 29 + length key = entry_size (new_entry key r) ∙ omega arith in
      let fit : s.used + length (entry_bytes (new_entry key r)) ≤ length buffer = rw l room in
      record {
        bytes =
            ap (λ (n : ℕ). take (s.used + n) (splice buffer s.used (entry_bytes (new_entry key r)))) (sym l)
            ∙ take_splice_end buffer s.used (entry_bytes (new_entry key r)) fit
            ∙ ap (λ (x : List ℕ). x ++ entry_bytes (new_entry key r)) b ∙ sym (table_last table (new_entry key r));
        inside = rw (length_splice buffer s.used (entry_bytes (new_entry key r)) fit) room;
        headed = sym (length-take-le s.used buffer (omega arith)) ∙ ap length b;
        counted = ap (λ (n : ℕ). n + 1) counted;
        few = omega arith;
        rules = record { entries = each_last table (new_entry key r) each (new_rules h k); rises = rising };
      }

-- ---- a continued key, and a set offset

module _ (s : PointBuilder) (buffer : List ℕ) (front : List Entry) (key : List ℕ) (before : List Record) (last : Record) (st : Standing s buffer front key before last) where
  -- the rules of the table with another last entry of the same key
  table_rules : (vs : List Record) → EntryRules None (entry key vs) → TableRules None (front ++ (entry key vs ∷ []))
  table_rules vs k =
      record {
        entries = each_last front (entry key vs) (last_each front (entry key (before ++ (last ∷ []))) st.rules.entries).0 k;
        rises = rises_last front (entry key (before ++ (last ∷ []))) (entry key vs) refl st.rules.rises;
      }

  module _ (r : Record) (k : RecordRules None r) (older-still : r.sequence < last.sequence) (countable : length (before ++ (last ∷ [])) < most_versions) where
    more_rules : EntryRules None (entry key ((before ++ (last ∷ [])) ++ (r ∷ [])))
    more_rules =
        let e = entry_rules s buffer front key before last st in
        record {
          small = e.small;
          some = rw length-append (omega arith);
          few = rw length-append (omega arith);
          falls = falls_on before last r e.falls older-still;
          versions = each_last (before ++ (last ∷ [])) r e.versions k;
        }

    -- the buffer with the count raised
    raised : List ℕ
    raised = body front key (before ++ (last ∷ [])) (length (before ++ (last ∷ [])) + 1) ++ drop s.used buffer

    used_body : (count : ℕ) → s.used ≡ length (body front key (before ++ (last ∷ [])) count)
    used_body count =
        sym (length-take-le s.used buffer st.inside) ∙ ap length (st.bytes ∙ body_table front key (before ++ (last ∷ [])))
        ∙ body_length_lem front key (before ++ (last ∷ [])) (length (before ++ (last ∷ []))) ∙ sym (body_length_lem front key (before ++ (last ∷ [])) count)

    raised_is : splice buffer (s.head + 4) (bytes_of 4 (version_count buffer s.head + 1)) ≡ raised
    unfolding raised
    raised_is =
        ap (λ (n : ℕ). splice buffer (s.head + 4) (bytes_of 4 (n + 1))) (read_count s buffer front key before last st)
        ∙ ap (λ (n : ℕ). splice buffer (n + 4) (bytes_of 4 (length (before ++ (last ∷ [])) + 1))) st.headed
        ∙ ap (λ (l : List ℕ). splice l (length (table_bytes front) + 4) (bytes_of 4 (length (before ++ (last ∷ [])) + 1))) (sym (take-append-drop s.used buffer) ∙ ap (λ (l : List ℕ). l ++ drop s.used buffer) (st.bytes ∙ body_table front key (before ++ (last ∷ []))))
        ∙ body_count front key (before ++ (last ∷ [])) (length (before ++ (last ∷ []))) (length (before ++ (last ∷ [])) + 1) (drop s.used buffer)

    raised_length : length raised ≡ length buffer
    raised_length =
        ap length (sym raised_is)
        ∙ length_splice buffer (s.head + 4) (bytes_of 4 (version_count buffer s.head + 1)) (rw length_bytes_of (omega (arith, st.inside, st.headed, used_body 0, body_length_lem front key (before ++ (last ∷ [])) 0)))

    pub continued_stands : s.used + 21 ≤ length buffer → Standing (continued_state s) (continued_buffer s buffer r) front key (before ++ (last ∷ [])) r
    unfolding continued_buffer raised
    continued_stands room =
        let vs = before ++ (last ∷ []) in
        let fit : s.used + length (version_bytes r) ≤ length raised = rw (version_size r, raised_length) room in
        let n : length (vs ++ (r ∷ [])) ≡ length vs + 1 = length-append vs (r ∷ []) in
        rw raised_is
        (record {
          bytes =
              ap (λ (m : ℕ). take (s.used + m) (splice raised s.used (version_bytes r))) (sym (version_size r))
              ∙ take_splice_end raised s.used (version_bytes r) fit
              ∙ ap (λ (x : List ℕ). x ++ version_bytes r) (take_at (body front key vs (length vs + 1)) (drop s.used buffer) s.used (sym (used_body (length vs + 1))))
              ∙ sym (body_more front key vs r (length vs + 1)) ∙ ap (body front key (vs ++ (r ∷ []))) (sym n) ∙ sym (body_table front key (vs ++ (r ∷ [])));
          inside = rw (length_splice raised s.used (version_bytes r) fit, raised_length) room;
          headed = st.headed;
          counted = st.counted;
          few = st.few;
          rules = table_rules (vs ++ (r ∷ [])) more_rules;
        })

  module _ (offset : ℕ) (h : offset < 2 ^ 64) where
    set_rules : EntryRules None (entry key (before ++ (with_offset offset last ∷ [])))
    set_rules =
        let e = entry_rules s buffer front key before last st in
        let p = last_each before last e.versions in
        let k = p.1 in
        let f = k.fits in
        let n : length (before ++ (with_offset offset last ∷ [])) ≡ length (before ++ (last ∷ [])) = simp length-append in
        record {
          small = e.small;
          some = rw n e.some;
          few = rw n e.few;
          falls = falls_last before last (with_offset offset last) refl e.falls;
          versions =
              each_last before (with_offset offset last) p.0
              (record { fits = record { sequence_fits = f.sequence_fits; length_fits = f.length_fits; offset_fits = h }; small = k.small; inside = refl; empty = k.empty });
        }

    pub set_stands : (place : ℕ) → place ≡ s.used - 8 → Standing s (splice buffer place (bytes_of 8 offset)) front key before (with_offset offset last)
    unfolding bytes_before
    set_stands place e =
        let u = bytes_before_length s buffer front key before last st in
        let b = bytes_before s buffer front key before last st in
        let n : length (before ++ (with_offset offset last ∷ [])) ≡ length (before ++ (last ∷ [])) = simp length-append in
        let fit : place + length (bytes_of 8 offset) ≤ length buffer = rw length_bytes_of (omega (arith, st.inside)) in
        let a : place ≡ length b + 13 = omega arith in
        let p : splice buffer place (bytes_of 8 offset) ≡ (b ++ version_bytes (with_offset offset last)) ++ drop s.used buffer =
        ap (λ (l : List ℕ). splice l place (bytes_of 8 offset)) (behind s buffer front key before last st) ∙ version_offset b last (drop s.used buffer) offset place a in
        let l : length (b ++ version_bytes (with_offset offset last)) ≡ s.used =
        length-append b (version_bytes (with_offset offset last)) ∙ ap (λ (m : ℕ). length b + m) (version_size (with_offset offset last)) ∙ sym u in
        record {
          bytes =
              ap (take s.used) p ∙ take_at (b ++ version_bytes (with_offset offset last)) (drop s.used buffer) s.used l
              ∙ sym (body_more front key before (with_offset offset last) (length (before ++ (last ∷ []))))
              ∙ ap (body front key (before ++ (with_offset offset last ∷ []))) (sym n) ∙ sym (body_table front key (before ++ (with_offset offset last ∷ [])));
          inside = rw (length_splice buffer place (bytes_of 8 offset) fit) st.inside;
          headed = st.headed;
          counted = st.counted;
          few = st.few;
          rules = table_rules (before ++ (with_offset offset last ∷ [])) set_rules;
        }
