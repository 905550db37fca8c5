-- The state and the buffer that hold a table, read back from the buffer. Assumes nothing.
use Rattle.std.specs.Prelude.{None}
use Prim.Native.Nat.{ℕ, ◌+◌, ◌-◌, ◌≤◌}
use mathlib.Core.Path.{◌≡◌, sym, ap, ◌∙◌}
use mathlib.Core.List.{List, [], ◌∷◌, ◌++◌, append_assoc}
use native.Mathlib.Omega.{arith}
use lib.ListN.{length, take, drop, length-append, take-append-drop}
use lib.Seq.{length-take-le}
use Rattle.numbers.specs.Limits.{most_keys}
use Rattle.records.specs.declared.Record.{Record}
use Rattle.records.specs.Model.{Entry, version_bytes, entry_bytes, table_bytes}
use Rattle.records.specs.Places.{key_length, version_count, key_at, next_entry, sequence_at}
use Rattle.records.specs.Tables.{EntryFits, EntryRules, TableRules}
use Rattle.records.proofs.TableLaws.{entry_fits}
use Rattle.records.proofs.WriteLaws.{version_size, entry_size, back_sequence, back_head, back_count, back_key, back_next}
use Rattle.builder.specs.declared.PointBuilder.{PointBuilder}
use Rattle.builder.specs.State.{last_of}
use Rattle.builder.specs.Taken.{entry, ending}
use Rattle.builder.proofs.StateLaws.{Fitting}
use Rattle.builder.proofs.ListLaws.{last_each}
use Rattle.builder.proofs.BodyLaws.{table_last, body, body_table, body_more}

-- the state and the buffer hold a table with a last record
pub record Standing (s : PointBuilder) (buffer : List ℕ) (front : List Entry) (key : List ℕ) (before : List Record) (last : Record) : Type 0 where
  pub bytes : take s.used buffer ≡ table_bytes (ending front key before last)
  pub inside : s.used ≤ length buffer
  pub headed : s.head ≡ length (table_bytes front)
  pub counted : s.keys ≡ length front + 1
  pub few : s.keys ≤ most_keys
  pub rules : TableRules None (ending front key before last)

module _ (s : PointBuilder) (buffer : List ℕ) (front : List Entry) (key : List ℕ) (before : List Record) (last : Record) (st : Standing s buffer front key before last) where
  pub entry_rules : EntryRules None (entry key (before ++ (last ∷ [])))
  entry_rules = (last_each front (entry key (before ++ (last ∷ []))) st.rules.entries).1

  holds : EntryFits (entry key (before ++ (last ∷ [])))
  holds = entry_fits None (entry key (before ++ (last ∷ []))) entry_rules

  pub used_is : s.used ≡ length (table_bytes front) + length (entry_bytes (entry key (before ++ (last ∷ []))))
  used_is =
      sym (length-take-le s.used buffer st.inside) ∙ ap length (st.bytes ∙ table_last front (entry key (before ++ (last ∷ []))))
      ∙ length-append (table_bytes front) (entry_bytes (entry key (before ++ (last ∷ []))))

  -- the buffer by its parts
  whole : buffer ≡ table_bytes front ++ (entry_bytes (entry key (before ++ (last ∷ []))) ++ drop s.used buffer)
  whole =
      sym (take-append-drop s.used buffer)
      ∙ ap (λ (l : List ℕ). l ++ drop s.used buffer) (st.bytes ∙ table_last front (entry key (before ++ (last ∷ []))))
      ∙ append_assoc (table_bytes front) (entry_bytes (entry key (before ++ (last ∷ [])))) (drop s.used buffer)

  pub read_length : key_length buffer s.head ≡ length key
  read_length =
      ap (key_length buffer) st.headed ∙ ap (λ (l : List ℕ). key_length l (length (table_bytes front))) whole
      ∙ back_head (entry key (before ++ (last ∷ []))) (table_bytes front) (drop s.used buffer) holds

  pub read_count : version_count buffer s.head ≡ length (before ++ (last ∷ []))
  read_count =
      ap (version_count buffer) st.headed ∙ ap (λ (l : List ℕ). version_count l (length (table_bytes front))) whole
      ∙ back_count (entry key (before ++ (last ∷ []))) (table_bytes front) (drop s.used buffer) holds

  pub read_key : key_at buffer s.head ≡ key
  read_key =
      ap (key_at buffer) st.headed ∙ ap (λ (l : List ℕ). key_at l (length (table_bytes front))) whole
      ∙ back_key (entry key (before ++ (last ∷ []))) (table_bytes front) (drop s.used buffer) holds

  read_next : next_entry buffer s.head ≡ s.used
  read_next =
      ap (next_entry buffer) st.headed ∙ ap (λ (l : List ℕ). next_entry l (length (table_bytes front))) whole
      ∙ back_next (entry key (before ++ (last ∷ []))) (table_bytes front) (drop s.used buffer) holds
      ∙ length-append (table_bytes front) (entry_bytes (entry key (before ++ (last ∷ [])))) ∙ sym used_is

  -- the last version's bytes are the last of those used
  unfoldable pub bytes_before : List ℕ
  bytes_before = body front key before (length (before ++ (last ∷ [])))

  parted : take s.used buffer ≡ bytes_before ++ version_bytes last
  unfolding bytes_before
  parted = st.bytes ∙ body_table front key (before ++ (last ∷ [])) ∙ body_more front key before last (length (before ++ (last ∷ [])))

  pub behind : buffer ≡ (bytes_before ++ version_bytes last) ++ drop s.used buffer
  behind = sym (take-append-drop s.used buffer) ∙ ap (λ (l : List ℕ). l ++ drop s.used buffer) parted

  pub bytes_before_length : s.used ≡ length bytes_before + 21
  bytes_before_length =
      sym (length-take-le s.used buffer st.inside) ∙ ap length parted ∙ length-append bytes_before (version_bytes last) ∙ ap (λ (n : ℕ). length bytes_before + n) (version_size last)

  pub read_sequence : sequence_at buffer (s.used - 21) ≡ last.sequence
  read_sequence =
      let e : s.used - 21 ≡ length bytes_before = omega (arith, bytes_before_length) in
      let fit = (last_each before last holds.versions_fit).1 in
      ap (sequence_at buffer) e ∙ ap (λ (l : List ℕ). sequence_at l (length bytes_before)) (behind ∙ append_assoc bytes_before (version_bytes last) (drop s.used buffer))
      ∙ back_sequence last bytes_before (drop s.used buffer) fit

  -- what the buffer says of the last record is what the table says
  pub last_read : last_of s buffer ≡ record { key = key; sequence = last.sequence; versions = length (before ++ (last ∷ [])) }
  unfolding last_of
  last_read = rw (read_key, read_sequence, read_count)

  pub state_keyed : s.keys ≡ 0 → ⊥
  state_keyed z = let c = st.counted in omega arith

  pub state_fitting : Fitting s buffer
  state_fitting =
      let r = entry_rules in
      let small = r.small in
      let some = r.some in
      record {
        few = st.few;
        inside = st.inside;
        headed = omega (arith, used_is, entry_size (entry key (before ++ (last ∷ []))), st.headed);
        short = rw read_length small;
        versioned = rw read_count (omega arith);
        whole = read_next;
      }
