-- Every list that keeps the rules is taken, where its keys are few enough and the buffer is long enough. Assumes nothing.
use Rattle.std.specs.Prelude.{None, Ok}
use Prim.Native.Nat.{ℕ, ◌+◌, ◌-◌, ◌*◌, ◌^◌, ◌≤◌, ◌<◌}
use mathlib.Core.Path.{◌≡◌, refl, sym, ap, ◌∙◌, subst}
use mathlib.Core.Bool.{Bool, true, false, not}
use mathlib.Core.List.{List, [], ◌∷◌, ◌++◌, append_assoc, append-nil}
use native.Mathlib.Omega.{arith}
use borrow.Author.Tests.{eq-eqb, ne_eqb}
use lib.Dec.{eqb}
use lib.ListN.{length, length-append}
use Rattle.laws.specs.Each.{Each}
use Rattle.laws.specs.Each.Each.{each_none, each_more}
use Rattle.laws.specs.Refusals.{None as Unrefused, none_here, none_more}
use Rattle.numbers.specs.Limits.{most_key_bytes, most_keys, most_versions}
use Rattle.std.specs.declared.cmp.Ordering.TheVariants.{Less}
use Rattle.words.specs.Part.{order_of}
use Rattle.words.specs.Field.{AllBytes}
use Rattle.words.proofs.Ordered.{same_self}
use Rattle.records.specs.declared.Record.{Record}
use Rattle.records.specs.Model.{Entry, entry_bytes, table_bytes, Falls, Rises}
use Rattle.records.specs.Tables.{RecordRules, EntryRules, TableRules}
use Rattle.records.proofs.WriteLaws.{entry_size}
use Rattle.builder.specs.declared.PointBuilder.{PointBuilder}
use Rattle.builder.specs.State.{empty_builder, last_of, fits}
use Rattle.builder.specs.Add.{Call, rises_after, Sized, NewPasses, ContinuedPasses, record_of, new_entry, next_state, next_place, add_of, buffer_after_add}
use Rattle.builder.specs.SetOffset.{set_causes, buffer_after_set}
use Rattle.builder.specs.Taken.{entry, ending, KeyBytes, on_last, with_version, with_offset, with_last_offset, table_after_add, table_after_set, taken_none, taken_added, taken_set, TakenInto}
use Rattle.builder.proofs.AddLaws.{rises_known}
use Rattle.builder.proofs.ListLaws.{last_changed, falls_end, rises_end, rises_front, rises_last}
use Rattle.builder.proofs.BodyLaws.{table_last, table_append}
use Rattle.builder.proofs.HeldLaws.{read_key, state_keyed}
use Rattle.builder.proofs.StepLaws.{valued_empty}
use Rattle.builder.proofs.TakenTheorems.{Held, held_none, held_some, taken_held, taken_facts, taken_state, taken_last}
use Rattle.builder.proofs.Answers.{drop_later, new_taken, continued_taken, add_untouched, set_takes, set_untouched}

-- a key that rises in the table rises in the buffer
rising_of : (s : PointBuilder) (buffer : List ℕ) (table : List Entry) (e : Entry) → Held s buffer table → Rises (table ++ (e ∷ []))
    → rises_after s (last_of s buffer) e.key ≡ true
unfolding rises_after
rising_of s buffer table e held_none g = refl
rising_of s buffer table e (held_some front lastKey before last st) g =
    sym
    (rises_known s buffer e.key (state_keyed s buffer front lastKey before last st) Less
    (ap (λ (k : List ℕ). order_of k e.key) (read_key s buffer front lastKey before last st)
    ∙ rises_end front (entry lastKey (before ++ (last ∷ []))) e g))

-- no cause refuses the offset of the record that was added last
none_refuses : (s : PointBuilder) (buffer : List ℕ) → fits s buffer ≡ true → (s.keys ≡ 0 → ⊥) → Unrefused (set_causes s buffer (s.used - 8))
unfolding set_causes
none_refuses s buffer f k =
    let a : not (fits s buffer) ≡ false = rw f in
    let p : not (eqb (s.used - 8) (s.used - 8)) ≡ false = rw (eq-eqb (s.used - 8) (s.used - 8) refl) in
    none_more a (none_more (ne_eqb s.keys 0 k) (none_more p none_here))

-- the call that adds a record
abbrev adding : List ℕ → Record → Bool → Call
adding key r new_key = record { key = key; kind = r.kind; size = r.length; sequence = r.sequence; new_key = new_key }

module _ (buffer : List ℕ) where
  -- ---- a record that add takes, and its offset set

  module _ {table : List Entry} (key : List ℕ) (r : Record) (new_key : Bool) (I : TakenInto buffer table) (k : RecordRules None r) where
    sized : length key ≤ most_key_bytes → Sized I.state I.after (adding key r new_key)
    sized short = record {
      fitting = (taken_facts I.taken).fitting;
      short = short;
      small = k.small;
      valued = valued_empty r.kind r.length k.empty;
    }

    added_into : AllBytes key → I.state.used ≤ (next_state I.state (adding key r new_key)).used
        → add_of I.state I.after (adding key r new_key) ≡ Ok (next_state I.state (adding key r new_key), next_place I.state (adding key r new_key))
        → TakenInto buffer (table_after_add table (adding key r new_key))
    added_into bytes grows e =
        let s = I.state in
        let b = I.after in
        let call = adding key r new_key in
        let u = add_untouched s b call e in
        record {
          state = next_state s call;
          after = buffer_after_add s b call;
          taken = taken_added call I.taken bytes k.fits.sequence_fits e;
          behind = u.0 ∙ drop_later s.used (next_state s call).used b buffer grows I.behind;
          whole = u.1 ∙ I.whole;
        }

  offset_into : {table : List Entry} (offset : ℕ) → offset < 2 ^ 64 → 0 < length table → TakenInto buffer table
      → TakenInto buffer (table_after_set table offset)
  offset_into {table} offset h some I =
      let s = I.state in
      let b = I.after in
      let f = taken_facts I.taken in
      let c : s.keys ≡ length table = f.counted in
      let e = (set_takes s b (s.used - 8) offset (none_refuses s b f.fitting (λ z. omega arith))).0 in
      let u = set_untouched s b (s.used - 8) offset e in
      record {
        state = s;
        after = buffer_after_set s b (s.used - 8) offset;
        taken = taken_set (s.used - 8) offset I.taken h e;
        behind = u.0 ∙ I.behind;
        whole = u.1 ∙ I.whole;
      }

  -- ---- a record more

  module _ (front : List Entry) (key : List ℕ) (bytes : AllBytes key) (short : length key ≤ most_key_bytes) where
    new_more : (r : Record) → TakenInto buffer front → RecordRules None r → length front < most_keys → Rises (front ++ (entry key (r ∷ []) ∷ []))
        → length (table_bytes front) + (29 + length key) ≤ length buffer → TakenInto buffer (front ++ (entry key (r ∷ []) ∷ []))
    unfolding table_after_add table_after_set on_last
    new_more r I k few rising fit =
        let s = I.state in
        let b = I.after in
        let c : s.keys ≡ length front = (taken_facts I.taken).counted in
        let u : s.used ≡ length (table_bytes front) = ap (λ (x : PointBuilder). x.used) (taken_state I.taken) in
        let w : length b ≡ length buffer = I.whole in
        let o : NewPasses s b (adding key r true) =
        record { newly = refl; rising = rising_of s b front (entry key (r ∷ [])) (taken_held I.taken) rising; few = omega arith; room = omega arith } in
        let a = new_entry key (record_of (adding key r true)) in
        let n : length (front ++ (a ∷ [])) ≡ length front + 1 = length-append front (a ∷ []) in
        let I' : TakenInto buffer (front ++ (a ∷ [])) =
        added_into key r true I k bytes (omega arith) (new_taken s b (adding key r true) (sized key r true I k short) o) in
        subst (TakenInto buffer) (last_changed (with_last_offset r.offset) front a) (offset_into r.offset k.fits.offset_fits (omega arith) I')

    continued_more : (before : List Record) (last r : Record) → TakenInto buffer (ending front key before last) → RecordRules None r
        → r.sequence < last.sequence → length (before ++ (last ∷ [])) < most_versions → length (table_bytes (ending front key before last)) + 21 ≤ length buffer
        → TakenInto buffer (ending front key (before ++ (last ∷ [])) r)
    unfolding table_after_add table_after_set
    continued_more before last r I k below countable fit =
        let s = I.state in
        let b = I.after in
        let u : s.used ≡ length (table_bytes (ending front key before last)) = ap (λ (x : PointBuilder). x.used) (taken_state I.taken) in
        let w : length b ≡ length buffer = I.whole in
        let l = taken_last front key before last I.taken in
        let o : ContinuedPasses s b (adding key r false) =
        record { further = refl; keyed = l.0; same = rw l.1 (same_self key); older = rw l.1 below; countable = rw l.1 countable; room = omega arith } in
        let vs = before ++ (last ∷ []) in
        let v = record_of (adding key r false) in
        let n : length (front ++ (entry key (vs ++ (v ∷ [])) ∷ [])) ≡ length front + 1 = length-append front (entry key (vs ++ (v ∷ [])) ∷ []) in
        let I' : TakenInto buffer (front ++ (entry key (vs ++ (v ∷ [])) ∷ [])) =
        subst (TakenInto buffer) (last_changed (with_version v) front (entry key vs))
        (added_into key r false I k bytes (omega arith) (continued_taken s b (adding key r false) (sized key r false I k short) o)) in
        subst (λ (rs : List Record). TakenInto buffer (front ++ (entry key rs ∷ []))) (last_changed (with_offset r.offset) vs v)
        (subst (TakenInto buffer) (last_changed (with_last_offset r.offset) front (entry key (vs ++ (v ∷ []))))
        (offset_into r.offset k.fits.offset_fits (omega arith) I'))

    -- the further versions of the last entry
    versions_more : (rs before : List Record) (last : Record) → TakenInto buffer (ending front key before last) → Falls ((before ++ (last ∷ [])) ++ rs)
        → Each (RecordRules None) rs → length ((before ++ (last ∷ [])) ++ rs) < 256 ^ 4
        → length (table_bytes front) + (8 + length key + 21 * length ((before ++ (last ∷ [])) ++ rs)) ≤ length buffer
        → TakenInto buffer (front ++ (entry key ((before ++ (last ∷ [])) ++ rs) ∷ []))
    versions_more [] before last I falls each few fit = rw append-nil I
    versions_more (r ∷ rs) before last I falls (each_more k ks) few fit =
        let vs = before ++ (last ∷ []) in
        let a : (vs ++ (r ∷ [])) ++ rs ≡ vs ++ (r ∷ rs) = append_assoc vs (r ∷ []) rs in
        let n : length (vs ++ (r ∷ rs)) ≡ length vs + length (r ∷ rs) = length-append vs (r ∷ rs) in
        let z : length (table_bytes (ending front key before last)) ≡ length (table_bytes front) + (8 + length key + 21 * length vs) =
        ap length (table_last front (entry key vs)) ∙ length-append (table_bytes front) (entry_bytes (entry key vs))
        ∙ ap (λ (m : ℕ). length (table_bytes front) + m) (entry_size (entry key vs)) in
        let I' = continued_more before last r I k (falls_end before last r rs falls) (omega arith) (omega arith) in
        subst (λ (l : List Record). TakenInto buffer (front ++ (entry key l ∷ []))) a
        (versions_more rs vs r I' (subst Falls (sym a) falls) ks (rw a few) (rw a fit))

  -- ---- an entry more, and a whole list

  entry_more : (front : List Entry) (e : Entry) → TakenInto buffer front → KeyBytes e → EntryRules None e → length front < most_keys
      → Rises (front ++ (e ∷ [])) → length (table_bytes front) + length (entry_bytes e) ≤ length buffer → TakenInto buffer (front ++ (e ∷ []))
  entry_more front e I bytes k few rising fit = go e.versions refl k.versions
    where
      go : (vs : List Record) → e.versions ≡ vs → Each (RecordRules None) vs → TakenInto buffer (front ++ (e ∷ []))
      go [] q each_none = absurd (let z : length e.versions ≡ 0 = ap length q in omega (arith, k.some))
      go (r ∷ rs) q (each_more p ps) =
          let n : length e.versions ≡ length (r ∷ rs) = ap length q in
          let z = entry_size e in
          subst (λ (vs : List Record). TakenInto buffer (front ++ (entry e.key vs ∷ []))) (sym q)
          (versions_more front e.key bytes k.small rs [] r
          (new_more front e.key bytes k.small r I p few (rises_last front e (entry e.key (r ∷ [])) refl rising) (omega arith))
          (subst Falls q k.falls) ps (subst (λ (m : ℕ). m < 256 ^ 4) n k.few) (omega arith))

  list_more : (es front : List Entry) → TakenInto buffer front → Each KeyBytes es → Each (EntryRules None) es
      → length (front ++ es) ≤ most_keys → Rises (front ++ es) → length (table_bytes (front ++ es)) ≤ length buffer → TakenInto buffer (front ++ es)
  list_more [] front I bytes each few rising fit = rw append-nil I
  list_more (e ∷ es) front I (each_more b bs) (each_more k ks) few rising fit =
      let a : (front ++ (e ∷ [])) ++ es ≡ front ++ (e ∷ es) = append_assoc front (e ∷ []) es in
      let n : length (front ++ (e ∷ es)) ≡ length front + length (e ∷ es) = length-append front (e ∷ es) in
      let rising' : Rises ((front ++ (e ∷ [])) ++ es) = rw a rising in
      let z : length (table_bytes (front ++ (e ∷ es))) ≡ length (table_bytes front) + length (entry_bytes e) + length (table_bytes es) =
      ap (λ (t : List Entry). length (table_bytes t)) (sym a)
      ∙ ap length (table_append (front ++ (e ∷ [])) es ∙ ap (λ (l : List ℕ). l ++ table_bytes es) (table_last front e)) ∙ simp length-append in
      let I' = entry_more front e I b k (omega arith) (rises_front (front ++ (e ∷ [])) es rising') (omega arith) in
      subst (TakenInto buffer) a (list_more es (front ++ (e ∷ [])) I' bs ks (rw a few) rising' (rw a fit))

-- THEOREM: a list that keeps the rules, of at most 65,536 keys, is taken into any buffer that its bytes fit in
pub rules_taken : (table : List Entry) → TableRules None table → Each KeyBytes table → length table ≤ most_keys
    → (buffer : List ℕ) → length (table_bytes table) ≤ length buffer → TakenInto buffer table
rules_taken table rules bytes few buffer fit =
    list_more buffer table []
    (record { state = empty_builder; after = buffer; taken = taken_none; behind = refl; whole = refl }) bytes rules.entries few rules.rises fit
