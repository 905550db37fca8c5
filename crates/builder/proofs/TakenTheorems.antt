-- What a taken list is: its used bytes are its table's bytes, offsets as set; its state fits and counts its keys; the table keeps the rules.
-- Assumes nothing.
use Prim.Native.Nat.{ℕ, ◌+◌, ◌-◌, ◌^◌, ◌<◌}
use mathlib.Core.Path.{◌≡◌, refl, sym, ap, ◌∙◌}
use mathlib.Core.Bool.{Bool, true, false}
use mathlib.Core.List.{List, [], ◌∷◌, ◌++◌}
use native.Mathlib.Omega.{arith}
use lib.ListN.{length, take, length-append}
use lib.Seq.{length-take-le, take_at}
use Rattle.laws.specs.Each.{Each}
use Rattle.laws.specs.Each.Each.{each_none}
use Rattle.numbers.specs.Limits.{most_versions}
use Rattle.words.specs.Field.{AllBytes}
use Rattle.std.specs.declared.cmp.Ordering.TheVariants.{Less}
use Rattle.words.specs.Part.{order_of}
use Rattle.records.specs.declared.Record.{Record}
use Rattle.records.specs.Model.{Entry, table_bytes, rises_none, rises_one}
use Rattle.records.proofs.ModelLaws.{less_is}
use Rattle.builder.specs.declared.PointBuilder.{PointBuilder}
use Rattle.builder.specs.State.{empty_builder, last_of, fits}
use Rattle.builder.specs.Add.{Call, rises_after, record_of, new_entry, new_state, continued_state, next_state, new_buffer, continued_buffer, appended, add_refusal}
use Rattle.builder.specs.SetOffset.{set_refusal, buffer_after_set}
use Rattle.builder.specs.Taken.{entry, ending, KeyBytes, on_last, with_version, with_offset, with_last_offset, table_after_add, table_after_set, TakenList, taken_none, taken_added, taken_set, TakenFacts, state_for}
use Rattle.builder.proofs.StateLaws.{fits_given}
use Rattle.builder.proofs.AddLaws.{rises_known, new_passed, continued_passed, new_ready, continued_ready}
use Rattle.builder.proofs.AnswerLaws.{taken_known, buffer_taken, set_known, set_unrefused, buffer_set}
use Rattle.builder.proofs.ListLaws.{last_changed, each_last, each_changed, rises_on}
use Rattle.builder.proofs.HeldLaws.{Standing, read_key, last_read, state_keyed, state_fitting}
use Rattle.builder.proofs.StepLaws.{record_rules, new_stands, continued_stands, set_stands}

-- the state and the buffer hold a table: nothing added, or a last record
pub data Held : PointBuilder → List ℕ → List Entry → Type 0 where
  held_none : {buffer : List ℕ} → Held empty_builder buffer []
  held_some : {s : PointBuilder} {buffer : List ℕ} (front : List Entry) (key : List ℕ) (before : List Record) (last : Record) → Standing s buffer front key before last → Held s buffer (ending front key before last)

-- a new key that add takes is greater than the last one held
pub new_greater : (s : PointBuilder) (buffer : List ℕ) (front : List Entry) (lastKey : List ℕ) (before : List Record) (last : Record)
    → Standing s buffer front lastKey before last → (key : List ℕ) → rises_after s (last_of s buffer) key ≡ true → order_of lastKey key ≡ Less
new_greater s buffer front lastKey before last st key r =
    less_is (order_of lastKey key)
    (rises_known s buffer key (state_keyed s buffer front lastKey before last st) (order_of lastKey key)
    (ap (λ (k : List ℕ). order_of k key) (read_key s buffer front lastKey before last st)) ∙ r)

-- ---- each way keeps it

module _ (buffer : List ℕ) (call : Call) (q : call.sequence < 2 ^ 64) where
  held_new : (s : PointBuilder) (table : List Entry) → Held s buffer table → add_refusal s buffer call ≡ 0 → call.new_key ≡ true
      → Held (new_state s call.key) (new_buffer s buffer call.key (record_of call)) (table ++ (new_entry call.key (record_of call) ∷ []))
  unfolding table_bytes
  held_new s table held_none z w =
      let r = new_ready _ _ _ z w in
      held_some [] call.key [] (record_of call)
      (new_stands empty_builder buffer call.key [] (record_of call) refl r.0 refl r.2 r.1 (record_rules (new_passed _ _ _ z w).0 q) each_none rises_one)
  held_new s table (held_some front lastKey before last st) z w =
      let p = new_passed _ _ _ z w in
      let r = new_ready _ _ _ z w in
      held_some (ending front lastKey before last) call.key [] (record_of call)
      (new_stands s buffer call.key (ending front lastKey before last) (record_of call) st.bytes r.0 (st.counted ∙ sym (length-append front (entry lastKey (before ++ (last ∷ [])) ∷ []))) r.2 r.1
      (record_rules p.0 q) st.rules.entries
      (rises_on front (entry lastKey (before ++ (last ∷ []))) (new_entry call.key (record_of call)) st.rules.rises (new_greater s buffer front lastKey before last st call.key p.1.rising)))

  held_continued : (s : PointBuilder) (table : List Entry) → Held s buffer table → add_refusal s buffer call ≡ 0 → call.new_key ≡ false
      → Held (continued_state s) (continued_buffer s buffer (record_of call)) (on_last (with_version (record_of call)) table)
  held_continued s table held_none z w = absurd ((continued_passed _ _ _ z w).1.keyed refl)
  held_continued s table (held_some front lastKey before last st) z w =
      let p = continued_passed _ _ _ z w in
      let l = last_read s buffer front lastKey before last st in
      let below : call.sequence < last.sequence = rw l at p.1.older in
      let countable : length (before ++ (last ∷ [])) < most_versions = rw l at p.1.countable in
      rw (last_changed (with_version (record_of call)) front (entry lastKey (before ++ (last ∷ []))))
      (held_some front lastKey (before ++ (last ∷ [])) (record_of call)
      (continued_stands s buffer front lastKey before last st (record_of call) (record_rules p.0 q) below countable (continued_ready _ _ _ z w).1))

  held_added : (new_key : Bool) → call.new_key ≡ new_key → (s : PointBuilder) (table : List Entry) → Held s buffer table → add_refusal s buffer call ≡ 0
      → Held (next_state s call) (appended s buffer call) (table_after_add table call)
  unfolding table_after_add
  held_added true w s table h z = rw w (held_new s table h z w)
  held_added false w s table h z = rw w (held_continued s table h z w)

pub held_set : (s : PointBuilder) (buffer : List ℕ) (table : List Entry) (place offset : ℕ) → offset < 2 ^ 64 → Held s buffer table → set_refusal s buffer place ≡ 0 → Held s (buffer_after_set s buffer place offset) (table_after_set table offset)
unfolding table_after_set
held_set s buffer table place offset h held_none z = absurd ((set_unrefused empty_builder buffer place z).1 refl)
held_set s buffer table place offset h (held_some front key before last st) z =
    let p = set_unrefused s buffer place z in
    rw (buffer_set s buffer place offset z, last_changed (with_last_offset offset) front (entry key (before ++ (last ∷ []))), last_changed (with_offset offset) before last)
    (held_some front key before (with_offset offset last) (set_stands s buffer front key before last st offset h place p.2))

-- every taken list is held
pub taken_held : {s : PointBuilder} {buffer : List ℕ} {table : List Entry} → TakenList s buffer table → Held s buffer table
taken_held taken_none = held_none
taken_held (taken_added {s} {next} {buffer} {table} call t b q e) =
    let k = taken_known _ _ _ e in
    rw (k.1, buffer_taken _ _ _ k.0) (held_added buffer call q call.new_key refl s table (taken_held t) k.0)
taken_held (taken_set {s} {buffer} {table} place offset t h e) = held_set s buffer table place offset h (taken_held t) (set_known s buffer place e)

-- ---- THEOREM: a taken list

held_facts : {s : PointBuilder} {buffer : List ℕ} {table : List Entry} → Held s buffer table → TakenFacts s buffer table
unfolding fits table_bytes
held_facts held_none = record { fitting = refl; bytes = refl; counted = refl; few = omega arith; rules = record { entries = each_none; rises = rises_none } }
held_facts (held_some {s} {buffer} front key before last st) =
    let n : length (ending front key before last) ≡ length front + 1 = length-append front (entry key (before ++ (last ∷ [])) ∷ []) in
    let c : s.keys ≡ length (ending front key before last) = st.counted ∙ sym n in
    record {
      fitting = fits_given s buffer (state_keyed s buffer front key before last st) (state_fitting s buffer front key before last st);
      bytes = st.bytes;
      counted = c;
      few = omega (arith, st.few);
      rules = st.rules;
    }

-- its used bytes are the bytes of its table, its state fits and counts its keys, and its table keeps the rules of keys and versions
pub taken_facts : {s : PointBuilder} {buffer : List ℕ} {table : List Entry} → TakenList s buffer table → TakenFacts s buffer table
taken_facts t = held_facts (taken_held t)

-- ---- THEOREM: the state of a taken list is fixed by its table

held_state : {s : PointBuilder} {buffer : List ℕ} {table : List Entry} → Held s buffer table → s ≡ state_for table
unfolding table_bytes
held_state held_none = refl
held_state (held_some {s} {buffer} front key before last st) =
    let e = entry key (before ++ (last ∷ [])) in
    let n : length (front ++ (e ∷ [])) ≡ length front + 1 = length-append front (e ∷ []) in
    let u : s.used ≡ length (table_bytes (front ++ (e ∷ []))) = sym (length-take-le s.used buffer st.inside) ∙ ap length st.bytes in
    let c : s.keys ≡ length (front ++ (e ∷ [])) = st.counted ∙ sym n in
    let m : length front ≡ length (front ++ (e ∷ [])) - 1 = omega arith in
    let f : take (length (front ++ (e ∷ [])) - 1) (front ++ (e ∷ [])) ≡ front = take_at front (e ∷ []) _ m in
    let h : s.head ≡ length (table_bytes (take (length (front ++ (e ∷ [])) - 1) (front ++ (e ∷ [])))) = st.headed ∙ ap (λ (l : List Entry). length (table_bytes l)) (sym f) in
    rw (← h, ← u, ← c)

pub taken_state : {s : PointBuilder} {buffer : List ℕ} {table : List Entry} → TakenList s buffer table → s ≡ state_for table
taken_state t = held_state (taken_held t)

-- ---- THEOREM: the keys of a taken list are bytes

keys_added : {table : List Entry} (call : Call) (new_key : Bool) → call.new_key ≡ new_key → Each KeyBytes table → AllBytes call.key → Each KeyBytes (table_after_add table call)
unfolding table_after_add
keys_added {table} call true w ks b = rw w (each_last table (new_entry call.key (record_of call)) ks b)
keys_added {table} call false w ks b = rw w (each_changed (with_version (record_of call)) (λ x p. p) table ks)

pub taken_keys : {s : PointBuilder} {buffer : List ℕ} {table : List Entry} → TakenList s buffer table → Each KeyBytes table
unfolding table_after_set
taken_keys taken_none = each_none
taken_keys (taken_added call t b q e) = keys_added call call.new_key refl (taken_keys t) b
taken_keys (taken_set {s} {buffer} {table} place offset t h e) = each_changed (with_last_offset offset) (λ x p. p) table (taken_keys t)

-- ---- THEOREM: what the buffer says of the last record is what the list says

last_same : {A : Type 0} (xs ys : List A) (x y : A) → xs ++ (x ∷ []) ≡ ys ++ (y ∷ []) → x ≡ y
last_same [] [] x y e = cc
last_same [] (b ∷ []) x y e = cc
last_same [] (b ∷ c ∷ ys) x y e = cc
last_same (a ∷ []) [] x y e = cc
last_same (a ∷ c ∷ xs) [] x y e = cc
last_same {A} (a ∷ xs) (b ∷ ys) x y e = let t : xs ++ (x ∷ []) ≡ ys ++ (y ∷ []) = cc in last_same xs ys x y t

held_last : {s : PointBuilder} {buffer : List ℕ} {table : List Entry} (front : List Entry) (key : List ℕ) (before : List Record) (last : Record) → Held s buffer table → table ≡ ending front key before last
    → (s.keys ≡ 0 → ⊥) × (last_of s buffer ≡ record { key = key; sequence = last.sequence; versions = length (before ++ (last ∷ [])) })
held_last [] key before last held_none e = absurd (let z : ◌≡◌ {A = ℕ} 0 1 = cc in omega arith)
held_last (f ∷ front) key before last held_none e = absurd (let z : ◌≡◌ {A = ℕ} 0 1 = cc in omega arith)
held_last front key before last (held_some {s} {buffer} front' key' before' last' st) e =
    let x : entry key' (before' ++ (last' ∷ [])) ≡ entry key (before ++ (last ∷ [])) = last_same front' front _ _ e in
    let k : key' ≡ key = ap (λ (z : Entry). z.key) x in
    let v : before' ++ (last' ∷ []) ≡ before ++ (last ∷ []) = ap (λ (z : Entry). z.versions) x in
    let n : last' ≡ last = last_same before' before last' last v in
    let l = last_read s buffer front' key' before' last' st in
    (state_keyed s buffer front' key' before' last' st, rw (← k, ← v, ← n) l)

pub taken_last : {s : PointBuilder} {buffer : List ℕ} (front : List Entry) (key : List ℕ) (before : List Record) (last : Record) → TakenList s buffer (ending front key before last)
    → (s.keys ≡ 0 → ⊥) × (last_of s buffer ≡ record { key = key; sequence = last.sequence; versions = length (before ++ (last ∷ [])) })
taken_last front key before last t = held_last front key before last (taken_held t) refl
