-- The error that started this project, a wash's versions added oldest first: to a taken list no call adds a record of the last key whose
-- sequence is not below the last one's, as a new key or as a continued one; of whichever key a record that is added is, it is older than
-- every one of that key in the list. Assumes nothing.
use Rattle.std.specs.Prelude.{Err}
use Prim.Native.Nat.{ℕ, ◌≤◌, ◌<◌}
use mathlib.Core.Path.{◌≡◌, refl, sym, ap, ◌∙◌}
use mathlib.Core.Bool.{Bool, true, false, not}
use mathlib.Core.List.{List, [], ◌∷◌, ◌++◌}
use native.Mathlib.Omega.{arith}
use Rattle.laws.specs.Each.{Each}
use Rattle.laws.specs.Each.Each.{each_none}
use Rattle.laws.specs.Refusals.{here}
use Rattle.numbers.specs.Limits.{most_value_bytes}
use Rattle.numbers.specs.Numbers.{number_of}
use Rattle.numbers.specs.declared.Refusal.TheVariants.{Order}
use Rattle.std.specs.declared.cmp.Ordering.TheVariants.{Less, Equal}
use Rattle.words.specs.Part.{order_of}
use Rattle.words.proofs.Ordered.{same_equal, order_self, order_apart}
use Rattle.records.specs.declared.Kind.TheVariants.{Tombstone}
use Rattle.records.specs.declared.Record.{Record}
use Rattle.records.specs.Model.{Entry, records_of, Rises}
use Rattle.records.proofs.ModelLaws.{rises_rest, rises_below, own_records}
use Rattle.builder.specs.declared.PointBuilder.{PointBuilder}
use Rattle.builder.specs.State.{last_of}
use Rattle.builder.specs.Add.{Call, rises_after, new_causes, add_refusal, Sized, record_of, new_entry, add_of, buffer_after_add}
use Rattle.builder.specs.Taken.{entry, ending, TakenList}
use Rattle.builder.proofs.AddLaws.{rises_known, sized_first, new_passed, continued_passed}
use Rattle.builder.proofs.AnswerLaws.{buffer_kept, add_number}
use Rattle.builder.proofs.ListLaws.{last_each, member_last, falls_above, rises_on}
use Rattle.builder.proofs.HeldLaws.{entry_rules, last_read}
use Rattle.builder.proofs.StepLaws.{valued_empty}
use Rattle.builder.proofs.TakenTheorems.{Held, held_none, held_some, new_greater, taken_held, taken_facts, taken_last}
use Rattle.builder.proofs.Answers.{add_refuses, oldest_first_refused}

module _ {s : PointBuilder} {buffer : List ℕ} (front : List Entry) (before : List Record) (last : Record) (call : Call)
    (t : TakenList s buffer (ending front call.key before last)) where
  -- the last key again is not greater than the last
  not_rising : rises_after s (last_of s buffer) call.key ≡ false
  unfolding last_of
  not_rising =
      let l = taken_last front call.key before last t in
      sym (rises_known s buffer call.key l.0 Equal (ap (λ x. order_of x.key call.key) l.1 ∙ order_self call.key))

  module _ (h : last.sequence ≤ call.sequence) where
    some_cause : (new_key : Bool) → call.new_key ≡ new_key → add_refusal s buffer call ≡ 0 → ⊥
    some_cause true w z =
        let r = (new_passed _ _ _ z w).1.rising in
        let n = not_rising in
        let e : ◌≡◌ {A = ℕ} 0 1 = cc in
        omega arith
    some_cause false w z =
        let o = (continued_passed _ _ _ z w).1.older in
        let e : (last_of s buffer).sequence ≡ last.sequence = ap (λ x. x.sequence) (taken_last front call.key before last t).1 in
        omega arith

    cause_four : Sized s buffer call → (new_key : Bool) → call.new_key ≡ new_key → (add_of s buffer call ≡ Err Order) × (buffer_after_add s buffer call ≡ buffer)
    unfolding new_causes
    cause_four k true w = add_refuses s buffer call {n = 4} (sized_first k (rw w (here (ap not not_rising) refl)))
    cause_four k false w =
        let l = taken_last front call.key before last t in
        oldest_first_refused s buffer call k w l.0 (ap (λ x. x.key) l.1) (rw l.1 h)

    -- THEOREM: to a taken list, a record of the last key whose sequence is not below the last one's is never taken, and nothing changes
    pub never_oldest_first : ((number_of (add_of s buffer call) ≡ 0) → ⊥) × (buffer_after_add s buffer call ≡ buffer)
    never_oldest_first = let ne = some_cause call.new_key refl in (λ z. ne (sym (add_number _ _ _) ∙ z), buffer_kept _ _ _ ne)

    -- THEOREM: where no rule of sizes is broken (2, 3), it is refused with 4
    pub oldest_first_four : call.size ≤ most_value_bytes → (call.kind ≡ Tombstone → call.size ≡ 0) → (add_of s buffer call ≡ Err Order) × (buffer_after_add s buffer call ≡ buffer)
    oldest_first_four small empty =
        let f = taken_facts t in
        let e = (last_each front (entry call.key (before ++ (last ∷ []))) f.rules.entries).1 in
        cause_four (record { fitting = f.fitting; short = e.small; small = small; valued = valued_empty call.kind call.size empty }) call.new_key refl

-- ---- any key

-- where keys rise, the last one has no records before its entry
records_front : (es : List Entry) (e : Entry) → Rises (es ++ (e ∷ [])) → records_of es e.key ≡ []
unfolding records_of
records_front [] e g = refl
records_front (x ∷ xs) e g =
    rw (order_apart x.key e.key (rises_below x (xs ++ (e ∷ [])) e g (member_last xs e))).0 (records_front xs e (rises_rest x (xs ++ (e ∷ [])) g))

module _ (buffer : List ℕ) (call : Call) where
  older_than : (new_key : Bool) → call.new_key ≡ new_key → (s : PointBuilder) (table : List Entry) → Held s buffer table → add_refusal s buffer call ≡ 0
      → Each (λ v. call.sequence < v.sequence) (records_of table call.key)
  unfolding records_of
  older_than new_key w s table held_none z = each_none
  older_than true w s table (held_some front lastKey before last st) z =
      let o : order_of lastKey call.key ≡ Less = new_greater s buffer front lastKey before last st call.key (new_passed _ _ _ z w).1.rising in
      let rising = rises_on front (entry lastKey (before ++ (last ∷ []))) (new_entry call.key (record_of call)) st.rules.rises o in
      rw (records_front (ending front lastKey before last) (new_entry call.key (record_of call)) rising) each_none
  older_than false w s table (held_some front lastKey before last st) z =
      let p = (continued_passed _ _ _ z w).1 in
      let l = last_read s buffer front lastKey before last st in
      let same : lastKey ≡ call.key = same_equal lastKey call.key (rw l at p.same) in
      let below : call.sequence < last.sequence = rw l at p.older in
      let vs = before ++ (last ∷ []) in
      let own : records_of (ending front lastKey before last) call.key ≡ vs =
      ap (records_of (ending front lastKey before last)) (sym same)
      ∙ own_records (ending front lastKey before last) (entry lastKey vs) st.rules.rises (member_last front (entry lastKey vs)) in
      rw own (falls_above before last call.sequence (entry_rules s buffer front lastKey before last st).falls below)

  -- THEOREM: a record that is added to a taken list is older than every record of its key in the list
  pub added_older : {s : PointBuilder} {table : List Entry} → TakenList s buffer table → number_of (add_of s buffer call) ≡ 0
      → Each (λ v. call.sequence < v.sequence) (records_of table call.key)
  added_older {s} {table} t z = older_than call.new_key refl s table (taken_held t) (sym (add_number _ _ _) ∙ z)
