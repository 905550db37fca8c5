-- The walk and the tables: what a walk has passed is the bytes of exactly one table, which keeps the rules, and the bytes of a table that keeps the rules are walked whole. Assumes nothing.
use Prim.Native.Nat.{ℕ, ◌+◌, ◌-◌, ◌*◌, ◌<◌, ◌≤◌}
use native.Mathlib.Nat.{zero-add}
use native.Mathlib.Omega.{arith}
use mathlib.Core.Path.{◌≡◌, refl, sym, ap, ◌∙◌}
use mathlib.Core.List.{List, [], ◌∷◌, ◌++◌, append-nil}
use mathlib.Core.Bool.{cond}
use lib.ListN.{length, take, drop, length-append}
use lib.Seq.{take_all}
use lib.Dec.{eqb}
use borrow.Author.Tests.{eq-eqb}
use Rattle.laws.specs.Each.{Each}
use Rattle.laws.specs.Each.Each.{each_none, each_more}
use Rattle.numbers.specs.Limits.{most_key_bytes, most_versions}
use Rattle.words.specs.Field.{AllBytes}
use Rattle.records.specs.Limits.{DataLength}
use Rattle.records.specs.Model.{Entry, table_bytes}
use Rattle.records.specs.Places.{entries_from, entry_place}
use Rattle.records.specs.Rules.{unslotted}
use Rattle.records.specs.Tables.{EntryRules, TableRules, Walks}
use Rattle.records.specs.Walk.{walk_from}
use Rattle.records.proofs.TableLaws.{table_fits}
use Rattle.records.proofs.PassedLaws.{Passed, entries_count, passed_end, walk_passed, walk_ends, passed_walk, passed_whole}
use Rattle.records.proofs.ReadLaws.{passed_bytes, passed_rules}
use Rattle.records.proofs.WriteLaws.{entry_size, back_end, table_unique}
use Rattle.records.proofs.AcceptLaws.{table_passes}

-- THEOREM: the bytes that a walk has passed are those of exactly one table, which keeps the rules: keys rise strictly, sequences fall strictly
pub read_back : (slots : ℕ → ℕ) (bytes : List ℕ) (test : DataLength) (prev p k : ℕ) → AllBytes bytes → p ≤ length bytes → Walks test bytes p (walk_from slots bytes test prev p k)
read_back slots bytes test prev p k all h =
    let w = walk_from slots bytes test prev p k in
    let r : Passed slots bytes test prev p w.keys = walk_passed slots bytes test prev p k in
    let e : w.end ≡ entry_place bytes p w.keys = walk_ends slots bytes test prev p k in
    let b : take (w.end - p) (drop p bytes) ≡ table_bytes (entries_from bytes p w.keys) =
    ap (λ (n : ℕ). take (n - p) (drop p bytes)) e ∙ passed_bytes bytes test all slots prev p w.keys h r in
    let u : TableRules test (entries_from bytes p w.keys) = passed_rules prev p w.keys all r in
    record {
      count = entries_count bytes p w.keys;
      place = e;
      inside = rw e (passed_end r h);
      bytes_are = b;
      rules = u;
      only = λ t f q. table_unique t (entries_from bytes p w.keys) f (table_fits test (entries_from bytes p w.keys) u) (q ∙ b);
    }

-- THEOREM: where a walk from the start ends with the bytes, they are the bytes of the table that is read
pub read_whole : (slots : ℕ → ℕ) (bytes : List ℕ) (test : DataLength) (k : ℕ) → AllBytes bytes → (walk_from slots bytes test 0 0 k).end ≡ length bytes
    → bytes ≡ table_bytes (entries_from bytes 0 (walk_from slots bytes test 0 0 k).keys)
read_whole slots bytes test k all e =
    let r = read_back slots bytes test 0 0 k all (omega arith) in
    sym (take_all ((walk_from slots bytes test 0 0 k).end - 0) bytes (omega arith)) ∙ r.bytes_are

module _ (test : DataLength) (t : List Entry) (rules : TableRules test t) where
  -- THEOREM: a walk of as many keys passes the bytes of a table that keeps the rules, wherever they stand, where its slots pass
  pub walk_table : (slots : ℕ → ℕ) (xs ys : List ℕ) → ((i : ℕ) → i < length t → slots (entry_place (xs ++ (table_bytes t ++ ys)) (length xs) i) ≡ 0)
      → walk_from slots (xs ++ (table_bytes t ++ ys)) test (length xs) (length xs) (length t)
      ≡ record { keys = length t; end = length xs + length (table_bytes t); rule = cond (eqb (length xs + length (table_bytes t)) (length (xs ++ (table_bytes t ++ ys)))) 0 30 }
  walk_table slots xs ys s =
      passed_walk slots (xs ++ (table_bytes t ++ ys)) test (table_passes test slots t xs ys rules s)
      ∙ ap (λ (n : ℕ). record { keys = length t; end = n; rule = cond (eqb n (length (xs ++ (table_bytes t ++ ys)))) 0 30 }) (back_end t xs ys (table_fits test t rules))

  -- with nothing behind them no rule stops it
  pub walk_last : (slots : ℕ → ℕ) (xs : List ℕ) → ((i : ℕ) → i < length t → slots (entry_place (xs ++ table_bytes t) (length xs) i) ≡ 0)
      → walk_from slots (xs ++ table_bytes t) test (length xs) (length xs) (length t) ≡ record { keys = length t; end = length (xs ++ table_bytes t); rule = 0 }
  walk_last slots xs = rw (← append-nil (table_bytes t)) (last slots xs)
    where
      last : (slots : ℕ → ℕ) (xs : List ℕ) → ((i : ℕ) → i < length t → slots (entry_place (xs ++ (table_bytes t ++ [])) (length xs) i) ≡ 0)
          → walk_from slots (xs ++ (table_bytes t ++ [])) test (length xs) (length xs) (length t) ≡ record { keys = length t; end = length (xs ++ (table_bytes t ++ [])); rule = 0 }
      last slots xs s =
          let l : length xs + length (table_bytes t) ≡ length (xs ++ (table_bytes t ++ [])) = simp (append-nil, length-append) in
          walk_table slots xs [] s
          ∙ ap (λ (n : ℕ). record { keys = length t; end = n; rule = cond (eqb n (length (xs ++ (table_bytes t ++ [])))) 0 30 }) l
          ∙ rw (eq-eqb (length (xs ++ (table_bytes t ++ []))) (length (xs ++ (table_bytes t ++ []))) refl)

  -- THEOREM: a walk of as many keys or more over a table's bytes alone passes its keys, to the end
  pub walk_alone : (most : ℕ) → length t ≤ most
      → ((walk_from unslotted (table_bytes t) test 0 0 most).keys ≡ length t) × ((walk_from unslotted (table_bytes t) test 0 0 most).end ≡ length (table_bytes t))
  walk_alone most h =
      rw (← append-nil (table_bytes t))
      (passed_whole unslotted (table_bytes t ++ []) test most (table_passes test unslotted t [] [] rules (λ i l. refl)) h
      (back_end t [] [] (table_fits test t rules) ∙ simp append-nil (zero-add (length (table_bytes t)))))

-- a table has no more keys than its bytes hold heads
pub table_few : (t : List Entry) → 8 * length t ≤ length (table_bytes t)
unfolding table_bytes
table_few [] = omega arith
table_few (e ∷ es) = rw length-append (omega (arith, entry_size e, table_few es))

-- entries that keep the rules have at most 8 + 1,048,576 + 21 × 4,294,967,295 bytes each
pub table_most : (test : DataLength) (t : List Entry) → Each (EntryRules test) t → length (table_bytes t) ≤ length t * (8 + most_key_bytes + 21 * most_versions)
unfolding table_bytes
table_most test [] each_none = omega arith
table_most test (e ∷ es) (each_more r rs) = rw length-append (omega (arith, entry_size e, r.small, r.few, table_most test es rs))
