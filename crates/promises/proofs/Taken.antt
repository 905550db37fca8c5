-- Taken lists, and that no call adds versions oldest first, from the theorems of builder. Assumes nothing.
use Rattle.numbers.specs.Numbers.{number_of}
use Prim.Native.Nat.{ℕ}
use mathlib.Core.Path.{sym, ap, ◌∙◌}
use mathlib.Core.List.{List}
use Rattle.records.specs.Model.{Entry}
use Rattle.builder.specs.declared.PointBuilder.{PointBuilder}
use Rattle.builder.specs.Taken.{TakenList}
use Rattle.builder.proofs.TakenTheorems.{taken_facts, taken_keys}
use Rattle.builder.proofs.TakenExists.{rules_taken}
use Rattle.builder.proofs.TakenBuffer.{taken_bytes, taken_grown}
use Rattle.builder.proofs.OldestFirst as oldest
use Rattle.promises.specs.Taken.{TakenKept, TakenLists, NeverOldestFirst}

pub taken_kept : {s : PointBuilder} {buffer : List ℕ} {list : List Entry} → TakenList s buffer list → TakenKept s buffer list
taken_kept t = record { facts = taken_facts t; keys = taken_keys t; bytes = taken_bytes t }

-- THEOREM: taken lists
pub taken_lists : TakenLists
taken_lists = record { list_taken = rules_taken; taken_kept = taken_kept; list_grown = taken_grown }

-- THEOREM: no call adds versions oldest first
pub never_oldest_first : NeverOldestFirst
never_oldest_first = record {
  added_older = λ {s} {buffer} {list} {call} t P z.
      oldest.added_older buffer call t (ap number_of (sym P.answer) ∙ z);
  never_oldest_first = λ {s} {buffer} front before last {call} t h P.
      let n = oldest.never_oldest_first front before last call t h in
      (λ z. n.0 (ap number_of (sym P.answer) ∙ z), P.buffer ∙ n.1);
  oldest_first_four = λ {s} {buffer} front before last {call} t h small empty P.
      let f = oldest.oldest_first_four front before last call t h small empty in
      (ap number_of (P.answer ∙ f.0), P.buffer ∙ f.1);
}
