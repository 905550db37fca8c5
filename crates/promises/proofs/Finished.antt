-- Demand 3 of a list that was taken and finished: its used bytes are its arena, of which finish's theorems speak. Assumes nothing.
use Rattle.std.specs.Prelude.{Ok, Result, None}
use Rattle.numbers.specs.Numbers.{number_of}
use Rattle.numbers.specs.declared.Refusal.{Refusal}
use Prim.Native.Nat.{ℕ, ◌+◌, ◌-◌, ◌<◌, ◌≤◌}
use native.Mathlib.Omega.{arith}
use mathlib.Core.Path.{◌≡◌, sym, ap, ◌∙◌, subst}
use mathlib.Core.Bool.{cond}
use mathlib.Core.List.{List}
use mathlib.Core.Logic.{◌⊎◌}
use lib.Dec.{eqb}
use lib.ListN.{length, take, length-take}
use lib.Seq.{take_all, take_at}
use Rattle.words.specs.Field.{splice}
use Rattle.words.specs.Field.{AllBytes}
use Rattle.records.specs.Model.{Entry, table_bytes, lookup}
use Rattle.records.specs.Places.{entries_from}
use Rattle.records.specs.Rules.{unslotted}
use Rattle.records.specs.Tables.{TableRules, TableInData}
use Rattle.records.proofs.TableLaws.{table_fits}
use Rattle.records.proofs.Theorems.{read_back, walk_alone, table_few}
use Rattle.point.specs.Validate.{validate_of}
use Rattle.point.specs.Get.{part_of, start_of}
use Rattle.point.specs.Table.{table_of, answer_to}
use Rattle.builder.specs.declared.PointBuilder.{PointBuilder}
use Rattle.builder.specs.Taken.{TakenList}
use Rattle.builder.proofs.TakenTheorems.{taken_facts}
use Rattle.builder.proofs.TakenBuffer.{taken_bytes}
use Rattle.finish.specs.Body.{arena_start, body_of}
use Rattle.finish.specs.Finish.{walked, keys_of, lengths_refusal, finish_refusal, finish_of, out_after, FinishPost}
use Rattle.finish.proofs.LengthLaws.{length_fits}
use Rattle.finish.proofs.Answers.{finish_number, body_or_ten}
use Rattle.finish.proofs.Accepted.{made, finish_accepted, finish_table, finish_length, finish_bytes}
use Rattle.point.proofs.Theorems.{get_is_lookup, value_is_part}
use Rattle.promises.specs.Finished.{ListFinished, ReadsLike, RoomFor, OnFinished}

-- ---- the output of a finish that answers a body

module _ {arena out wide narrow out' wide' narrow' : List ℕ} {k : ℕ} (all : AllBytes arena) (P : FinishPost arena out wide narrow (Ok k) out' wide' narrow') where
  no_refusal : finish_refusal arena (length out) (length wide) (length narrow) ≡ 0
  no_refusal = sym (finish_number arena (length out) (length wide) (length narrow)) ∙ ap number_of (sym P.answer)

  output_splice : out' ≡ splice out 0 (body_of arena (keys_of arena))
  unfolding out_after
  output_splice = P.out_after_is ∙ ap (λ (x : ℕ). cond (eqb x 0) (splice out 0 (body_of arena (keys_of arena))) out) no_refusal

  pub output_body : take k out' ≡ body_of arena (keys_of arena)
  unfolding splice
  output_body =
      ap (take k) output_splice
      ∙ take_at (body_of arena (keys_of arena)) _ k (finish_length arena (length out) (length wide) (length narrow) k all (sym P.answer))

-- ---- a list that was taken and finished

-- the table that is read from the bytes of a table that keeps the rules
table_again : (arena : List ℕ) (list : List Entry) → AllBytes arena → arena ≡ table_bytes list → TableRules None list
    → (walked arena).end ≡ length arena → list ≡ entries_from arena 0 (keys_of arena)
unfolding walked
table_again arena list all e rules whole =
    let r = read_back unslotted arena None 0 0 (length arena) all (omega arith) in
    r.only list (table_fits None list rules) (sym e ∙ sym (take_all ((walked arena).end - 0) arena (omega arith)))

module _ {s : PointBuilder} {buffer : List ℕ} {list : List Entry} {out wide narrow out' wide' narrow' : List ℕ} {k : ℕ}
    (t : TakenList s buffer list) (F : ListFinished s buffer out wide narrow k out' wide' narrow') where
  body : take k out' ≡ body_of (take s.used buffer) (keys_of (take s.used buffer))
  body = output_body (taken_bytes t) F

  answered : finish_of (take s.used buffer) (length out) (length wide) (length narrow) ≡ Ok k
  answered = sym F.answer

  same : list ≡ entries_from (take s.used buffer) 0 (keys_of (take s.used buffer))
  same =
      table_again (take s.used buffer) list (taken_bytes t) (taken_facts t).bytes (taken_facts t).rules
      (made (take s.used buffer) (length out) (length wide) (length narrow) k answered).whole

  accepted : (size : ℕ) → TableInData size list → validate_of (take k out') size ≡ Ok (record {})
  accepted size inside =
      ap (λ (b : List ℕ). validate_of b size) body
      ∙ finish_accepted (take s.used buffer) (length out) (length wide) (length narrow) k (taken_bytes t) answered size (subst (TableInData size) same inside)

  table : table_of (take k out') ≡ list
  table = ap table_of body ∙ finish_table (take s.used buffer) (length out) (length wide) (length narrow) k (taken_bytes t) answered ∙ sym same

  body_bytes_lem : AllBytes (take k out')
  body_bytes_lem = subst AllBytes (sym body) (finish_bytes (take s.used buffer) (length out) (length wide) (length narrow) k (taken_bytes t) answered)

  pub reads_like : ReadsLike (take k out') list
  reads_like = record {
    list_table = table;
    list_accepted = accepted;
    list_read = λ size inside key limit.
        get_is_lookup (take k out') size (accepted size inside) body_bytes_lem key limit ∙ ap (λ (x : List Entry). answer_to (lookup x key limit)) table;
    list_value = λ {bytes} {key} {limit} {lent} {part} {place} p inside.
        subst
        (λ (x : List Entry). (part ≡ part_of bytes (answer_to (lookup x key limit))) × (place.0 ≡ lent.0) × (place.1 ≡ lent.1 + start_of (answer_to (lookup x key limit))))
        table (value_is_part p (accepted (length bytes) inside) body_bytes_lem);
  }

pub lengths_pass : {s : PointBuilder} {buffer : List ℕ} {list : List Entry} {out wide narrow : ℕ} → TakenList s buffer list → 0 < length list → RoomFor s list out wide narrow
    → (keys_of (take s.used buffer) ≡ length list) × (lengths_refusal (take s.used buffer) out wide narrow ≡ 0)
unfolding walked
lengths_pass {s} {buffer} {list} {out} {wide} {narrow} t any R =
    let arena = take s.used buffer in
    let facts = taken_facts t in
    let few = facts.few in
    let walk = walk_alone None list facts.rules (length (table_bytes list)) (omega (arith, table_few list)) in
    let keys : keys_of arena ≡ length list = ap keys_of facts.bytes ∙ walk.0 in
    let end : (walked arena).end ≡ length arena = ap (λ (a : List ℕ). (walked a).end) facts.bytes ∙ walk.1 ∙ ap length (sym facts.bytes) in
    let none : keys_of arena ≡ 0 → ⊥ = λ z. omega arith in
    let fits : arena_start (keys_of arena) + length arena ≤ out =
    subst (λ (n : ℕ). arena_start n + length arena ≤ out) (sym keys) (omega (arith, length-take s.used buffer, R.out_room)) in
    (keys, sym (length_fits (length arena) (walked arena).end (keys_of arena) out wide narrow end none (omega arith) (omega (arith, R.wide_room)) (omega (arith, R.narrow_room)) fits))

taken_answered : {s : PointBuilder} {buffer out wide narrow out' wide' narrow' : List ℕ} {list : List Entry} {r : Result ℕ Refusal}
    → TakenList s buffer list → 0 < length list → RoomFor s list (length out) (length wide) (length narrow)
    → FinishPost (take s.used buffer) out wide narrow r out' wide' narrow' → (number_of r ≡ 0) ⊎ (number_of r ≡ 10)
taken_answered {s} {buffer} {out} {wide} {narrow} t any R P =
    let pass = lengths_pass t any R in
    subst (λ (x : Result ℕ Refusal). (number_of x ≡ 0) ⊎ (number_of x ≡ 10)) (sym P.answer)
    (body_or_ten (take s.used buffer) (length out) (length wide) (length narrow) (omega (arith, pass.0)) pass.1)

-- THEOREM: demand 3, of a list that was taken and finished
pub on_finished : OnFinished
on_finished = record { output_body = output_body; finished = reads_like; lengths_pass = lengths_pass; taken_answered = taken_answered }
