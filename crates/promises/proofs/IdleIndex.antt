-- Idle indexes are shut out: one key is placed by computing, three are the example. Assumes nothing.
use Rattle.numbers.specs.declared.Refusal.TheVariants.{Attempts}
use Rattle.std.specs.Prelude.{Err, Ok, Result, None}
use Rattle.numbers.specs.Numbers.{answered, number_of}
use Rattle.numbers.specs.declared.Refusal.{Refusal}
use Prim.Native.Nat.{ℕ, ◌+◌, ◌≤◌, ◌<◌}
use native.Mathlib.Omega.{arith}
use mathlib.Core.Path.{◌≡◌, refl, sym, ap, ◌∙◌, subst}
use mathlib.Core.List.{List, [], ◌∷◌}
use mathlib.Core.Logic.{◌⊎◌, inl, inr}
use mathlib.Core.Option.{some-ne-none}
use lib.ListN.{length, take}
use Rattle.laws.specs.Each.{each_none, each_more}
use Rattle.words.specs.Field.{spelled, le, bytes_of}
use Rattle.words.specs.Part.{order_of, same_as}
use Rattle.words.proofs.Laws.{bytes_tested}
use Rattle.words.specs.Field.{AllBytes}
use Rattle.mixing.specs.Mixing.{hash_of, seed_of}
use Rattle.layout.specs.Layout.{keys_in}
use Rattle.records.specs.declared.Kind.TheVariants.{Tombstone}
use Rattle.records.specs.Example.{example_table, example_arena}
use Rattle.records.specs.Model.{Entry, version_bytes, versions_bytes, entry_bytes, table_bytes, within, better, greatest, records_of, lookup}
use Rattle.records.specs.Places.{key_at, record_at, versions_from, entry_at, entries_from}
use Rattle.records.specs.Rules.{key_rises, key_refusal, sequence_falls, version_refusal, versions_refusal, entry_refusal}
use Rattle.records.specs.Tables.{TableInData}
use Rattle.records.specs.Walk.{walk_from}
use Rattle.construct.specs.Construct.{buckets_of, attempt_of}
use Rattle.construct.specs.Keys.{arena_key, hashes_of, attempt_hashes}
use Rattle.construct.proofs.Figures.{one_key_is}
use Rattle.point.specs.declared.Answer.TheVariants.{Found, Nothing}
use Rattle.point.specs.Get.{get_of, answer_number}
use Rattle.point.specs.Table.{OneBelow, Belongs, answer_to}
use Rattle.point.proofs.SlotLaws.{slot_owner, owner_slot}
use Rattle.finish.specs.Body.{arena_start}
use Rattle.finish.specs.Finish.{walked, keys_of, lengths_refusal, body_length, finish_of, FinishPost}
use Rattle.finish.proofs.LengthLaws.{length_fits}
use Rattle.finish.proofs.Answers.{finish_number, ten_exhausts, body_or_ten}
use Rattle.finish.proofs.Accepted.{finish_get}
use Rattle.promises.specs.Finished.{RoomOf}
use Rattle.promises.specs.Example.{example_body}
use Rattle.promises.specs.IdleIndex.{put_of, one_table, one_arena, ThreeKeys, IdleIndex}
use Rattle.promises.proofs.Finished.{output_body}
use Rattle.promises.proofs.Example.{example}

one_bytes : AllBytes one_arena
unfolding one_arena one_table table_bytes entry_bytes versions_bytes version_bytes bytes_of
one_bytes = bytes_tested one_arena refl

one_keys : keys_of one_arena ≡ 1
unfolding one_arena one_table table_bytes entry_bytes versions_bytes version_bytes bytes_of le spelled walked walk_from entry_refusal key_refusal key_rises key_at order_of versions_refusal version_refusal sequence_falls
one_keys = refl

one_end : (walked one_arena).end ≡ length one_arena
unfolding one_arena one_table table_bytes entry_bytes versions_bytes version_bytes bytes_of le spelled walked walk_from entry_refusal key_refusal key_rises key_at order_of versions_refusal version_refusal sequence_falls
one_end = refl

one_body : body_length one_arena (keys_of one_arena) ≡ 78
unfolding one_arena one_table table_bytes entry_bytes versions_bytes version_bytes bytes_of le spelled walked walk_from entry_refusal key_refusal key_rises key_at order_of versions_refusal version_refusal sequence_falls arena_start buckets_of
one_body = refl

one_entries : entries_from one_arena 0 (keys_of one_arena) ≡ one_table
unfolding one_arena one_table table_bytes entry_bytes versions_bytes version_bytes bytes_of le spelled walked walk_from entry_refusal key_refusal key_rises key_at order_of versions_refusal version_refusal sequence_falls entries_from entry_at versions_from record_at
one_entries = refl

-- its hash under the seed of attempt i, alone
one_hashes : (i : ℕ) → attempt_hashes one_arena (keys_of one_arena) i ≡ hash_of (seed_of i) (arena_key one_arena 0) ∷ []
unfolding attempt_hashes hashes_of
one_hashes i = ap (λ (n : ℕ). attempt_hashes one_arena n i) one_keys

one_number : (out wide narrow : ℕ) → number_of (finish_of one_arena out wide narrow) ≡ 10 → ⊥
one_number out wide narrow e =
    some-ne-none _ (sym (one_key_is (hash_of (seed_of 0) (arena_key one_arena 0))) ∙ ap attempt_of (sym (one_hashes 0)) ∙ ten_exhausts one_arena out wide narrow e 0 (omega arith))

never_ten : {out wide narrow out' wide' narrow' : List ℕ} → FinishPost one_arena out wide narrow (Err Attempts) out' wide' narrow' → ⊥
never_ten {out} {wide} {narrow} P = one_number (length out) (length wide) (length narrow) (ap number_of (sym P.answer))

module _ {out wide narrow out' wide' narrow' : List ℕ} {r : Result ℕ Refusal} (R : RoomOf 78 2 16 (length out) (length wide) (length narrow)) (P : FinishPost one_arena out wide narrow r out' wide' narrow') where
  one_fits : lengths_refusal one_arena (length out) (length wide) (length narrow) ≡ 0
  one_fits =
      sym
      (length_fits (length one_arena) (walked one_arena).end (keys_of one_arena) (length out) (length wide) (length narrow) one_end
      (λ z. omega (arith, one_keys)) (omega (arith, one_keys)) (omega (arith, one_keys, R.wide_room)) (omega (arith, one_keys, R.narrow_room)) (omega (arith, one_body, R.out_room)))

  one_finished : r ≡ Ok 78
  unfolding finish_of
  one_finished = go (body_or_ten one_arena (length out) (length wide) (length narrow) (omega (arith, one_keys)) one_fits)
    where
      go : (number_of (finish_of one_arena (length out) (length wide) (length narrow)) ≡ 0) ⊎ (number_of (finish_of one_arena (length out) (length wide) (length narrow)) ≡ 10) → r ≡ Ok 78
      go (inl z) =
          P.answer ∙ ap (λ (x : ℕ). answered x (body_length one_arena (keys_of one_arena))) (sym (finish_number one_arena (length out) (length wide) (length narrow)) ∙ z) ∙ ap Ok one_body
      go (inr t) = absurd (one_number (length out) (length wide) (length narrow) t)

  one_post : FinishPost one_arena out wide narrow (Ok 78) out' wide' narrow'
  one_post = subst (λ (x : Result ℕ Refusal). FinishPost one_arena out wide narrow x out' wide' narrow') one_finished P

  one_found : get_of (take 78 out') 8 (65 ∷ []) None ≡ Found (put_of 9 0)
  unfolding one_table lookup records_of greatest better within same_as
  one_found =
      let inside : 0 + 8 ≤ 8 = omega arith in
      let covered : TableInData 8 one_table = each_more (each_more inside each_none) each_none in
      ap (λ (b : List ℕ). get_of b 8 (65 ∷ []) None) (output_body one_bytes one_post)
      ∙ finish_get one_arena (length out) (length wide) (length narrow) 78 one_bytes (sym one_post.answer) 8 (subst (TableInData 8) (sym one_entries) covered) (65 ∷ []) None
      ∙ ap (λ (t : List Entry). answer_to (lookup t (65 ∷ []) None)) one_entries

  never_nothing : get_of (take 78 out') 8 (65 ∷ []) None ≡ Nothing → ⊥
  never_nothing e = omega (arith, ap answer_number (sym one_found ∙ e))

-- ---- three keys: document 01's example

-- the body has three keys
body_keys : keys_in example_body ≡ 3
unfolding example_body le spelled
body_keys = refl

module _ {out wide narrow out' wide' narrow' : List ℕ} {r : Result ℕ Refusal} (R : RoomOf 204 6 32 (length out) (length wide) (length narrow)) (P : FinishPost example_arena out wide narrow r out' wide' narrow') where
  all_finished : r ≡ Ok 204
  all_finished = (example.example_output R P).0

  found : (key : List ℕ) → get_of (take 204 out') 116 key None ≡ answer_to (lookup example_table key None)
  found key = ap (λ (b : List ℕ). get_of b 116 key None) (example.example_output R P).1 ∙ example.example_read key None

  all_found : (get_of (take 204 out') 116 (65 ∷ []) None ≡ Found (put_of 9 100))
      × (get_of (take 204 out') 116 (66 ∷ []) None ≡ Found (record { kind = Tombstone; sequence = 7; offset = 108; length = 0 }))
      × (get_of (take 204 out') 116 (67 ∷ []) None ≡ Found (put_of 12 108))
  unfolding example_table lookup records_of greatest better within same_as
  all_found = (found (65 ∷ []), found (66 ∷ []), found (67 ∷ []))

  slots_owned : (s : ℕ) → s < 3 → OneBelow 3 (Belongs (take 204 out') s)
  slots_owned s l =
      subst (λ (b : List ℕ). OneBelow 3 (Belongs b s)) (sym (example.example_output R P).1)
      (subst (λ (n : ℕ). OneBelow n (Belongs example_body s)) body_keys (slot_owner example_body 116 example.example_accepted s (omega (arith, body_keys))))

  keys_placed : (i : ℕ) → i < 3 → OneBelow 3 (λ s. Belongs (take 204 out') s i)
  keys_placed i l =
      subst (λ (b : List ℕ). OneBelow 3 (λ s. Belongs b s i)) (sym (example.example_output R P).1)
      (subst (λ (n : ℕ). OneBelow n (λ s. Belongs example_body s i)) body_keys (owner_slot example_body 116 example.example_accepted i (omega (arith, body_keys))))

  never_unplaced : (i : ℕ) → 0 < i → i < 3 → ((s : ℕ) → s < 3 → Belongs (take 204 out') s i → ⊥) → ⊥
  never_unplaced i other low f = let p = keys_placed i low in f p.number p.low p.has

  never_first_only : (get_of (take 204 out') 116 (66 ∷ []) None ≡ Nothing) ⊎ (get_of (take 204 out') 116 (67 ∷ []) None ≡ Nothing) → ⊥
  never_first_only (inl e) = omega (arith, ap answer_number (sym all_found.1 ∙ e))
  never_first_only (inr e) = omega (arith, ap answer_number (sym all_found.2 ∙ e))

  three : ThreeKeys r out'
  three = record {
    all_finished = all_finished;
    all_found = all_found;
    slots_owned = slots_owned;
    keys_placed = keys_placed;
    never_unplaced = never_unplaced;
    never_first_only = never_first_only;
  }

-- THEOREM: idle indexes are shut out
pub idle_index : IdleIndex
idle_index = record {
  never_ten = never_ten;
  one_key_is = λ R P. record { one_finished = one_finished R P; one_found = one_found R P; never_nothing = never_nothing R P };
  three_keys = three;
}
