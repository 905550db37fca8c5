-- A taken list that no attempt places: its two keys' hashes are computed equal in mixrule. Assumes nothing.
use Rattle.std.specs.Prelude.{Result, None}
use Rattle.numbers.specs.Numbers.{number_of}
use Rattle.numbers.specs.declared.Refusal.{Refusal}
use Prim.Native.Nat.{ℕ, ◌+◌, ◌≤◌, ◌<◌}
use native.Mathlib.Omega.{arith}
use mathlib.Core.Path.{◌≡◌, refl, sym, ap, ◌∙◌, subst}
use mathlib.Core.List.{List, [], ◌∷◌}
use mathlib.Core.Logic.{inl}
use lib.ListN.{length, take}
use Rattle.laws.specs.Each.{Each, each_none, each_more}
use Rattle.words.specs.Field.{spelled, le, bytes_of}
use Rattle.words.specs.Part.{order_of}
use Rattle.words.proofs.Laws.{bytes_tested}
use Rattle.words.specs.Field.{AllBytes}
use Rattle.mixing.specs.Mixing.{hash_of, bucket_of, seed_of}
use Rattle.mixing.specs.Example.{equal_pair}
use Rattle.records.specs.Model.{version_bytes, versions_bytes, entry_bytes, table_bytes}
use Rattle.records.specs.Places.{key_at, record_at, versions_from, entry_at, entries_from, entry_place}
use Rattle.records.specs.Rules.{unslotted, key_rises, key_refusal, sequence_falls, version_refusal, versions_refusal, entry_refusal}
use Rattle.records.specs.Tables.{TableRules}
use Rattle.records.specs.Walk.{walk_from}
use Rattle.records.proofs.Theorems.{read_back}
use Rattle.builder.specs.declared.PointBuilder.{PointBuilder}
use Rattle.builder.specs.Taken.{KeyBytes, TakenList, TakenInto}
use Rattle.builder.proofs.TakenTheorems.{taken_state}
use Rattle.construct.specs.Construct.{buckets_of}
use Rattle.construct.specs.Keys.{hashes_of, attempt_hashes}
use Rattle.construct.specs.Promised.{AttemptFails}
use Rattle.finish.specs.Body.{arena_start}
use Rattle.finish.specs.Finish.{walked, keys_of, FinishPost}
use Rattle.builder.proofs.TakenExists.{rules_taken}
use Rattle.promises.specs.Finished.{RoomOf, RoomFor}
use Rattle.promises.specs.Unplaced.{one_key, other_key, pair_table, pair_arena, Unplaced}
use Rattle.promises.proofs.Refused.{finish_refusals}
use Rattle.promises.proofs.Taken.{taken_kept}
use Rattle.promises.proofs.Finished.{lengths_pass}

-- ---- the list

pair_bytes : AllBytes pair_arena
unfolding pair_arena pair_table table_bytes entry_bytes versions_bytes version_bytes bytes_of
pair_bytes = bytes_tested pair_arena refl

pair_keys : keys_of pair_arena ≡ 2
unfolding pair_arena pair_table table_bytes entry_bytes versions_bytes version_bytes bytes_of le spelled walked walk_from entry_refusal key_refusal key_rises key_at order_of versions_refusal version_refusal sequence_falls
pair_keys = refl

pair_entries : entries_from pair_arena 0 (keys_of pair_arena) ≡ pair_table
unfolding pair_arena pair_table table_bytes entry_bytes versions_bytes version_bytes bytes_of le spelled key_at entries_from entry_at versions_from record_at
pair_entries = rw pair_keys

pair_rules : TableRules None pair_table
unfolding walked
pair_rules = subst (TableRules None) pair_entries (read_back unslotted pair_arena None 0 0 (length pair_arena) pair_bytes (omega arith)).rules

pair_key_bytes : Each KeyBytes pair_table
unfolding pair_table
pair_key_bytes = each_more (bytes_tested one_key refl) (each_more (bytes_tested other_key refl) each_none)

pair_taken : (buffer : List ℕ) → 90 ≤ length buffer → TakenInto buffer pair_table
unfolding pair_table table_bytes entry_bytes versions_bytes version_bytes bytes_of
pair_taken buffer room = rules_taken pair_table pair_rules pair_key_bytes (omega arith) buffer room

-- ---- no attempt places it

pair_hashes_lem : (i : ℕ) → attempt_hashes pair_arena 2 i ≡ hash_of (seed_of i) one_key ∷ hash_of (seed_of i) other_key ∷ []
unfolding attempt_hashes hashes_of pair_arena pair_table table_bytes entry_bytes versions_bytes version_bytes bytes_of le spelled entry_place key_at
pair_hashes_lem i = refl

-- two members of a bucket have equal hashes
equal_fails : (h g : ℕ) → h ≡ g → AttemptFails (h ∷ g ∷ [])
equal_fails h g e = inl (record {
  one = 0;
  other = 1;
  keys = (omega arith, omega arith);
  apart = λ z. omega arith;
  bucket = ap (λ (x : ℕ). bucket_of x (buckets_of 2)) e;
  equal = e;
})

pair_fails : (i : ℕ) → i < 8 → AttemptFails (attempt_hashes pair_arena (keys_of pair_arena) i)
pair_fails i l =
    subst AttemptFails (sym (ap (λ (n : ℕ). attempt_hashes pair_arena n i) pair_keys ∙ pair_hashes_lem i))
    (equal_fails (hash_of (seed_of i) one_key) (hash_of (seed_of i) other_key) (equal_pair i l))

-- the body of the two is so long
pair_length : arena_start (length pair_table) + length pair_arena ≡ 150
unfolding arena_start buckets_of pair_arena pair_table table_bytes entry_bytes versions_bytes version_bytes bytes_of
pair_length = refl

ten_given : {s : PointBuilder} {buffer out wide narrow out' wide' narrow' : List ℕ} {r : Result ℕ Refusal} → TakenList s buffer pair_table → RoomOf 150 4 24 (length out) (length wide) (length narrow)
    → FinishPost (take s.used buffer) out wide narrow r out' wide' narrow' → number_of r ≡ 10
unfolding pair_arena pair_table
ten_given {s} {buffer} {out} {wide} {narrow} t R P =
    let used : take s.used buffer ≡ pair_arena = (taken_kept t).facts.bytes in
    let full : s.used ≡ length pair_arena = ap (λ (x : PointBuilder). x.used) (taken_state t) in
    let room : RoomFor s pair_table (length out) (length wide) (length narrow) = record { out_room = omega (arith, R.out_room, pair_length); wide_room = R.wide_room; narrow_room = R.narrow_room } in
    let pass = (lengths_pass t (omega arith) room).1 in
    (finish_refusals P).cause_ten pass (λ i l. subst (λ (a : List ℕ). AttemptFails (attempt_hashes a (keys_of a) i)) (sym used) (pair_fails i l))

-- THEOREM: 10 is given
pub unplaced : Unplaced
unplaced = record { pair_taken = pair_taken; pair_fails = pair_fails; ten_given = ten_given }
