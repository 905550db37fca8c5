-- Document 01's example, computed: what hashes, positions and fingerprints its keys have is computed in mixrule. Assumes nothing.
use Rattle.std.specs.Prelude.{Ok, Result, None}
use Rattle.numbers.specs.Numbers.{answered, number_of}
use Rattle.numbers.specs.declared.Refusal.{Refusal}
use Prim.Native.Nat.{ℕ, ◌+◌, ◌≤◌}
use native.Mathlib.Omega.{arith}
use mathlib.Core.Path.{◌≡◌, refl, sym, ap, ◌∙◌, subst}
use mathlib.Core.Bool.{false}
use mathlib.Core.List.{List, [], ◌∷◌, flat_map}
use mathlib.Core.Option.{none, some, bind, map}
use lib.ListN.{length, take}
use Rattle.laws.specs.Each.{Each, each_none, each_more}
use Rattle.laws.specs.Steps.{steps, any_below, maximum}
use Rattle.laws.proofs.StepsLaws.{least_hit, least_miss}
use Rattle.words.specs.Field.{spelled, le, bytes_of}
use Rattle.words.specs.Part.{order_of}
use Rattle.words.proofs.Laws.{bytes_tested}
use Rattle.words.specs.Field.{AllBytes}
use Rattle.mixing.specs.Mixing.{seed_of}
use Rattle.mixing.specs.Example.{hashes, positions, fingerprints}
use Rattle.records.specs.Limits.{Limit}
use Rattle.records.specs.Example.{example_table, example_arena}
use Rattle.records.specs.Model.{Entry, version_bytes, versions_bytes, entry_bytes, table_bytes, lookup}
use Rattle.records.specs.Places.{key_at, record_at, versions_from, entry_at, entries_from, entry_place}
use Rattle.records.specs.Rules.{unslotted, key_rises, key_refusal, sequence_falls, version_refusal, versions_refusal, entry_refusal}
use Rattle.records.specs.Tables.{TableRules, TableInData}
use Rattle.records.specs.Walk.{walk_from}
use Rattle.records.proofs.Theorems.{read_back}
use Rattle.builder.specs.declared.PointBuilder.{PointBuilder}
use Rattle.builder.specs.Taken.{KeyBytes, TakenList, TakenInto}
use Rattle.construct.specs.Construct.{buckets_of, tries, attempts, members, group, size, alike, met, twins, twins_at, any_twins, settle, spot, seat, pilot_noted, place_group, place_of, place_size, place_down, largest, blank, attempt_from, attempt_of, construct_of}
use Rattle.construct.specs.Keys.{hashes_of, attempt_hashes}
use Rattle.construct.proofs.Figures.{one_bucket}
use Rattle.point.specs.Get.{get_of}
use Rattle.point.specs.Table.{table_of, answer_to}
use Rattle.point.specs.Validate.{validate_of}
use Rattle.point.proofs.Theorems.{get_is_lookup}
use Rattle.finish.specs.Body.{arena_start, header_bytes, pilots_bytes, slot_bytes, held_slot, slots_bytes, body_bytes, placed_of, body_of}
use Rattle.finish.specs.Finish.{walked, keys_of, lengths_refusal, placing_refusal, body_length, finish_of, FinishPost}
use Rattle.finish.proofs.LengthLaws.{length_fits}
use Rattle.finish.proofs.FinishLaws.{refused_late}
use Rattle.finish.proofs.SelfCheck.{check_passes}
use Rattle.finish.proofs.Accepted.{finish_accepted, finish_table}
use Rattle.lines.specs.Shown.{newest_tombstone}
use Rattle.lines.specs.Listing.{table_text, size_refusal, listing_refusal, text_by, text_of}
use Rattle.lines.proofs.Figures.{example_text_lem}
use Rattle.builder.proofs.TakenExists.{rules_taken}
use Rattle.promises.specs.Finished.{RoomOf}
use Rattle.promises.specs.Example.{example_placing, example_body, example_input, example_text, Example}
use Rattle.promises.proofs.Taken.{taken_kept}
use Rattle.promises.proofs.Finished.{output_body}

-- ---- the list

example_bytes : AllBytes example_arena
unfolding example_arena example_table table_bytes entry_bytes versions_bytes version_bytes bytes_of
example_bytes = bytes_tested example_arena refl

pub example_keys : keys_of example_arena ≡ 3
unfolding example_arena example_table table_bytes entry_bytes versions_bytes version_bytes bytes_of le spelled walked walk_from entry_refusal key_refusal key_rises key_at order_of versions_refusal version_refusal sequence_falls
example_keys = refl

example_end : (walked example_arena).end ≡ length example_arena
unfolding example_arena example_table table_bytes entry_bytes versions_bytes version_bytes bytes_of le spelled walked walk_from entry_refusal key_refusal key_rises key_at order_of versions_refusal version_refusal sequence_falls
example_end = refl

example_entries : entries_from example_arena 0 (keys_of example_arena) ≡ example_table
unfolding example_arena example_table table_bytes entry_bytes versions_bytes version_bytes bytes_of le spelled key_at entries_from entry_at versions_from record_at
example_entries = rw example_keys

-- every record lies inside data of 116 bytes
example_inside : TableInData 116 example_table
unfolding example_table
example_inside =
    let A9 : 100 + 8 ≤ 116 = omega arith in
    let A4 : 40 + 8 ≤ 116 = omega arith in
    let B7 : 108 + 0 ≤ 116 = omega arith in
    let B3 : 60 + 8 ≤ 116 = omega arith in
    let C12 : 108 + 8 ≤ 116 = omega arith in
    each_more (each_more A9 (each_more A4 each_none)) (each_more (each_more B7 (each_more B3 each_none)) (each_more (each_more C12 each_none) each_none))

example_rules : TableRules None example_table
unfolding walked
example_rules = subst (TableRules None) example_entries (read_back unslotted example_arena None 0 0 (length example_arena) example_bytes (omega arith)).rules

key_bytes : Each KeyBytes example_table
unfolding example_table
key_bytes = each_more (bytes_tested (65 ∷ []) refl) (each_more (bytes_tested (66 ∷ []) refl) (each_more (bytes_tested (67 ∷ []) refl) each_none))

pub example_taken : (buffer : List ℕ) → 132 ≤ length buffer → TakenInto buffer example_table
unfolding example_table table_bytes entry_bytes versions_bytes version_bytes bytes_of
example_taken buffer room = rules_taken example_table example_rules key_bytes (omega arith) buffer room

pub example_used : {s : PointBuilder} {buffer : List ℕ} → TakenList s buffer example_table → take s.used buffer ≡ example_arena
unfolding example_arena
example_used t = (taken_kept t).facts.bytes

-- ---- the attempt

-- the hashes under the seed of attempt 0
abbrev example_hashes : List ℕ
example_hashes = 4075506650429777390 ∷ 17621104146898154821 ∷ 3499391619852859206 ∷ []

hashes_are : attempt_hashes example_arena 3 0 ≡ example_hashes
unfolding attempt_hashes hashes_of example_arena example_table table_bytes entry_bytes versions_bytes version_bytes bytes_of le spelled entry_place key_at
hashes_are = rw (hashes.A, hashes.B, hashes.C)

-- one bucket has them all
the_group : group example_hashes 0 ≡ 0 ∷ 1 ∷ 2 ∷ []
unfolding group members buckets_of
the_group = simp one_bucket

no_twins : any_twins example_hashes ≡ false
unfolding any_twins any_below twins_at twins met alike buckets_of
no_twins = simp the_group

-- pilots 0 and 1 put two keys on one slot, pilot 2 seats them all
pilot_0 : seat example_hashes (0 ∷ 1 ∷ 2 ∷ []) 0 3 (0 ∷ 0 ∷ 0 ∷ []) ≡ none
unfolding seat steps bind settle spot
pilot_0 = simp (positions.A0, positions.B0, positions.C0)

pilot_1 : seat example_hashes (0 ∷ 1 ∷ 2 ∷ []) 1 3 (0 ∷ 0 ∷ 0 ∷ []) ≡ none
unfolding seat steps bind settle spot
pilot_1 = simp (positions.A1, positions.B1)

pilot_2 : seat example_hashes (0 ∷ 1 ∷ 2 ∷ []) 2 3 (0 ∷ 0 ∷ 0 ∷ []) ≡ some (1 ∷ 3 ∷ 2 ∷ [])
unfolding seat steps bind settle spot
pilot_2 = simp (positions.A2, positions.B2, positions.C2)

placed_group : place_group example_hashes 0 (blank example_hashes) ≡ some example_placing
unfolding place_group size blank buckets_of pilot_noted tries
placed_group =
    rw the_group
    (ap (map (pilot_noted 0 0 (blank example_hashes)))
    (least_miss _ 99999 0 pilot_0 ∙ least_miss _ 99998 1 pilot_1 ∙ least_hit _ 99997 2 (1 ∷ 3 ∷ 2 ∷ []) pilot_2))

attempt_placed : attempt_of example_hashes ≡ some example_placing
unfolding attempt_of attempt_from largest maximum size place_down place_size place_of steps bind buckets_of
attempt_placed = simp (no_twins, the_group, placed_group)

pub example_placed : placed_of example_arena 3 ≡ some (0, example_placing)
unfolding placed_of construct_of attempts
example_placed = least_hit _ 7 0 example_placing (ap attempt_of hashes_are ∙ attempt_placed)

-- ---- finish

example_length : body_length example_arena (keys_of example_arena) ≡ 204
unfolding arena_start buckets_of example_arena example_table table_bytes entry_bytes versions_bytes version_bytes bytes_of
example_length = rw example_keys

never_refused : placing_refusal example_arena (keys_of example_arena) ≡ 0
unfolding placing_refusal
never_refused = rw (example_keys, example_placed, check_passes example_arena 3 0 example_placing (omega arith) example_placed)

pub example_finished : (out wide narrow : ℕ) → 204 ≤ out → 6 ≤ wide → 32 ≤ narrow → finish_of example_arena out wide narrow ≡ Ok 204
unfolding finish_of
example_finished out wide narrow o w u =
    ap (λ (r : ℕ). answered r (body_length example_arena (keys_of example_arena))) (refused_late example_arena out wide narrow fits ∙ never_refused)
    ∙ ap Ok example_length
  where
    fits : lengths_refusal example_arena out wide narrow ≡ 0
    fits =
        let keys = example_keys in
        sym
        (length_fits (length example_arena) (walked example_arena).end (keys_of example_arena) out wide narrow example_end
        (λ z. omega arith) (omega arith) (omega arith) (omega arith) (omega (arith, example_length)))

pub example_fits : finish_of example_arena 204 6 32 ≡ Ok 204
example_fits = example_finished 204 6 32 (omega arith) (omega arith) (omega arith)

-- ---- the body

bytes_are : body_bytes example_arena 3 (seed_of 0) example_placing ≡ example_body
unfolding body_bytes header_bytes pilots_bytes slots_bytes held_slot slot_bytes flat_map arena_start buckets_of example_body example_arena example_table table_bytes entry_bytes versions_bytes version_bytes bytes_of le spelled entry_place key_at
bytes_are = rw (hashes.A, hashes.B, hashes.C, fingerprints.A, fingerprints.B, fingerprints.C, hashes.seed)

pub example_body_is : body_of example_arena (keys_of example_arena) ≡ example_body
unfolding body_of
example_body_is = rw (example_keys, example_placed) bytes_are

pub example_output : {out wide narrow out' wide' narrow' : List ℕ} {r : Result ℕ Refusal} → RoomOf 204 6 32 (length out) (length wide) (length narrow) → FinishPost example_arena out wide narrow r out' wide' narrow'
    → (r ≡ Ok 204) × (take 204 out' ≡ example_body)
example_output {out} {wide} {narrow} {out'} {wide'} {narrow'} R P =
    let e = P.answer ∙ example_finished (length out) (length wide) (length narrow) R.out_room R.wide_room R.narrow_room in
    (e, output_body example_bytes (subst (λ (x : Result ℕ Refusal). FinishPost example_arena out wide narrow x out' wide' narrow') e P) ∙ example_body_is)

-- ---- validation and get

pub example_accepted : validate_of example_body 116 ≡ Ok (record {})
example_accepted =
    ap (λ (b : List ℕ). validate_of b 116) (sym example_body_is)
    ∙ finish_accepted example_arena 204 6 32 204 example_bytes example_fits 116 (subst (TableInData 116) (sym example_entries) example_inside)

pub example_table_is : table_of example_body ≡ example_table
example_table_is = ap table_of (sym example_body_is) ∙ finish_table example_arena 204 6 32 204 example_bytes example_fits ∙ example_entries

body_bytes_lem : AllBytes example_body
unfolding example_body
body_bytes_lem = bytes_tested example_body refl

pub example_read : (key : List ℕ) (limit : Limit) → get_of example_body 116 key limit ≡ answer_to (lookup example_table key limit)
example_read key limit =
    get_is_lookup example_body 116 example_accepted body_bytes_lem key limit ∙ ap (λ (t : List Entry). answer_to (lookup t key limit)) example_table_is

-- ---- the listing

not_refused : listing_refusal example_input ≡ 0
unfolding listing_refusal size_refusal example_input example_body bytes_of le spelled
not_refused = ap number_of example_accepted

example_listed : text_of newest_tombstone example_input ≡ example_text
unfolding text_of example_input bytes_of le spelled
example_listed = ap (text_by newest_tombstone example_input) not_refused ∙ ap (table_text newest_tombstone 8) example_table_is ∙ example_text_lem

-- THEOREM: the example, closed
pub example : Example
example = record {
  example_keys = example_keys;
  example_taken = example_taken;
  example_used = example_used;
  example_placed = example_placed;
  example_finished = example_finished;
  example_fits = example_fits;
  example_body_is = example_body_is;
  example_output = example_output;
  example_accepted = example_accepted;
  example_table_is = example_table_is;
  example_read = example_read;
  example_listed = example_listed;
}
