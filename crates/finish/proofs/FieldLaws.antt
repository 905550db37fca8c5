-- The body read back behind its header: its pilots, its slots, its arena, as they were written. Assumes nothing.
use Prim.Native.Nat.{ℕ, suc, ◌+◌, ◌-◌, ◌*◌, ◌/◌, ◌^◌, ◌<◌, ◌≤◌}
use native.Mathlib.Omega.{arith}
use mathlib.Core.Path.{◌≡◌, refl, sym, ap, ◌∙◌}
use mathlib.Core.List.{List, ◌++◌, flat_map, append_assoc}
use lib.ListN.{length, get_or, take, drop, length-append}
use lib.Seq.{length-take-le}
use Rattle.numbers.specs.Limits.{most_keys}
use Rattle.words.specs.Field.{bytes_of}
use Rattle.words.proofs.Laws.{length_bytes_of}
use Rattle.words.proofs.WrittenLaws.{le_written}
use Rattle.mixing.specs.Mixing.{hash_of, fingerprint_of, fingerprint_of_lt}
use Rattle.layout.specs.Layout.{pilot_at, slot_place, record_offset, fingerprint_wide}
use Rattle.layout.proofs.HeaderLaws.{header_long, start_is, buckets_read}
use Rattle.records.specs.Places.{entry_place}
use Rattle.construct.specs.Construct.{buckets_of, Placing}
use Rattle.construct.specs.Keys.{arena_key}
use Rattle.finish.specs.Body.{arena_start, header_bytes, pilots_bytes, slot_bytes, held_slot, slots_bytes, body_bytes}
use Rattle.finish.proofs.RowLaws.{flat_split, flat_long}
use Rattle.finish.proofs.BodyLaws.{held_long, pilots_long, slots_long}

-- a fingerprint and the zero behind it are one number of 32 bits
wide_print : (v : ℕ) → v < 2 ^ 16 → bytes_of 4 v ≡ bytes_of 2 v ++ bytes_of 2 0
unfolding bytes_of
wide_print v h =
    let z : v / 256 / 256 ≡ 0 = omega arith in
    rw z

-- the body of n keys under a seed and a placing
module _ (arena : List ℕ) (n seed : ℕ) (pl : Placing) (most : n ≤ most_keys) where
  pub pilot_read : (k : ℕ) → k < length pl.pilots → get_or pl.pilots k 0 < 2 ^ 32 → pilot_at (body_bytes arena n seed pl) k ≡ get_or pl.pilots k 0
  unfolding body_bytes pilots_bytes
  pilot_read k l h =
      let ps = pl.pilots in
      let after = slots_bytes arena seed pl.slots ++ arena in
      le_written 4 (get_or ps k 0) (32 + 4 * k) (body_bytes arena n seed pl) (header_bytes seed n ++ flat_map (bytes_of 4) (take k ps)) (flat_map (bytes_of 4) (drop (suc k) ps) ++ after) h
      (length-append (header_bytes seed n) (flat_map (bytes_of 4) (take k ps)) ∙ omega (arith, header_long seed n, flat_long (bytes_of 4) 4 (length_bytes_of 4) (take k ps), length-take-le k ps (omega arith)))
      (ap (λ (z : List ℕ). header_bytes seed n ++ (z ++ after)) (flat_split (bytes_of 4) ps k l) ∙ simp append_assoc)

  module _ (np : length pl.pilots ≡ buckets_of n) (s : ℕ) (l : s < length pl.slots) where
    held : ℕ
    held = get_or pl.slots s 0

    before : List ℕ
    before = header_bytes seed n ++ (pilots_bytes pl.pilots ++ flat_map (held_slot arena seed) (take s pl.slots))

    behind : List ℕ
    behind = flat_map (held_slot arena seed) (drop (suc s) pl.slots) ++ arena

    before_long : length before ≡ slot_place (body_bytes arena n seed pl) s
    unfolding before slot_place body_bytes
    before_long =
        simp (length-append, header_long, pilots_long)
        (omega (arith, flat_long (held_slot arena seed) 12 (held_long arena seed) (take s pl.slots), length-take-le s pl.slots (omega arith), buckets_read seed n (omega arith) (pilots_bytes pl.pilots ++ (slots_bytes arena seed pl.slots ++ arena)), np))

    around : body_bytes arena n seed pl ≡ before ++ (held_slot arena seed held ++ behind)
    unfolding before behind held body_bytes slots_bytes
    around =
        ap (λ (z : List ℕ). header_bytes seed n ++ (pilots_bytes pl.pilots ++ (z ++ arena))) (flat_split (held_slot arena seed) pl.slots s l) ∙ simp append_assoc

    pub offset_read : entry_place arena 0 (get_or pl.slots s 0 - 1) < 2 ^ 64 → record_offset (body_bytes arena n seed pl) (slot_place (body_bytes arena n seed pl) s) ≡ entry_place arena 0 (get_or pl.slots s 0 - 1)
    unfolding held held_slot slot_bytes
    offset_read h =
        le_written 8 (entry_place arena 0 (held - 1)) (slot_place (body_bytes arena n seed pl) s) (body_bytes arena n seed pl) before
        (bytes_of 2 (fingerprint_of (hash_of seed (arena_key arena (held - 1)))) ++ (bytes_of 2 0 ++ behind)) h before_long (around ∙ simp append_assoc)

    pub print_read : fingerprint_wide (body_bytes arena n seed pl) (slot_place (body_bytes arena n seed pl) s) ≡ fingerprint_of (hash_of seed (arena_key arena (get_or pl.slots s 0 - 1)))
    unfolding held held_slot slot_bytes
    print_read =
        let fp = fingerprint_of (hash_of seed (arena_key arena (held - 1))) in
        let low : fp < 2 ^ 16 = fingerprint_of_lt (hash_of seed (arena_key arena (held - 1))) in
        le_written 4 fp (slot_place (body_bytes arena n seed pl) s + 8) (body_bytes arena n seed pl) (before ++ bytes_of 8 (entry_place arena 0 (held - 1))) behind (omega arith)
        (length-append before (bytes_of 8 (entry_place arena 0 (held - 1))) ∙ omega (arith, before_long, length_bytes_of 8 (entry_place arena 0 (held - 1))))
        (around ∙ sym (ap (λ (z : List ℕ). (before ++ bytes_of 8 (entry_place arena 0 (held - 1))) ++ (z ++ behind)) (wide_print fp low) ∙ simp append_assoc))

  -- the arena stands behind a front as long as the arena start
  pub before_arena : length pl.pilots ≡ buckets_of n → length pl.slots ≡ n
      → (body_bytes arena n seed pl ≡ (header_bytes seed n ++ (pilots_bytes pl.pilots ++ slots_bytes arena seed pl.slots)) ++ arena)
      × (length (header_bytes seed n ++ (pilots_bytes pl.pilots ++ slots_bytes arena seed pl.slots)) ≡ arena_start n)
  unfolding body_bytes
  before_arena np ns = (
    simp append_assoc,
    simp (length-append, header_long, pilots_long, slots_long) (omega (arith, start_is n (buckets_of n) refl)),
  )
