-- The body that finish writes (document 01, "Layouts").
use Rattle.std.specs.Prelude.{ℕ, ◌-◌}
use mathlib.Core.List.{List, [], ◌++◌, flat_map}
use Rattle.std.proofs.Math.Option.{Option, none, some}
use Rattle.words.specs.Field.{bytes_of}
use Rattle.mixing.specs.Mixing.{hash_of, fingerprint_of, seed_of}
use Rattle.records.specs.Places.{entry_place}
use Rattle.construct.specs.Construct.{Placing, construct_of}
use Rattle.construct.specs.Keys.{arena_key, attempt_hashes}
-- where the arena starts, and the header's bytes
unfoldable pub use Rattle.layout.specs.Layout.{arena_start, header_bytes}

-- b pilots of u32
unfoldable pub pilots_bytes : List ℕ → List ℕ
pilots_bytes pilots = flat_map (bytes_of 4) pilots

-- a slot: u64 record offset from the arena start, u16 fingerprint, u16 zero
unfoldable pub slot_bytes : (offset fingerprint : ℕ) → List ℕ
slot_bytes offset fingerprint = bytes_of 8 offset ++ (bytes_of 2 fingerprint ++ bytes_of 2 0)

-- the slot of the key that is held as m + 1: that key's place in the arena, and its fingerprint
unfoldable pub held_slot : List ℕ → (seed held : ℕ) → List ℕ
held_slot arena seed held = slot_bytes (entry_place arena 0 (held - 1)) (fingerprint_of (hash_of seed (arena_key arena (held - 1))))

-- n slots
unfoldable pub slots_bytes : List ℕ → (seed : ℕ) → List ℕ → List ℕ
slots_bytes arena seed slots = flat_map (held_slot arena seed) slots

-- the body of n keys under a seed, their pilots and what the slots hold: header, pilots, slots, arena
unfoldable pub body_bytes : List ℕ → (n seed : ℕ) → Placing → List ℕ
body_bytes arena n seed pl =
    header_bytes seed n ++ (pilots_bytes pl.pilots ++ (slots_bytes arena seed pl.slots ++ arena))

-- the placing of the n keys of an arena, with the attempt that is taken
unfoldable pub placed_of : List ℕ → ℕ → Option (ℕ × Placing)
placed_of arena n = construct_of (attempt_hashes arena n)

-- the body by what construct gave: under the seed of the attempt taken
abbrev pub body_from : List ℕ → ℕ → Option (ℕ × Placing) → List ℕ
body_from arena n none = []
body_from arena n (some (i, pl)) = body_bytes arena n (seed_of i) pl

-- the body of n keys of an arena
unfoldable pub body_of : List ℕ → ℕ → List ℕ
body_of arena n = body_from arena n (placed_of arena n)
