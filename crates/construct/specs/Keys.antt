-- The hashes of an arena's keys under a seed (document 01, "Layouts" and "Arithmetic and construction").
use Rattle.std.specs.Prelude.{ℕ, zero, suc, List, [], ◌∷◌, ◌++◌}
use Rattle.mixing.specs.Mixing.{hash_of, seed_of}
use Rattle.records.specs.Places.{key_at, entry_place}

-- key i of an arena
abbrev pub arena_key : List ℕ → ℕ → List ℕ
arena_key arena i = key_at arena (entry_place arena 0 i)

-- the hashes of the first n keys under a seed
unfoldable pub hashes_of : ℕ → List ℕ → ℕ → List ℕ
hashes_of seed arena zero = []
hashes_of seed arena (suc i) = hashes_of seed arena i ++ (hash_of seed (arena_key arena i) ∷ [])

-- the hashes under the seed of attempt i
unfoldable pub attempt_hashes : List ℕ → ℕ → ℕ → List ℕ
attempt_hashes arena n i = hashes_of (seed_of i) arena n
