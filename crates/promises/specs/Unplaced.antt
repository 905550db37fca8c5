-- 10 is given: two keys of 16 bytes have equal hashes under each of the eight seeds, so a list of them is taken and no attempt places it; whatever
-- meets finish's contract on its used bytes, with room, answers 10.
use Rattle.std.specs.Prelude.{Result, ℕ, ◌≤◌, ◌<◌, ◌≡◌, List, [], ◌∷◌, length, take}
use Rattle.numbers.specs.Numbers.{number_of}
use Rattle.numbers.specs.declared.Refusal.{Refusal}
use Rattle.records.specs.declared.Kind.TheVariants.{Put}
use Rattle.records.specs.Model.{Entry, table_bytes}
use Rattle.builder.specs.declared.PointBuilder.{PointBuilder}
use Rattle.builder.specs.Taken.{TakenList, TakenInto}
use Rattle.construct.specs.Keys.{attempt_hashes}
use Rattle.construct.specs.Promised.{AttemptFails}
use Rattle.finish.specs.Finish.{keys_of, FinishPost}
use Rattle.promises.specs.Finished.{RoomOf}

-- 41 41 41 41 41 41 41 41 42 42 42 42 42 42 42 42 and 41 41 41 41 51 41 41 41 42 42 42 42 42 42 42 c2, in hex
abbrev pub one_key : List ℕ
one_key = 65 ∷ 65 ∷ 65 ∷ 65 ∷ 65 ∷ 65 ∷ 65 ∷ 65 ∷ 66 ∷ 66 ∷ 66 ∷ 66 ∷ 66 ∷ 66 ∷ 66 ∷ 66 ∷ []

abbrev pub other_key : List ℕ
other_key = 65 ∷ 65 ∷ 65 ∷ 65 ∷ 81 ∷ 65 ∷ 65 ∷ 65 ∷ 66 ∷ 66 ∷ 66 ∷ 66 ∷ 66 ∷ 66 ∷ 66 ∷ 194 ∷ []

-- a put of 8 bytes of each
unfoldable pub pair_table : List Entry
pair_table =
    record { key = one_key; versions = record { kind = Put; sequence = 9; offset = 0; length = 8 } ∷ [] }
    ∷ record { key = other_key; versions = record { kind = Put; sequence = 7; offset = 8; length = 8 } ∷ [] }
    ∷ []

unfoldable pub pair_arena : List ℕ
pair_arena = table_bytes pair_table

pub record Unplaced : Type 0 where
  -- the builder takes it, into any buffer of 90 bytes or more
  pub pair_taken : (buffer : List ℕ) → 90 ≤ length buffer → TakenInto buffer pair_table
  -- each of the eight attempts fails
  pub pair_fails : (i : ℕ) → i < 8 → AttemptFails (attempt_hashes pair_arena (keys_of pair_arena) i)
  -- where the list is taken, whatever meets finish's contract on its used bytes, with room for 150 bytes, 4 words of 64 bits and 24 of 32,
  -- answers 10
  pub ten_given : {s : PointBuilder} {buffer out wide narrow out' wide' narrow' : List ℕ} {r : Result ℕ Refusal} → TakenList s buffer pair_table → RoomOf 150 4 24 (length out) (length wide) (length narrow)
      → FinishPost (take s.used buffer) out wide narrow r out' wide' narrow' → number_of r ≡ 10
