-- Document 01's example, keys A, B and C, with no hypothesis: the builder takes the list, attempt 0 places its keys, finish answers a body of 204
-- bytes and which bytes, validation accepts it for data of 116 bytes, get reads it like the list, and its listing at limit 8 is the two lines.
use Rattle.std.specs.Prelude.{Ok, Result, ℕ, ◌≤◌, ◌≡◌, List, [], ◌∷◌, ◌++◌, length, take}
use Rattle.numbers.specs.declared.Refusal.{Refusal}
use Rattle.std.proofs.Math.Option.{some}
use Rattle.words.specs.Field.{bytes_of}
use Rattle.records.specs.Limits.{Limit}
use Rattle.records.specs.Example.{example_table, example_arena}
use Rattle.records.specs.Model.{lookup}
use Rattle.builder.specs.declared.PointBuilder.{PointBuilder}
use Rattle.builder.specs.Taken.{TakenList, TakenInto}
use Rattle.construct.specs.Construct.{Placing}
use Rattle.point.specs.Get.{get_of}
use Rattle.point.specs.Table.{table_of, answer_to}
use Rattle.point.specs.Validate.{validate_of}
use Rattle.finish.specs.Body.{placed_of, body_of}
use Rattle.finish.specs.Finish.{keys_of, finish_of, FinishPost}
use Rattle.lines.specs.Shown.{newest_tombstone}
use Rattle.lines.specs.Listing.{text_of}
use Rattle.promises.specs.Finished.{RoomOf}

-- the bucket's pilot, and what the slots hold: A, C, B
abbrev pub example_placing : Placing
example_placing = record { pilots = 2 ∷ []; slots = 1 ∷ 3 ∷ 2 ∷ [] }

-- KIBANPH2, the seed, 3, 1, 72; pilot 2; the slots of A, C and B: record offset, fingerprint, zero; the arena: for each key the lengths and
-- the key, then a line for each version
unfoldable pub example_body : List ℕ
example_body =
    75 ∷ 73 ∷ 66 ∷ 65 ∷ 78 ∷ 80 ∷ 72 ∷ 50
    ∷ 175 ∷ 205 ∷ 29 ∷ 123 ∷ 57 ∷ 168 ∷ 32 ∷ 226
    ∷ 3 ∷ 0 ∷ 0 ∷ 0 ∷ 1 ∷ 0 ∷ 0 ∷ 0 ∷ 72 ∷ 0 ∷ 0 ∷ 0 ∷ 0 ∷ 0 ∷ 0 ∷ 0
    ∷ 2 ∷ 0 ∷ 0 ∷ 0
    ∷ 0 ∷ 0 ∷ 0 ∷ 0 ∷ 0 ∷ 0 ∷ 0 ∷ 0 ∷ 25 ∷ 59 ∷ 0 ∷ 0
    ∷ 102 ∷ 0 ∷ 0 ∷ 0 ∷ 0 ∷ 0 ∷ 0 ∷ 0 ∷ 194 ∷ 106 ∷ 0 ∷ 0
    ∷ 51 ∷ 0 ∷ 0 ∷ 0 ∷ 0 ∷ 0 ∷ 0 ∷ 0 ∷ 113 ∷ 246 ∷ 0 ∷ 0
    ∷ 1 ∷ 0 ∷ 0 ∷ 0 ∷ 2 ∷ 0 ∷ 0 ∷ 0 ∷ 65
    ∷ 9 ∷ 0 ∷ 0 ∷ 0 ∷ 0 ∷ 0 ∷ 0 ∷ 0 ∷ 1 ∷ 8 ∷ 0 ∷ 0 ∷ 0 ∷ 100 ∷ 0 ∷ 0 ∷ 0 ∷ 0 ∷ 0 ∷ 0 ∷ 0
    ∷ 4 ∷ 0 ∷ 0 ∷ 0 ∷ 0 ∷ 0 ∷ 0 ∷ 0 ∷ 1 ∷ 8 ∷ 0 ∷ 0 ∷ 0 ∷ 40 ∷ 0 ∷ 0 ∷ 0 ∷ 0 ∷ 0 ∷ 0 ∷ 0
    ∷ 1 ∷ 0 ∷ 0 ∷ 0 ∷ 2 ∷ 0 ∷ 0 ∷ 0 ∷ 66
    ∷ 7 ∷ 0 ∷ 0 ∷ 0 ∷ 0 ∷ 0 ∷ 0 ∷ 0 ∷ 2 ∷ 0 ∷ 0 ∷ 0 ∷ 0 ∷ 108 ∷ 0 ∷ 0 ∷ 0 ∷ 0 ∷ 0 ∷ 0 ∷ 0
    ∷ 3 ∷ 0 ∷ 0 ∷ 0 ∷ 0 ∷ 0 ∷ 0 ∷ 0 ∷ 1 ∷ 8 ∷ 0 ∷ 0 ∷ 0 ∷ 60 ∷ 0 ∷ 0 ∷ 0 ∷ 0 ∷ 0 ∷ 0 ∷ 0
    ∷ 1 ∷ 0 ∷ 0 ∷ 0 ∷ 1 ∷ 0 ∷ 0 ∷ 0 ∷ 67
    ∷ 12 ∷ 0 ∷ 0 ∷ 0 ∷ 0 ∷ 0 ∷ 0 ∷ 0 ∷ 1 ∷ 8 ∷ 0 ∷ 0 ∷ 0 ∷ 108 ∷ 0 ∷ 0 ∷ 0 ∷ 0 ∷ 0 ∷ 0 ∷ 0
    ∷ []

-- the input of its listing: limit 8, data of 116 bytes, the body
unfoldable pub example_input : List ℕ
example_input = bytes_of 8 8 ++ (bytes_of 8 116 ++ example_body)

-- `limit 8 keys 3 shown 1` and `41 4 put 40 8`, each with its newline
abbrev pub example_text : List ℕ
example_text =
    108 ∷ 105 ∷ 109 ∷ 105 ∷ 116 ∷ 32 ∷ 56 ∷ 32 ∷ 107 ∷ 101 ∷ 121 ∷ 115 ∷ 32 ∷ 51 ∷ 32 ∷ 115 ∷ 104 ∷ 111 ∷ 119 ∷ 110 ∷ 32 ∷ 49 ∷ 10
    ∷ 52 ∷ 49 ∷ 32 ∷ 52 ∷ 32 ∷ 112 ∷ 117 ∷ 116 ∷ 32 ∷ 52 ∷ 48 ∷ 32 ∷ 56 ∷ 10 ∷ []

pub record Example : Type 0 where
  -- it has three keys, and the builder takes it, into any buffer of 132 bytes or more
  pub example_keys : keys_of example_arena ≡ 3
  pub example_taken : (buffer : List ℕ) → 132 ≤ length buffer → TakenInto buffer example_table
  -- where it is taken, the used bytes are its arena
  pub example_used : {s : PointBuilder} {buffer : List ℕ} → TakenList s buffer example_table → take s.used buffer ≡ example_arena
  -- attempt 0 is taken, with pilot 2
  pub example_placed : placed_of example_arena 3 ≡ some (0, example_placing)
  -- finish answers a body of 204 bytes, given room for it, 6 words of 64 bits and 32 of 32 bits; exactly that much is enough
  pub example_finished : (out wide narrow : ℕ) → 204 ≤ out → 6 ≤ wide → 32 ≤ narrow → finish_of example_arena out wide narrow ≡ Ok 204
  pub example_fits : finish_of example_arena 204 6 32 ≡ Ok 204
  -- its bytes; and whatever meets finish's contract, with that room, answers the body and leaves it in front of the output
  pub example_body_is : body_of example_arena (keys_of example_arena) ≡ example_body
  pub example_output : {out wide narrow out' wide' narrow' : List ℕ} {r : Result ℕ Refusal} → RoomOf 204 6 32 (length out) (length wide) (length narrow) → FinishPost example_arena out wide narrow r out' wide' narrow'
      → (r ≡ Ok 204) × (take 204 out' ≡ example_body)
  -- validation accepts it for data of 116 bytes, its table is the list, and get on it is the lookup in the list
  pub example_accepted : validate_of example_body 116 ≡ Ok (record {})
  pub example_table_is : table_of example_body ≡ example_table
  pub example_read : (key : List ℕ) (limit : Limit) → get_of example_body 116 key limit ≡ answer_to (lookup example_table key limit)
  -- the whole output of its listing
  pub example_listed : text_of newest_tombstone example_input ≡ example_text
