-- Demand 3, "an index is its record list translated, and reads like the list. If a list was taken and finished, and every record's offset plus
-- length lies inside the data, tombstones too, validation accepts the result": on the very bytes that finish leaves.
use Rattle.std.specs.Prelude.{Ok, Result, ℕ, ◌+◌, ◌*◌, ◌<◌, ◌≤◌, ◌≡◌, List, ◌⊎◌, length, take}
use Rattle.numbers.specs.Numbers.{number_of}
use Rattle.numbers.specs.declared.Refusal.{Refusal}
use Rattle.words.specs.Field.{AllBytes}
use Rattle.records.specs.Limits.{Limit}
use Rattle.records.specs.Model.{Entry, lookup}
use Rattle.records.specs.Tables.{TableInData}
use Rattle.builder.specs.declared.PointBuilder.{PointBuilder}
use Rattle.builder.specs.Taken.{TakenList}
use Rattle.point.specs.Validate.{validate_of}
use Rattle.point.specs.Get.{get_of, part_of, start_of, ValuePost}
use Rattle.point.specs.Table.{table_of, answer_to}
use Rattle.finish.specs.Body.{arena_start, body_of}
use Rattle.finish.specs.Finish.{keys_of, lengths_refusal, FinishPost}

-- a taken list is finished: finish takes exactly its used bytes and answers a body of k bytes, which stand in front of the output out'
abbrev pub ListFinished : PointBuilder → (buffer out wide narrow : List ℕ) → (k : ℕ) → (out' wide' narrow' : List ℕ) → Type 0
ListFinished s buffer out wide narrow k out' wide' narrow' = FinishPost (take s.used buffer) out wide narrow (Ok k) out' wide' narrow'

-- a body reads like a list
pub record ReadsLike (body : List ℕ) (list : List Entry) : Type 0 where
  -- its table is the list
  pub list_table : table_of body ≡ list
  -- if every record's offset plus length lies inside the data, tombstones too, validation accepts it
  pub list_accepted : (size : ℕ) → TableInData size list → validate_of body size ≡ Ok (record {})
  -- and get is the lookup in the list
  pub list_read : (size : ℕ) → TableInData size list → (key : List ℕ) (limit : Limit) → get_of body size key limit ≡ answer_to (lookup list key limit)
  -- the value handed back is the part of the lent data that the list's record names, at its place there; or the data's first zero bytes
  pub list_value : {bytes key : List ℕ} {limit : Limit} {lent : ℕ × ℕ} {part : List ℕ} {place : ℕ × ℕ}
      → ValuePost body bytes key limit lent part place → TableInData (length bytes) list
      → (part ≡ part_of bytes (answer_to (lookup list key limit))) × (place.0 ≡ lent.0) × (place.1 ≡ lent.1 + start_of (answer_to (lookup list key limit)))

-- room: an output of so many bytes, workspace of so many u64 and so many u32
pub record RoomOf (bytes words halves out wide narrow : ℕ) : Type 0 where
  pub out_room : bytes ≤ out
  pub wide_room : words ≤ wide
  pub narrow_room : halves ≤ narrow

-- room for a list: an output as long as its body, workspace of 2n u64 and 8n + 8 u32
abbrev pub RoomFor : PointBuilder → List Entry → (out wide narrow : ℕ) → Type 0
RoomFor s list out wide narrow = RoomOf (arena_start (length list) + s.used) (2 * length list) (8 * length list + 8) out wide narrow

-- DEMAND 3, of a list that was taken and finished
pub record OnFinished : Type 0 where
  -- the bytes that finish answers are the body, in front of the output
  pub output_body : {arena out wide narrow out' wide' narrow' : List ℕ} {k : ℕ} → AllBytes arena
      → FinishPost arena out wide narrow (Ok k) out' wide' narrow' → take k out' ≡ body_of arena (keys_of arena)
  -- and they read like the list
  pub finished : {s : PointBuilder} {buffer out wide narrow out' wide' narrow' : List ℕ} {list : List Entry} {k : ℕ}
      → TakenList s buffer list → ListFinished s buffer out wide narrow k out' wide' narrow' → ReadsLike (take k out') list
  -- a taken list with a record passes finish's length checks where output and workspace are long enough
  pub lengths_pass : {s : PointBuilder} {buffer : List ℕ} {list : List Entry} {out wide narrow : ℕ} → TakenList s buffer list → 0 < length list → RoomFor s list out wide narrow
      → (keys_of (take s.used buffer) ≡ length list) × (lengths_refusal (take s.used buffer) out wide narrow ≡ 0)
  -- so it is finished, or no attempt places its keys (10)
  pub taken_answered : {s : PointBuilder} {buffer out wide narrow out' wide' narrow' : List ℕ} {list : List Entry} {r : Result ℕ Refusal}
      → TakenList s buffer list → 0 < length list → RoomFor s list (length out) (length wide) (length narrow)
      → FinishPost (take s.used buffer) out wide narrow r out' wide' narrow' → (number_of r ≡ 0) ⊎ (number_of r ≡ 10)
