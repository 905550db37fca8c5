-- Idle indexes are shut out: a finish that answers 10 each time, a get that always says nothing, an index that places only its first key.
use Rattle.numbers.specs.declared.Refusal.TheVariants.{Attempts}
use Rattle.std.specs.Prelude.{Err, Ok, Result, ℕ, ◌<◌, ◌≡◌, List, [], ◌∷◌, ◌⊎◌, length, take, None}
use Rattle.numbers.specs.declared.Refusal.{Refusal}
use Rattle.records.specs.declared.Kind.TheVariants.{Put, Tombstone}
use Rattle.records.specs.declared.Record.{Record}
use Rattle.records.specs.Example.{example_arena}
use Rattle.records.specs.Model.{Entry, table_bytes}
use Rattle.point.specs.declared.Answer.TheVariants.{Found, Nothing}
use Rattle.point.specs.Get.{get_of}
use Rattle.point.specs.Table.{OneBelow, Belongs}
use Rattle.finish.specs.Finish.{FinishPost}
use Rattle.promises.specs.Finished.{RoomOf}

-- a put of 8 bytes
abbrev pub put_of : (sequence offset : ℕ) → Record
put_of sequence offset = record { kind = Put; sequence = sequence; offset = offset; length = 8 }

-- key A alone
unfoldable pub one_table : List Entry
one_table = record { key = 65 ∷ []; versions = put_of 9 0 ∷ [] } ∷ []

unfoldable pub one_arena : List ℕ
one_arena = table_bytes one_table

-- one key, finished with room: 78 bytes, 2 words of 64 bits, 16 of 32
pub record OneKey (r : Result ℕ Refusal) (out' : List ℕ) : Type 0 where
  -- the answer is the body, and get finds the key in what was written
  pub one_finished : r ≡ Ok 78
  pub one_found : get_of (take 78 out') 8 (65 ∷ []) None ≡ Found (put_of 9 0)
  -- a get that always says nothing is shut out
  pub never_nothing : get_of (take 78 out') 8 (65 ∷ []) None ≡ Nothing → ⊥

-- three keys, those of document 01's example, finished with room
pub record ThreeKeys (r : Result ℕ Refusal) (out' : List ℕ) : Type 0 where
  -- the answer is the body, and get finds the greatest record of each of the three keys in what was written
  pub all_finished : r ≡ Ok 204
  pub all_found : (get_of (take 204 out') 116 (65 ∷ []) None ≡ Found (put_of 9 100))
      × (get_of (take 204 out') 116 (66 ∷ []) None ≡ Found (record { kind = Tombstone; sequence = 7; offset = 108; length = 0 }))
      × (get_of (take 204 out') 116 (67 ∷ []) None ≡ Found (put_of 12 108))
  -- each of its three slots belongs to exactly one of the three keys, and each of the three keys has exactly one slot
  pub slots_owned : (s : ℕ) → s < 3 → OneBelow 3 (Belongs (take 204 out') s)
  pub keys_placed : (i : ℕ) → i < 3 → OneBelow 3 (λ s. Belongs (take 204 out') s i)
  -- an index that places only its first key is shut out: another key would have no slot, and get would miss it
  pub never_unplaced : (i : ℕ) → 0 < i → i < 3 → ((s : ℕ) → s < 3 → Belongs (take 204 out') s i → ⊥) → ⊥
  pub never_first_only : (get_of (take 204 out') 116 (66 ∷ []) None ≡ Nothing) ⊎ (get_of (take 204 out') 116 (67 ∷ []) None ≡ Nothing) → ⊥

pub record IdleIndex : Type 0 where
  -- a finish that answers 10 each time is shut out: for one key no call that meets finish's contract answers 10
  pub never_ten : {out wide narrow out' wide' narrow' : List ℕ} → FinishPost one_arena out wide narrow (Err Attempts) out' wide' narrow' → ⊥
  pub one_key_is : {out wide narrow out' wide' narrow' : List ℕ} {r : Result ℕ Refusal} → RoomOf 78 2 16 (length out) (length wide) (length narrow) → FinishPost one_arena out wide narrow r out' wide' narrow' → OneKey r out'
  pub three_keys : {out wide narrow out' wide' narrow' : List ℕ} {r : Result ℕ Refusal} → RoomOf 204 6 32 (length out) (length wide) (length narrow) → FinishPost example_arena out wide narrow r out' wide' narrow'
      → ThreeKeys r out'
