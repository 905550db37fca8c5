-- Demand 1, "a refused call gives the number listed for its cause and changes nothing lent to it, except the zeroed workspace document 01 names":
-- of whatever meets a call's contract, a number above 0 is that whose cause is the first that holds, and nothing lent is changed but the
-- zeroed workspace; and where a cause is the first that holds, its number is given. A record for each call; `Demand1` says that all hold.
use Rattle.std.specs.Prelude.{Result, ℕ, suc, ◌+◌, ◌<◌, ◌≤◌, ◌≡◌, true, false, List, length, replicate}
use Rattle.numbers.specs.Numbers.{number_of}
use Rattle.numbers.specs.declared.Refusal.{Refusal}
use Rattle.laws.specs.Refusals.{First}
use Rattle.words.specs.Field.{AllBytes}
use Rattle.records.specs.Limits.{Limit}
use Rattle.builder.specs.declared.PointBuilder.{PointBuilder}
use Rattle.builder.specs.Add.{Added}
use Rattle.builder.specs.Add.{Call, add_causes, AddPost}
use Rattle.builder.specs.SetOffset.{set_causes, SetPost}
use Rattle.construct.specs.Keys.{attempt_hashes}
use Rattle.construct.specs.Promised.{AttemptFails}
use Rattle.finish.specs.Finish.{keys_of, lengths_refusal, finish_causes, FinishPost}
use Rattle.point.specs.Validate.{validate_of}
use Rattle.point.specs.Get.{locate_of, open_record_of, open_of, get_of, located_number, opened_number, answer_number}
use Rattle.point.specs.Causes.{ValidationStops, LocatingDamaged, RecordDamaged, OpeningDamaged, DamageMet}
use Rattle.filter.specs.declared.SstFilter.{SstFilter}
use Rattle.filter.specs.declared.Built.{Built}
use Rattle.filter.specs.Reading.{Layout, read_of, read_refusal, acceptable}
use Rattle.filter.specs.Asking.{ask_of, ask_number}
use Rattle.filter.specs.Writing.{WritePost}
use Rattle.filter.specs.Building.{build_causes, BuildPost}
use Rattle.lines.specs.Shown.{Rule}
use Rattle.lines.specs.Listing.{text_of, Listing}

-- add (1 to 6)
pub record AddRefused (s : PointBuilder) (before : List ℕ) (call : Call) (r : Added) (after : List ℕ) : Type 0 where
  pub add_refused : (n : ℕ) → 0 < n → number_of r ≡ n → First n (add_causes s before call) × (after ≡ before)
  pub refused_add : (n : ℕ) → First n (add_causes s before call) → number_of r ≡ n

-- set offset (1, 7)
pub record SetRefused (s : PointBuilder) (before : List ℕ) (place : ℕ) (r : Result (Unit {0}) Refusal) (after : List ℕ) : Type 0 where
  pub set_refused : (n : ℕ) → 0 < n → number_of r ≡ n → First n (set_causes s before place) × (after ≡ before)
  pub refused_set : (n : ℕ) → First n (set_causes s before place) → number_of r ≡ n

-- a workspace: as it was at 8, 5, 9 and 6, zero after them
pub record SpaceLeft (refusal : ℕ) (space after : List ℕ) : Type 0 where
  pub kept : (refusal ≡ 0 → ⊥) → after ≡ space
  pub zeroed : refusal ≡ 0 → after ≡ replicate (length space) 0

-- finish (8, 5, 9, 6, 10, 11)
pub record FinishRefused (arena out wide narrow : List ℕ) (r : Result ℕ Refusal) (out' wide' narrow' : List ℕ) : Type 0 where
  pub finish_refused : (n : ℕ) → 0 < n → number_of r ≡ n → First n (finish_causes arena (length out) (length wide) (length narrow)) × (out' ≡ out)
  pub refused_finish : (n : ℕ) → First n (finish_causes arena (length out) (length wide) (length narrow)) → number_of r ≡ n
  -- 10 all eight attempts failed: 8, 5, 9 and 6 come first and are not given, and for each of the eight seeds the attempt over the keys' hashes
  -- under it fails: two members of a bucket have equal hashes, or a bucket of two or more finds no pilot in 0 to 99,999 that puts its members
  -- on distinct unoccupied positions
  pub ten_cause : number_of r ≡ 10
      → (lengths_refusal arena (length out) (length wide) (length narrow) ≡ 0) × ((i : ℕ) → i < 8 → AttemptFails (attempt_hashes arena (keys_of arena) i))
  pub cause_ten : lengths_refusal arena (length out) (length wide) (length narrow) ≡ 0 → ((i : ℕ) → i < 8 → AttemptFails (attempt_hashes arena (keys_of arena) i))
      → number_of r ≡ 10
  -- 11 self-check: what an attempt places passes it, so 11 is never given
  pub never_eleven : number_of r ≡ 11 → ⊥
  -- the workspaces
  pub wide_space : SpaceLeft (lengths_refusal arena (length out) (length wide) (length narrow)) wide wide'
  pub narrow_space : SpaceLeft (lengths_refusal arena (length out) (length wide) (length narrow)) narrow narrow'

-- validate (20 to 30)
pub record ValidateRefused (body : List ℕ) (size : ℕ) : Type 0 where
  pub validate_refused : (n : ℕ) → 0 < n → number_of (validate_of body size) ≡ n → ValidationStops body size n
  pub refused_validate : (n : ℕ) → ValidationStops body size n → number_of (validate_of body size) ≡ n
  pub validate_numbers : (n : ℕ) → ValidationStops body size n → (20 ≤ n) × (n ≤ 30)

-- get (14), and what it starts with: opening a key, which is locating it and opening the record there
pub record GetRefused (body key : List ℕ) : Type 0 where
  pub get_refused : (size : ℕ) (limit : Limit) → answer_number (get_of body size key limit) ≡ 14 → DamageMet body size key limit
  pub refused_get : (size : ℕ) (limit : Limit) → DamageMet body size key limit → answer_number (get_of body size key limit) ≡ 14
  pub open_refused : opened_number (open_of body key) ≡ 14 → OpeningDamaged body key
  pub refused_open : OpeningDamaged body key → opened_number (open_of body key) ≡ 14
  pub open_record_refused : (place : ℕ) → opened_number (open_record_of body place key) ≡ 14 → RecordDamaged body place
  pub refused_open_record : (place : ℕ) → RecordDamaged body place → opened_number (open_record_of body place key) ≡ 14
  pub locate_refused : located_number (locate_of body key) ≡ 14 → LocatingDamaged body key
  pub refused_locate : LocatingDamaged body key → located_number (locate_of body key) ≡ 14
  -- what is not located is opening's answer, and what is not opened is get's: nothing, or 14
  pub unlocated_unopened : (n : ℕ) → located_number (locate_of body key) ≡ suc n → opened_number (open_of body key) ≡ suc n
  pub unopened_unfound : (size : ℕ) (limit : Limit) (n : ℕ) → opened_number (open_of body key) ≡ suc n → answer_number (get_of body size key limit) ≡ suc n

-- filter reading and asking (15): exactly where the bytes have neither layout
pub record ReadRefused (bytes : List ℕ) : Type 0 where
  pub read_refused : read_refusal (read_of bytes) ≡ 15 → (f : SstFilter) → Layout bytes f → ⊥
  pub refused_read : AllBytes bytes → ((f : SstFilter) → Layout bytes f → ⊥) → read_refusal (read_of bytes) ≡ 15
  pub ask_refused : (hash : ℕ) → ask_number (ask_of bytes hash) ≡ 15 → read_refusal (read_of bytes) ≡ 15
  pub refused_ask : (hash : ℕ) → read_refusal (read_of bytes) ≡ 15 → ask_number (ask_of bytes hash) ≡ 15

-- filter writing (15, 6)
pub record WriteRefused (f : SstFilter) (cells out : List ℕ) (r : Result ℕ Refusal) (after : List ℕ) : Type 0 where
  pub write_unaccepted : number_of r ≡ 15 → (acceptable f (length cells) ≡ false) × (after ≡ out)
  pub unaccepted_write : acceptable f (length cells) ≡ false → number_of r ≡ 15
  pub write_short : number_of r ≡ 6 → (acceptable f (length cells) ≡ true) × (length out < 48 + length cells) × (after ≡ out)
  pub short_write : acceptable f (length cells) ≡ true → length out < 48 + length cells → number_of r ≡ 6

-- filter build (12, 9, 6)
pub record BuildRefused (hashes wide narrow out : List ℕ) (r : Result Built Refusal) (hashes' wide' narrow' out' : List ℕ) : Type 0 where
  pub build_refused : (n : ℕ) → 0 < n → number_of r ≡ n → First n (build_causes (length hashes) (length wide) (length narrow) (length out))
      × (hashes' ≡ hashes) × (wide' ≡ wide) × (narrow' ≡ narrow) × (out' ≡ out)
  pub refused_build : (n : ℕ) → First n (build_causes (length hashes) (length wide) (length narrow) (length out)) → number_of r ≡ n

-- listing (6 for a buffer too short; 16 and validation's numbers are its text: `Listed`)
pub record ListingRefused (rule : Rule) (input before : List ℕ) (r : Result ℕ Refusal) (after : List ℕ) : Type 0 where
  pub listing_refused : (n : ℕ) → 0 < n → number_of r ≡ n → (n ≡ 6) × (length before < length (text_of rule input)) × (after ≡ before)
  pub refused_listing : length before < length (text_of rule input) → number_of r ≡ 6

-- DEMAND 1, of each public call below the C boundary (whose own refusals stand in `Boundary`)
pub record Demand1 : Type 0 where
  pub add : {s : PointBuilder} {before : List ℕ} {call : Call} {r : Added} {after : List ℕ} → AddPost s before call r after → AddRefused s before call r after
  pub set_offset : {s : PointBuilder} {before : List ℕ} {place offset : ℕ} {r : Result (Unit {0}) Refusal} {after : List ℕ}
      → SetPost s before place offset r after → SetRefused s before place r after
  pub finish : {arena out wide narrow : List ℕ} {r : Result ℕ Refusal} {out' wide' narrow' : List ℕ}
      → FinishPost arena out wide narrow r out' wide' narrow' → FinishRefused arena out wide narrow r out' wide' narrow'
  pub validate : (body : List ℕ) (size : ℕ) → ValidateRefused body size
  pub get : (body key : List ℕ) → GetRefused body key
  pub read : (bytes : List ℕ) → ReadRefused bytes
  pub write : {f : SstFilter} {cells out : List ℕ} {r : Result ℕ Refusal} {after : List ℕ} → WritePost f cells out r after → WriteRefused f cells out r after
  pub build : {hashes wide narrow out : List ℕ} {r : Result Built Refusal} {hashes' wide' narrow' out' : List ℕ}
      → BuildPost hashes wide narrow out r hashes' wide' narrow' out' → BuildRefused hashes wide narrow out r hashes' wide' narrow' out'
  pub listing : {rule : Rule} {input before : List ℕ} {r : Result ℕ Refusal} {after : List ℕ} → Listing rule input before r after → ListingRefused rule input before r after
