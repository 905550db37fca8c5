-- Two results that meet a public call's contract coincide, every lent byte and word included: a sentence for each call, no exception.
use Rattle.std.specs.Prelude.{Result, ℕ, ◌≡◌, List}
use Rattle.numbers.specs.declared.Refusal.{Refusal}
use Rattle.mixing.specs.Mixing.{mix_of, hash_of}
use Rattle.records.specs.Limits.{Limit}
use Rattle.builder.specs.declared.PointBuilder.{PointBuilder}
use Rattle.builder.specs.Add.{Added}
use Rattle.builder.specs.State.{empty_builder}
use Rattle.builder.specs.Add.{Call, AddPost}
use Rattle.builder.specs.SetOffset.{SetPost}
use Rattle.finish.specs.Finish.{FinishPost}
use Rattle.point.specs.Validate.{validate_of}
use Rattle.point.specs.Get.{locate_of, open_record_of, open_of, get_of, ValuePost}
use Rattle.filter.specs.declared.SstFilter.{SstFilter}
use Rattle.filter.specs.declared.Built.{Built}
use Rattle.filter.specs.Reading.{read_of}
use Rattle.filter.specs.Asking.{ask_of, ask_cells_of}
use Rattle.filter.specs.Writing.{WritePost}
use Rattle.filter.specs.Building.{BuildPost}
use Rattle.lines.specs.Shown.{Rule}
use Rattle.lines.specs.Listing.{Listing}
use Rattle.kiban_c.specs.SortCalls.{SortCall}
use Rattle.kiban_c.specs.BuilderCalls.{AddCall, SetOffsetCall}
use Rattle.kiban_c.specs.FinishCalls.{FinishCall}
use Rattle.kiban_c.specs.PointCalls.{validate_call_of, GetCall}
use Rattle.kiban_c.specs.FilterCalls.{FilterBuildCall, FilterReadCall, filter_ask_of, FilterAskAllCall}
use Rattle.kiban_c.specs.LinesCalls.{ListingCall}

-- two results that are one value coincide
abbrev pub OneValue : {A : Type 0} → A → Type 0
OneValue {A} a = (r q : A) → r ≡ a → q ≡ a → r ≡ q

-- the calls of builder, finish, point, filter and lines
pub record Unique : Type 0 where
  -- PointBuilder::empty: the state
  pub empty_unique : OneValue empty_builder
  -- PointBuilder::add: the answer with the next state, and the buffer
  pub add_unique : {s : PointBuilder} {before : List ℕ} {call : Call} {r q : Added} {after later : List ℕ} → AddPost s before call r after → AddPost s before call q later → (r ≡ q) × (after ≡ later)
  -- PointBuilder::set_value_offset: the answer and the buffer
  pub set_unique : {s : PointBuilder} {before : List ℕ} {place offset : ℕ} {r q : Result (Unit {0}) Refusal} {after later : List ℕ}
      → SetPost s before place offset r after → SetPost s before place offset q later → (r ≡ q) × (after ≡ later)
  -- finish: the answer, the output and both workspaces
  pub finish_unique : {arena out wide narrow : List ℕ} {r q : Result ℕ Refusal} {o w n o' w' n' : List ℕ}
      → FinishPost arena out wide narrow r o w n → FinishPost arena out wide narrow q o' w' n' → (r ≡ q) × (o ≡ o') × (w ≡ w') × (n ≡ n')
  -- validate: the answer
  pub validate_unique : (body : List ℕ) (size : ℕ) → OneValue (validate_of body size)
  -- locate: the answer
  pub locate_unique : (body key : List ℕ) → OneValue (locate_of body key)
  -- open_record: the answer
  pub open_record_unique : (body : List ℕ) (place : ℕ) (key : List ℕ) → OneValue (open_record_of body place key)
  -- open: the answer
  pub open_unique : (body key : List ℕ) → OneValue (open_of body key)
  -- get: the answer
  pub get_unique : (body : List ℕ) (size : ℕ) (key : List ℕ) (limit : Limit) → OneValue (get_of body size key limit)
  -- value: the part of the data, its bytes and its place
  pub value_unique : {body bytes key : List ℕ} {limit : Limit} {lent : ℕ × ℕ} {part other : List ℕ} {place elsewhere : ℕ × ℕ}
      → ValuePost body bytes key limit lent part place → ValuePost body bytes key limit lent other elsewhere → (part ≡ other) × (place ≡ elsewhere)
  -- read: the filter
  pub read_unique : (bytes : List ℕ) → OneValue (read_of bytes)
  -- ask: the answer, from the bytes
  pub ask_unique : (bytes : List ℕ) (hash : ℕ) → OneValue (ask_of bytes hash)
  -- ask_cells: the answer, from sizes and cells
  pub ask_cells_unique : (f : SstFilter) (cells : List ℕ) (hash : ℕ) → OneValue (ask_cells_of f cells hash)
  -- write: the answer and the output
  pub write_unique : {f : SstFilter} {cells out : List ℕ} {r q : Result ℕ Refusal} {after later : List ℕ}
      → WritePost f cells out r after → WritePost f cells out q later → (r ≡ q) × (after ≡ later)
  -- build: the answer, the hashes, both workspaces and the output
  pub build_unique : {hashes wide narrow out : List ℕ} {r q : Result Built Refusal} {h w n o h' w' n' o' : List ℕ}
      → BuildPost hashes wide narrow out r h w n o → BuildPost hashes wide narrow out q h' w' n' o' → (r ≡ q) × (h ≡ h') × (w ≡ w') × (n ≡ n') × (o ≡ o')
  -- listing: the answer and the output
  pub listing_unique : {rule : Rule} {input before : List ℕ} {r q : Result ℕ Refusal} {after later : List ℕ}
      → Listing rule input before r after → Listing rule input before q later → (r ≡ q) × (after ≡ later)

-- the functions of the C boundary: the number returned, and every lent byte and word
pub record BoundaryUnique : Type 0 where
  -- kiban_mix: the number
  pub mix_call_unique : (h : ℕ) → OneValue (mix_of h)
  -- kiban_hash: the number
  pub hash_call_unique : (key : List ℕ) (seed : ℕ) → OneValue (hash_of seed key)
  -- kiban_sort: the number and the hashes
  pub sort_call_unique : {hashes h h' : List ℕ} {r q : ℕ} → SortCall hashes r h → SortCall hashes q h' → (r ≡ q) × (h ≡ h')
  -- kiban_add: the number, the buffer, the state and the answer
  pub add_call_unique : {buffer state key answer : List ℕ} {kind size sequence new_key r q : ℕ} {b s a b' s' a' : List ℕ}
      → AddCall buffer state key kind size sequence new_key answer r b s a → AddCall buffer state key kind size sequence new_key answer q b' s' a'
      → (r ≡ q) × (b ≡ b') × (s ≡ s') × (a ≡ a')
  -- kiban_set_offset: the number and the buffer
  pub set_offset_call_unique : {buffer state : List ℕ} {place offset r q : ℕ} {b b' : List ℕ}
      → SetOffsetCall buffer state place offset r b → SetOffsetCall buffer state place offset q b' → (r ≡ q) × (b ≡ b')
  -- kiban_finish: the number, the output, both workspaces and the answer
  pub finish_call_unique : {arena out wide narrow answer : List ℕ} {r q : ℕ} {o w n a o' w' n' a' : List ℕ}
      → FinishCall arena out wide narrow answer r o w n a → FinishCall arena out wide narrow answer q o' w' n' a'
      → (r ≡ q) × (o ≡ o') × (w ≡ w') × (n ≡ n') × (a ≡ a')
  -- kiban_validate: the number
  pub validate_call_unique : (body : List ℕ) (size : ℕ) → OneValue (validate_call_of body size)
  -- kiban_get: the number and the answer
  pub get_call_unique : {body bytes key answer : List ℕ} {limited limit r q : ℕ} {a a' : List ℕ}
      → GetCall body bytes key limited limit answer r a → GetCall body bytes key limited limit answer q a' → (r ≡ q) × (a ≡ a')
  -- kiban_filter_build: the number, the hashes, both workspaces, the output and the answer
  pub filter_build_call_unique : {hashes wide narrow out answer : List ℕ} {r q : ℕ} {h w n o a h' w' n' o' a' : List ℕ}
      → FilterBuildCall hashes wide narrow out answer r h w n o a → FilterBuildCall hashes wide narrow out answer q h' w' n' o' a'
      → (r ≡ q) × (h ≡ h') × (w ≡ w') × (n ≡ n') × (o ≡ o') × (a ≡ a')
  -- kiban_filter_read: the number and the answer
  pub filter_read_call_unique : {bytes answer : List ℕ} {r q : ℕ} {a a' : List ℕ} → FilterReadCall bytes answer r a → FilterReadCall bytes answer q a' → (r ≡ q) × (a ≡ a')
  -- kiban_filter_ask: the number
  pub filter_ask_call_unique : (bytes : List ℕ) (hash : ℕ) → OneValue (filter_ask_of bytes hash)
  -- kiban_filter_ask_all: the number and the answers
  pub filter_ask_all_call_unique : {bytes hashes answers : List ℕ} {r q : ℕ} {a a' : List ℕ}
      → FilterAskAllCall bytes hashes answers r a → FilterAskAllCall bytes hashes answers q a' → (r ≡ q) × (a ≡ a')
  -- kiban_listing: the number, the output and the answer
  pub listing_call_unique : {input out answer : List ℕ} {r q : ℕ} {o a o' a' : List ℕ}
      → ListingCall input out answer r o a → ListingCall input out answer q o' a' → (r ≡ q) × (o ≡ o') × (a ≡ a')
