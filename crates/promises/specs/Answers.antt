-- The last paragraph of document 01: the number and values of each answer that is an enum, in its cases that are no refusal; and that there is
-- no other number. What each number above 0 is given for stands in `Refused`. A record for each answer; `Answers` says that all hold.
use Rattle.std.specs.Prelude.{Err, Option, Result, ℕ, ◌+◌, ◌^◌, ◌<◌, ◌≤◌, ◌≡◌, true, cond, List, [], ◌∷◌, ◌++◌, ◌⊎◌, length, take}
use Rattle.numbers.specs.Numbers.{number_of}
use Rattle.numbers.specs.declared.Refusal.{Refusal}
use Rattle.std.proofs.Math.Option.{none, some}
use Rattle.laws.specs.Refusals.{First, None}
use Rattle.words.specs.Field.{splice}
use Rattle.records.specs.Limits.{Limit}
use Rattle.records.specs.declared.Record.{Record}
use Rattle.records.specs.Model.{kind_byte}
use Rattle.records.specs.Places.{first_version, version_count}
use Rattle.builder.specs.declared.PointBuilder.{PointBuilder}
use Rattle.builder.specs.Add.{Call, add_causes, add_of, state_values, added_values, next_state, next_place}
use Rattle.construct.specs.Construct.{Placing, attempt_of, construct_of}
use Rattle.construct.specs.Answer.{constructed_number, constructed_values, ConstructPost}
use Rattle.finish.specs.Finish.{keys_of, body_length, finish_of, finished_values}
use Rattle.point.specs.declared.Located.{Located}
use Rattle.point.specs.declared.Opened.{Opened}
use Rattle.point.specs.declared.Answer.TheVariants.{Found, Nothing}
use Rattle.point.specs.Get.{locate_of, open_record_of, open_of, get_of, located_number, located_values, opened_number, opened_values, answer_number, answer_values}
use Rattle.point.specs.Causes.{Leads, RecordOpens, Opens}
use Rattle.fuse.specs.declared.Sizes.{Sizes}
use Rattle.fuse.specs.Layout.{positive_bytes, fuse_header, Accepted}
use Rattle.fuse.specs.Asking.{contains_of}
use Rattle.filter.specs.declared.SstFilter.{SstFilter}
use Rattle.filter.specs.declared.Built.{Built}
use Rattle.filter.specs.Reading.{read_of, read_refusal, read_values, acceptable}
use Rattle.filter.specs.Asking.{ask_of, ask_number}
use Rattle.filter.specs.Writing.{bytes_for, written_values, WritePost}
use Rattle.filter.specs.Building.{length_by, built_values, BuildPost}
use Rattle.lines.specs.Shown.{Rule}
use Rattle.lines.specs.Listing.{text_of, listed_values, Listing}

-- of builder::PointBuilder::add: 0, the next state's words and the patch place; a refusal has no values
pub record AddAnswers (s : PointBuilder) (buffer : List ℕ) (call : Call) : Type 0 where
  pub add_values : None (add_causes s buffer call)
      → (number_of (add_of s buffer call) ≡ 0)
      × (state_values (add_of s buffer call) ≡ (next_state s call).used ∷ (next_state s call).keys ∷ (next_state s call).head ∷ [])
      × (added_values (add_of s buffer call) ≡ next_place s call ∷ [])
  pub add_refused_values : (n : ℕ) → First n (add_causes s buffer call)
      → (state_values (add_of s buffer call) ≡ []) × (added_values (add_of s buffer call) ≡ [])

-- of construct::construct: 0 and the attempt, or 10
pub record ConstructAnswers (hashes : ℕ → List ℕ) (r : Option ℕ) : Type 0 where
  pub construct_values : (i : ℕ) (pl : Placing) → construct_of hashes ≡ some (i, pl) → (constructed_number r ≡ 0) × (constructed_values r ≡ i ∷ [])
  pub construct_refused_values : constructed_number r ≡ 10 → constructed_values r ≡ []
  pub ten_fails : constructed_number r ≡ 10 → (i : ℕ) → i < 8 → attempt_of (hashes i) ≡ none
  pub fails_ten : ((i : ℕ) → i < 8 → attempt_of (hashes i) ≡ none) → constructed_number r ≡ 10

-- point::Located: 0 and the place, exactly where the key's slot leads there; else 1, or 14
pub record LocateAnswers (body key : List ℕ) : Type 0 where
  pub locate_place : located_number (locate_of body key) ≡ 0 → (p : ℕ) × (Leads body key p × (p ≤ length body) × (located_values (locate_of body key) ≡ p ∷ []))
  pub place_locate : (p : ℕ) → Leads body key p → p ≤ length body → (located_number (locate_of body key) ≡ 0) × (located_values (locate_of body key) ≡ p ∷ [])
  pub locate_numbers : (located_number (locate_of body key) ≡ 0) ⊎ ((located_number (locate_of body key) ≡ 1) ⊎ (located_number (locate_of body key) ≡ 14))
  pub unlocated_values : (l : Located) → 0 < located_number l → located_values l ≡ []

-- point::Opened: 0, where the first version stands and how many there are, exactly where the key's record opens; else 1, or 14
pub record OpenAnswers (body key : List ℕ) : Type 0 where
  pub open_record : opened_number (open_of body key) ≡ 0 → (p : ℕ) × (Opens body key p × (opened_values (open_of body key) ≡ first_version body p ∷ version_count body p ∷ []))
  pub record_open : (p : ℕ) → Opens body key p → (opened_number (open_of body key) ≡ 0) × (opened_values (open_of body key) ≡ first_version body p ∷ version_count body p ∷ [])
  pub open_numbers : (opened_number (open_of body key) ≡ 0) ⊎ ((opened_number (open_of body key) ≡ 1) ⊎ (opened_number (open_of body key) ≡ 14))
  pub unopened_values : (o : Opened) → 0 < opened_number o → opened_values o ≡ []

-- and of the record at a place: 0 exactly where it is the key's, else 1, or 14
pub record RecordAnswers (body key : List ℕ) (p : ℕ) : Type 0 where
  pub record_versions : opened_number (open_record_of body p key) ≡ 0 → RecordOpens body key p × (opened_values (open_record_of body p key) ≡ first_version body p ∷ version_count body p ∷ [])
  pub versions_record : RecordOpens body key p → (opened_number (open_record_of body p key) ≡ 0) × (opened_values (open_record_of body p key) ≡ first_version body p ∷ version_count body p ∷ [])
  pub record_numbers : (opened_number (open_record_of body p key) ≡ 0) ⊎ ((opened_number (open_record_of body p key) ≡ 1) ⊎ (opened_number (open_record_of body p key) ≡ 14))

-- point::Answer: 0 and kind, sequence, offset, length, exactly for a record found; 1 exactly for nothing; else 14
pub record GetAnswers (body : List ℕ) (size : ℕ) (key : List ℕ) (limit : Limit) : Type 0 where
  pub get_record : answer_number (get_of body size key limit) ≡ 0 → (r : Record) × (get_of body size key limit ≡ Found r)
  pub record_get : (r : Record) → get_of body size key limit ≡ Found r
      → (answer_number (get_of body size key limit) ≡ 0) × (answer_values (get_of body size key limit) ≡ kind_byte r.kind ∷ r.sequence ∷ r.offset ∷ r.length ∷ [])
  pub get_nothing : answer_number (get_of body size key limit) ≡ 1 → get_of body size key limit ≡ Nothing
  pub nothing_get : get_of body size key limit ≡ Nothing → answer_number (get_of body size key limit) ≡ 1
  pub get_numbers : (answer_number (get_of body size key limit) ≡ 0) ⊎ ((answer_number (get_of body size key limit) ≡ 1) ⊎ (answer_number (get_of body size key limit) ≡ 14))

-- of filter::write: 0 and the bytes written, exactly where reading accepts the filter and there is room
pub record WriteAnswers (f : SstFilter) (cells out : List ℕ) (r : Result ℕ Refusal) (after : List ℕ) : Type 0 where
  pub whole_written : acceptable f (length cells) ≡ true → 48 + length cells ≤ length out
      → (number_of r ≡ 0) × (written_values r ≡ (48 + length cells) ∷ []) × (after ≡ splice out 0 (bytes_for f cells))
  pub written_whole : number_of r ≡ 0 → (acceptable f (length cells) ≡ true) × (48 + length cells ≤ length out)
  pub refused_unwritten : (w : Result ℕ Refusal) → 0 < number_of w → written_values w ≡ []

-- of filter::build: 0 and the bytes written (and `Filter`)
pub record BuildAnswers (r : Result Built Refusal) (out' : List ℕ) : Type 0 where
  pub zero_accepts : number_of r ≡ 0 → (q : Refusal) → r ≡ Err q → ⊥
  pub built_values_is : ((q : Refusal) → r ≡ Err q → ⊥) → built_values r ≡ length (take (length_by r) out') ∷ []

-- every answer
pub record Answers : Type 0 where
  pub add : (s : PointBuilder) (buffer : List ℕ) (call : Call) → AddAnswers s buffer call
  pub construct : {hashes : ℕ → List ℕ} {n : ℕ} {wide narrow : List ℕ} {r : Option ℕ} → ConstructPost hashes n wide narrow r → ConstructAnswers hashes r
  -- of finish::finish: 0 and the body's length
  pub finish_values : (arena : List ℕ) (out wide narrow : ℕ)
      → number_of (finish_of arena out wide narrow) ≡ 0 → finished_values (finish_of arena out wide narrow) ≡ body_length arena (keys_of arena) ∷ []
  pub locating : (body key : List ℕ) → LocateAnswers body key
  pub opening : (body key : List ℕ) → OpenAnswers body key
  pub opening_record : (body key : List ℕ) (p : ℕ) → RecordAnswers body key p
  pub getting : (body : List ℕ) (size : ℕ) (key : List ℕ) (limit : Limit) → GetAnswers body size key limit
  -- filter::SstFilter: 0 and six zeros for the Positive layout; 0 and 1, keys, seed, segment, count, cells for the Fuse layout
  pub positive_values : (read_refusal (read_of positive_bytes) ≡ 0) × (read_values (read_of positive_bytes) ≡ 0 ∷ 0 ∷ 0 ∷ 0 ∷ 0 ∷ 0 ∷ [])
  pub fuse_values : (s : Sizes) (cells : List ℕ) → Accepted s (length cells) → s.seed < 2 ^ 64
      → (read_refusal (read_of (fuse_header s ++ cells)) ≡ 0)
      × (read_values (read_of (fuse_header s ++ cells)) ≡ 1 ∷ s.keys ∷ s.seed ∷ s.segment ∷ s.count ∷ length cells ∷ [])
  -- filter::Asked: 1 for every hash of a Positive filter; of a Fuse filter 1 or 0 as its cells say
  pub positive_number : (hash : ℕ) → ask_number (ask_of positive_bytes hash) ≡ 1
  pub fuse_number : (s : Sizes) (cells : List ℕ) → Accepted s (length cells) → s.seed < 2 ^ 64 → (hash : ℕ)
      → ask_number (ask_of (fuse_header s ++ cells) hash) ≡ cond (contains_of cells s hash) 1 0
  pub write : {f : SstFilter} {cells out : List ℕ} {r : Result ℕ Refusal} {after : List ℕ} → WritePost f cells out r after → WriteAnswers f cells out r after
  pub build : {hashes wide narrow out : List ℕ} {r : Result Built Refusal} {hashes' wide' narrow' out' : List ℕ}
      → BuildPost hashes wide narrow out r hashes' wide' narrow' out' → BuildAnswers r out'
  -- of lines::listing: 0 and the text's length, where there is room
  pub room_values : {rule : Rule} {input before : List ℕ} {r : Result ℕ Refusal} {after : List ℕ} → Listing rule input before r after → length (text_of rule input) ≤ length before
      → (number_of r ≡ 0) × (listed_values r ≡ length (text_of rule input) ∷ []) × (after ≡ splice before 0 (text_of rule input))
