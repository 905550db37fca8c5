-- Demand 3, "a filter built from a set of hashes never calls one of them absent", at the C boundary too; and document 01's bound on the queue, its
-- rule over the sizing table, and that accepted bytes written again are the same bytes.
use Rattle.std.specs.Prelude.{Ok, Result, ℕ, ◌+◌, ◌*◌, ◌^◌, ◌≤◌, ◌<◌, ◌≡◌, true, List, [], ◌∷◌, length, take, drop, get_or}
use Rattle.numbers.specs.Numbers.{number_of}
use Rattle.numbers.specs.declared.Refusal.{Refusal}
use Rattle.laws.specs.Count.{occurs}
use Rattle.words.specs.Field.{splice}
use Rattle.mixing.specs.Mixing.{mix_of}
use Rattle.fuse.specs.declared.Sizes.{Sizes}
use Rattle.fuse.specs.Positions.{cells_in}
use Rattle.sizing.specs.Table.{most_hashes, firsts}
use Rattle.sizing.specs.Sizing.{segments_of, cells_of, sizes_of, rises_strictly, RowRule}
use Rattle.sort.specs.Sort.{sorted}
use Rattle.peel.specs.Peel.{Attempt, after_steps}
use Rattle.filter.specs.declared.SstFilter.{SstFilter}
use Rattle.filter.specs.declared.SstFilter.TheVariants.{Refused}
use Rattle.filter.specs.declared.Built.{Built}
use Rattle.filter.specs.declared.Built.TheVariants.{Fuse}
use Rattle.filter.specs.Reading.{read_of}
use Rattle.filter.specs.Asking.{ask_of, ask_number}
use Rattle.filter.specs.Writing.{bytes_for, WritePost}
use Rattle.filter.specs.Building.{length_by, built_values, BuildPost, as_read}
use Rattle.kiban_c.specs.FilterCalls.{FilterBuildCall, filter_ask_of, FilterAskAllCall}

-- ---- build

-- the written bytes of an answer, in front of the output
abbrev pub filter_bytes : Result Built Refusal → (out : List ℕ) → List ℕ
filter_bytes r out = take (length_by r) out

-- sizes for these hashes: as many keys, the segment and count of the sizing rule (3 segments more than the count), 40 × cells ≥ 43 × hashes
pub record SizedFor (hashes : List ℕ) (s : Sizes) : Type 0 where
  pub keys : s.keys ≡ length hashes
  pub segment : s.segment ≡ (sizes_of (length hashes)).segment
  pub count : s.count ≡ (sizes_of (length hashes)).count
  pub enough : 43 * length hashes ≤ 40 * cells_in s.segment s.count

-- what stands in the output for the hashes: as many bytes as the answer says, read as what was built, with the right sizes; and each of the
-- hashes is maybe there (1)
pub record FilterStands (hashes : List ℕ) (r : Result Built Refusal) (out : List ℕ) : Type 0 where
  pub values : built_values r ≡ length (filter_bytes r out) ∷ []
  pub read : read_of (filter_bytes r out) ≡ as_read r
  pub sized : (s : Sizes) → r ≡ Ok (Fuse s) → SizedFor hashes s
  pub present : (hash : ℕ) → 1 ≤ occurs hash hashes → ask_number (ask_of (filter_bytes r out) hash) ≡ 1

-- DEMAND 3, of a filter
pub record OnFilter : Type 0 where
  -- whatever meets build's contract with the number 0 stands for its hashes
  pub filter_stands : {hashes wide narrow out : List ℕ} {r : Result Built Refusal} {hashes' wide' narrow' out' : List ℕ} → BuildPost hashes wide narrow out r hashes' wide' narrow' out'
      → number_of r ≡ 0 → FilterStands hashes r out'
  -- where kiban_filter_build returns 0, kiban_filter_ask on the first answer[0] bytes returns 1 for each of the hashes
  pub call_present : {hashes wide narrow out answer hashes' wide' narrow' out' answer' : List ℕ}
      → FilterBuildCall hashes wide narrow out answer 0 hashes' wide' narrow' out' answer'
      → (hash : ℕ) → 1 ≤ occurs hash hashes → filter_ask_of (take (get_or answer' 0 0) out') hash ≡ 1
  -- kiban_filter_ask_all on them returns 0, given an answer's room for each that is asked
  pub call_asked : {hashes wide narrow out answer hashes' wide' narrow' out' answer' : List ℕ}
      → FilterBuildCall hashes wide narrow out answer 0 hashes' wide' narrow' out' answer'
      → {asked answers : List ℕ} {r : ℕ} {answers' : List ℕ} → FilterAskAllCall (take (get_or answer' 0 0) out') asked answers r answers' → length asked ≤ length answers → r ≡ 0
  -- and answers 1 at the place of each of the hashes
  pub call_all_present : {hashes wide narrow out answer hashes' wide' narrow' out' answer' : List ℕ}
      → FilterBuildCall hashes wide narrow out answer 0 hashes' wide' narrow' out' answer'
      → {asked answers : List ℕ} {r : ℕ} {answers' : List ℕ} → FilterAskAllCall (take (get_or answer' 0 0) out') asked answers r answers' → length asked ≤ length answers
      → (i : ℕ) → i < length asked → 1 ≤ occurs (get_or asked i 0) hashes → get_or answers' i 0 ≡ 1

-- ---- the queue

-- the attempt with seed mix(i) to build a filter of the hashes, after so many steps
abbrev pub attempt_after : (hashes : List ℕ) (i steps : ℕ) → Attempt
attempt_after hashes i steps = after_steps (sizes_of (length hashes)).segment (sizes_of (length hashes)).count (mix_of i) (sorted hashes) steps

-- the cells of every attempt
abbrev pub cells_tried : (hashes : List ℕ) → ℕ
cells_tried hashes = cells_in (sizes_of (length hashes)).segment (sizes_of (length hashes)).count

-- the queue "holds at most one entry for each cell over a whole attempt"
pub record QueueBound (hashes : List ℕ) (i : ℕ) : Type 0 where
  -- after any number of steps a cell was taken, or waits, once at most
  pub cell_queued_once : (steps cell : ℕ) → occurs cell (attempt_after hashes i steps).taken + occurs cell (attempt_after hashes i steps).queue ≤ 1
  -- so a place for each cell is enough for all that were ever queued
  pub queue_fits : (steps : ℕ) → length (attempt_after hashes i steps).taken + length (attempt_after hashes i steps).queue ≤ cells_tried hashes
  -- and as many steps as there are cells empty the queue
  pub queue_empties : (attempt_after hashes i (cells_tried hashes)).queue ≡ []

-- ---- sizing, and bytes written again

pub record FilterRules : Type 0 where
  pub queue : (hashes : List ℕ) → 1 ≤ length hashes → length hashes ≤ most_hashes → (i : ℕ) → QueueBound hashes i
  -- the rule over the table of segment counts: first counts rise strictly from 1
  pub firsts_rise : rises_strictly firsts ≡ true
  pub firsts_from : firsts ≡ 1 ∷ drop 1 firsts
  -- segments are at least 4, and at each row's last n, 40 × cells ≥ 43 × n
  pub row_rule : (j : ℕ) → j < length firsts → RowRule j
  -- and so at each n
  pub segments_within : (n : ℕ) → 1 ≤ n → n < 2 ^ 64 → (4 ≤ segments_of n) × (segments_of n ≤ 16383)
  pub cells_enough : (n : ℕ) → 1 ≤ n → n ≤ most_hashes → 43 * n ≤ 40 * cells_of n
  -- accepted bytes written again are the same bytes: as they are put together, and as write puts them
  pub same_again : (bytes : List ℕ) (filter : SstFilter) → read_of bytes ≡ filter → (filter ≡ Refused → ⊥) → bytes_for filter (drop 48 bytes) ≡ bytes
  pub written_again : (bytes : List ℕ) (filter : SstFilter) → read_of bytes ≡ filter → (filter ≡ Refused → ⊥)
      → (out after : List ℕ) (r : Result ℕ Refusal) → length bytes ≤ length out → WritePost filter (drop 48 bytes) out r after
      → (r ≡ Ok (length bytes)) × (after ≡ splice out 0 bytes)
