-- Demand 1 at the C boundary: its own refusals 6, 1 and 28, each exactly for its cause and before the call's own, and what a refused call leaves.
-- A record for each call; `BoundaryRefusals` says that all hold.
use Rattle.numbers.specs.Numbers.{number_of}
use Rattle.std.specs.Prelude.{ℕ, ◌<◌, ◌≤◌, ◌≡◌, List, ◌⊎◌, length, replicate}
use Rattle.builder.specs.SetOffset.{set_of}
use Rattle.point.specs.Get.{answer_number}
use Rattle.filter.specs.Reading.{read_of, read_refusal}
use Rattle.kiban_c.specs.Lent.{SixFirst}
use Rattle.kiban_c.specs.SortCalls.{SortCall}
use Rattle.kiban_c.specs.BuilderCalls.{state_of, add_called, AddCall, SetOffsetCall}
use Rattle.kiban_c.specs.FinishCalls.{finish_called, FinishCall}
use Rattle.kiban_c.specs.PointCalls.{get_called, GetCall}
use Rattle.kiban_c.specs.FilterCalls.{build_called, FilterBuildCall, FilterReadCall, FilterAskAllCall}
use Rattle.kiban_c.specs.LinesCalls.{listing_called, ListingCall}

-- kiban_add: 6, 1, 28, and then add's own
pub record AddChecked (buffer state key : List ℕ) (kind size sequence new_key : ℕ) (answer : List ℕ) (r : ℕ) (buffer' state' answer' : List ℕ) : Type 0 where
  pub add_answer_short : length answer < 1 → r ≡ 6
  pub add_state_short : 1 ≤ length answer → length state < 3 → r ≡ 1
  pub add_kind_other : 1 ≤ length answer → 3 ≤ length state → (kind ≡ 1 → ⊥) → (kind ≡ 2 → ⊥) → r ≡ 28
  pub add_kind_only : r ≡ 28 → (1 ≤ length answer) × (3 ≤ length state) × (kind ≡ 1 → ⊥) × (kind ≡ 2 → ⊥)
  pub add_own : 1 ≤ length answer → 3 ≤ length state → (kind ≡ 1) ⊎ (kind ≡ 2) → r ≡ number_of (add_called buffer state key kind size sequence new_key)
  pub add_refused_leaves : 0 < r → (buffer' ≡ buffer) × (state' ≡ state) × (answer' ≡ answer)

-- kiban_set_offset: 1, and then set offset's own
pub record SetOffsetChecked (buffer state : List ℕ) (place offset r : ℕ) (buffer' : List ℕ) : Type 0 where
  pub set_offset_state_short : length state < 3 → r ≡ 1
  pub set_offset_own : 3 ≤ length state → r ≡ number_of (set_of (state_of state) buffer place)
  pub set_offset_refused_leaves : 0 < r → buffer' ≡ buffer

-- kiban_finish: 6, and then finish's own; the workspace is as it was, or zero
pub record FinishChecked (arena out wide narrow answer : List ℕ) (r : ℕ) (out' wide' narrow' answer' : List ℕ) : Type 0 where
  pub finish_answer_short : SixFirst answer 1 (number_of (finish_called arena out wide narrow)) r
  pub finish_refused_leaves : 0 < r → (out' ≡ out) × (answer' ≡ answer) × ((wide' ≡ wide) ⊎ (wide' ≡ replicate (length wide) 0)) × ((narrow' ≡ narrow) ⊎ (narrow' ≡ replicate (length narrow) 0))

-- kiban_get: 6, and then get's own; nothing found leaves the answer too
pub record GetChecked (body bytes key : List ℕ) (limited limit : ℕ) (answer : List ℕ) (r : ℕ) (answer' : List ℕ) : Type 0 where
  pub get_answer_short : SixFirst answer 4 (answer_number (get_called body bytes key limited limit)) r
  pub get_answer_only : r ≡ 6 → length answer < 4
  pub get_refused_leaves : 0 < r → answer' ≡ answer

-- kiban_filter_build: 6, and then build's own
pub record FilterBuildChecked (hashes wide narrow out answer : List ℕ) (r : ℕ) (hashes' wide' narrow' out' answer' : List ℕ) : Type 0 where
  pub filter_build_answer_short : SixFirst answer 1 (number_of (build_called hashes wide narrow out)) r
  pub filter_build_refused_leaves : 0 < r → (hashes' ≡ hashes) × (wide' ≡ wide) × (narrow' ≡ narrow) × (out' ≡ out) × (answer' ≡ answer)

-- kiban_filter_read: 6, and then reading's own
pub record FilterReadChecked (bytes answer : List ℕ) (r : ℕ) (answer' : List ℕ) : Type 0 where
  pub filter_read_answer_short : SixFirst answer 6 (read_refusal (read_of bytes)) r
  pub filter_read_answer_only : r ≡ 6 → length answer < 6
  pub filter_read_refused_leaves : 0 < r → answer' ≡ answer

-- kiban_filter_ask_all: 6, and then reading's own
pub record FilterAskAllChecked (bytes hashes answers : List ℕ) (r : ℕ) (answers' : List ℕ) : Type 0 where
  pub filter_ask_all_answer_short : SixFirst answers (length hashes) (read_refusal (read_of bytes)) r
  pub filter_ask_all_answer_only : r ≡ 6 → length answers < length hashes
  pub filter_ask_all_refused_leaves : 0 < r → answers' ≡ answers

-- kiban_listing: 6, and then the listing's own
pub record ListingChecked (input out answer : List ℕ) (r : ℕ) (out' answer' : List ℕ) : Type 0 where
  pub listing_answer_short : SixFirst answer 1 (number_of (listing_called input out)) r
  pub listing_refused_leaves : 0 < r → (out' ≡ out) × (answer' ≡ answer)

-- DEMAND 1, of each function of the C boundary
pub record BoundaryRefusals : Type 0 where
  -- kiban_sort refuses nothing
  pub sort_refuses_nothing : {hashes : List ℕ} {r : ℕ} {hashes' : List ℕ} → SortCall hashes r hashes' → r ≡ 0
  pub add : {buffer state key answer : List ℕ} {kind size sequence new_key r : ℕ} {buffer' state' answer' : List ℕ}
      → AddCall buffer state key kind size sequence new_key answer r buffer' state' answer' → AddChecked buffer state key kind size sequence new_key answer r buffer' state' answer'
  pub set_offset : {buffer state : List ℕ} {place offset r : ℕ} {buffer' : List ℕ} → SetOffsetCall buffer state place offset r buffer' → SetOffsetChecked buffer state place offset r buffer'
  pub finish : {arena out wide narrow answer : List ℕ} {r : ℕ} {out' wide' narrow' answer' : List ℕ}
      → FinishCall arena out wide narrow answer r out' wide' narrow' answer' → FinishChecked arena out wide narrow answer r out' wide' narrow' answer'
  pub get : {body bytes key answer : List ℕ} {limited limit r : ℕ} {answer' : List ℕ} → GetCall body bytes key limited limit answer r answer' → GetChecked body bytes key limited limit answer r answer'
  pub filter_build : {hashes wide narrow out answer : List ℕ} {r : ℕ} {hashes' wide' narrow' out' answer' : List ℕ}
      → FilterBuildCall hashes wide narrow out answer r hashes' wide' narrow' out' answer' → FilterBuildChecked hashes wide narrow out answer r hashes' wide' narrow' out' answer'
  pub filter_read : {bytes answer : List ℕ} {r : ℕ} {answer' : List ℕ} → FilterReadCall bytes answer r answer' → FilterReadChecked bytes answer r answer'
  pub filter_ask_all : {bytes hashes answers : List ℕ} {r : ℕ} {answers' : List ℕ} → FilterAskAllCall bytes hashes answers r answers' → FilterAskAllChecked bytes hashes answers r answers'
  pub listing : {input out answer : List ℕ} {r : ℕ} {out' answer' : List ℕ} → ListingCall input out answer r out' answer' → ListingChecked input out answer r out' answer'
