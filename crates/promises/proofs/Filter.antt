-- Demand 3 of a filter, the queue's bound and the sizing rule, from the theorems of filter, peel and sizing. Assumes nothing.
use Rattle.numbers.specs.declared.Refusal.{Refusal}
use Rattle.std.specs.Prelude.{Result, Err, Ok}
use Rattle.numbers.specs.Numbers.{number_of}
use Prim.Native.Nat.{ℕ, ◌≤◌, ◌<◌}
use native.Mathlib.Omega.{arith}
use mathlib.Core.Path.{◌≡◌, refl, sym, ap, ◌∙◌}
use mathlib.Core.List.{List, map}
use borrow.Author.Tests.{le-ltb}
use lib.ListN.{length, take, get_or, length-map, get_or-append}
use Rattle.laws.specs.Refusals.{first_of}
use Rattle.laws.proofs.RefusalLaws.{or_else_zero}
use Rattle.laws.specs.Count.{occurs}
use Rattle.laws.proofs.Lists.{map_at}
use Rattle.words.specs.Field.{splice}
use Rattle.words.proofs.PartLaws.{splice_front}
use Rattle.mixing.specs.Mixing.{mix_of}
use Rattle.fuse.specs.declared.Sizes.{Sizes}
use Rattle.fuse.specs.Positions.{Usable}
use Rattle.sizing.specs.Table.{most_hashes}
use Rattle.sizing.specs.Sizing.{sizes_of}
use Rattle.sizing.proofs.SizedLaws.{usable}
use Rattle.sort.specs.Sort.{sorted}
use Rattle.peel.proofs.AttemptLaws as peeling
use Rattle.filter.specs.declared.Built.{Built}
use Rattle.filter.specs.declared.Built.TheVariants.{Positive, Fuse}
use Rattle.filter.specs.Reading.{read_of, read_refusal}
use Rattle.filter.specs.Asking.{ask_number}
use Rattle.filter.specs.Building.{length_by, built_values, BuildPost, FilterOf, as_read}
use Rattle.filter.proofs.BuiltLaws.{zero_accepts, filter_cause, built_values_is, built_reads, never_absent}
use Rattle.kiban_c.specs.Lent.{number_by, left_by}
use Rattle.kiban_c.specs.FilterCalls.{build_called, filter_build_checks, FilterBuildCall, filter_ask_of, ask_all_values, filter_ask_all_checks, FilterAskAllCall}
use Rattle.sizing.proofs.SizedLaws.{firsts_rise, firsts_from, segments_within, row_rule, cells_enough}
use Rattle.filter.proofs.ExactLaws.{same_again, written_again}
use Rattle.promises.specs.Filter.{filter_bytes, SizedFor, FilterStands, OnFilter, QueueBound, FilterRules}

-- ---- build

sized_for : (hashes : List ℕ) (s : Sizes) → FilterOf hashes s → SizedFor hashes s
unfolding sizes_of
sized_for hashes s F = record {
  keys = ap (λ (x : Sizes). x.keys) F.sizes;
  segment = ap (λ (x : Sizes). x.segment) F.sizes;
  count = ap (λ (x : Sizes). x.count) F.sizes;
  enough = F.enough;
}

filter_stands : {hashes wide narrow out : List ℕ} {r : Result Built Refusal} {hashes' wide' narrow' out' : List ℕ} → BuildPost hashes wide narrow out r hashes' wide' narrow' out'
    → number_of r ≡ 0 → FilterStands hashes r out'
filter_stands {hashes} {wide} {narrow} {out} {r} P z =
    let n = zero_accepts P z in
    record {
      values = built_values_is P n;
      read = built_reads P n;
      sized = λ s e. sized_for hashes s (filter_cause P s e);
      present = λ hash k. ap ask_number (never_absent P n hash k);
    }

-- ---- the C boundary

-- the length in the answer's front, and what is asked of what was built
length_front : (b : Result Built Refusal) (answer : List ℕ) → ((q : Refusal) → b ≡ Err q → ⊥) → get_or (splice answer 0 (built_values b)) 0 0 ≡ length_by b
length_front (Ok Positive) answer n = ap (λ (l : List ℕ). get_or l 0 0) (splice_front answer (built_values (Ok Positive)))
length_front (Ok (Fuse s)) answer n = ap (λ (l : List ℕ). get_or l 0 0) (splice_front answer (built_values (Ok (Fuse s))))
length_front (Err q) answer n = absurd (n q refl)

asks_each : (b : Result Built Refusal) (bytes asked : List ℕ) → ((q : Refusal) → b ≡ Err q → ⊥)
    → (read_refusal (as_read b) ≡ 0) × (ask_all_values (as_read b) bytes asked ≡ map (filter_ask_of bytes) asked)
asks_each (Ok Positive) bytes asked n = (refl, refl)
asks_each (Ok (Fuse s)) bytes asked n = (refl, refl)
asks_each (Err q) bytes asked n = absurd (n q refl)

module _ {hashes wide narrow out answer hashes' wide' narrow' out' answer' : List ℕ}
    (P : FilterBuildCall hashes wide narrow out answer 0 hashes' wide' narrow' out' answer') where
  no_refusal : (first_of (filter_build_checks answer) ≡ 0) × (number_of (build_called hashes wide narrow out) ≡ 0)
  unfolding number_by
  no_refusal = or_else_zero _ _ (sym P.number)

  own : (before after : List ℕ) → left_by (filter_build_checks answer) before after ≡ after
  unfolding left_by
  own before after = rw no_refusal.0

  post : BuildPost hashes wide narrow out (build_called hashes wide narrow out) hashes' wide' narrow' out'
  post = record {
    answer = refl;
    hashes_after = P.hashes_after ∙ own _ _;
    wide_after = P.wide_after ∙ own _ _;
    narrow_after = P.narrow_after ∙ own _ _;
    out_after_is = P.out_after_is ∙ own _ _;
  }

  taken : (q : Refusal) → build_called hashes wide narrow out ≡ Err q → ⊥
  taken = zero_accepts post no_refusal.1

  stands : FilterStands hashes (build_called hashes wide narrow out) out'
  stands = filter_stands post no_refusal.1

  bytes_front : take (get_or answer' 0 0) out' ≡ filter_bytes (build_called hashes wide narrow out) out'
  bytes_front =
      ap (λ (n : ℕ). take n out')
      (ap (λ (l : List ℕ). get_or l 0 0) (P.answer_after ∙ own _ _) ∙ length_front (build_called hashes wide narrow out) answer taken)

  call_present : (hash : ℕ) → 1 ≤ occurs hash hashes → filter_ask_of (take (get_or answer' 0 0) out') hash ≡ 1
  call_present hash k = ap (λ (bytes : List ℕ). filter_ask_of bytes hash) bytes_front ∙ stands.present hash k

  module _ {asked answers : List ℕ} {r : ℕ} {answers' : List ℕ} (A : FilterAskAllCall (take (get_or answer' 0 0) out') asked answers r answers')
      (room : length asked ≤ length answers) where
    roomy : first_of (filter_ask_all_checks asked answers) ≡ 0
    roomy = rw (le-ltb (length answers) (length asked) room)

    each : (read_refusal (read_of (take (get_or answer' 0 0) out')) ≡ 0)
        × (ask_all_values (read_of (take (get_or answer' 0 0) out')) (take (get_or answer' 0 0) out') asked ≡ map (filter_ask_of (take (get_or answer' 0 0) out')) asked)
    each = rw (ap read_of bytes_front ∙ stands.read) (asks_each (build_called hashes wide narrow out) (take (get_or answer' 0 0) out') asked taken)

    call_asked : r ≡ 0
    unfolding number_by
    call_asked = A.number ∙ rw (roomy, each.0)

    call_all_present : (i : ℕ) → i < length asked → 1 ≤ occurs (get_or asked i 0) hashes → get_or answers' i 0 ≡ 1
    unfolding left_by
    call_all_present i l k =
        let values = map (filter_ask_of (take (get_or answer' 0 0) out')) asked in
        let put : answers' ≡ splice answers 0 values = A.answers_after ∙ rw (roomy, each.1) in
        ap (λ (t : List ℕ). get_or t i 0) (put ∙ splice_front answers values)
        ∙ get_or-append values _ 0 i (omega (arith, length-map asked (filter_ask_of (take (get_or answer' 0 0) out'))))
        ∙ map_at (filter_ask_of (take (get_or answer' 0 0) out')) asked i l
        ∙ call_present (get_or asked i 0) k

-- ---- the queue

queue_bound : (hashes : List ℕ) → 1 ≤ length hashes → length hashes ≤ most_hashes → (i : ℕ) → QueueBound hashes i
unfolding sizes_of
queue_bound hashes some few i =
    let segment = (sizes_of (length hashes)).segment in
    let count = (sizes_of (length hashes)).count in
    let u : Usable segment count = usable (length hashes) some (omega arith) in
    record {
      cell_queued_once = peeling.cell_queued_once segment count (mix_of i) u (sorted hashes);
      queue_fits = peeling.queue_fits segment count (mix_of i) u (sorted hashes);
      queue_empties = peeling.queue_empties segment count (mix_of i) u (sorted hashes);
    }

-- ---- the theorems

-- THEOREM: demand 3, of a filter
pub on_filter : OnFilter
on_filter = record {
  filter_stands = filter_stands;
  call_present = call_present;
  call_asked = λ P {asked} {answers} {r} {answers'} A room. call_asked P A room;
  call_all_present = λ P {asked} {answers} {r} {answers'} A room. call_all_present P A room;
}

-- THEOREM: the queue's bound, the sizing rule, and accepted bytes written again
pub filter_rules : FilterRules
filter_rules = record {
  queue = queue_bound;
  firsts_rise = firsts_rise;
  firsts_from = firsts_from;
  row_rule = row_rule;
  segments_within = segments_within;
  cells_enough = cells_enough;
  same_again = same_again;
  written_again = written_again;
}
