-- The boundary's own refusals: 6, 1 and 28 exactly for their causes, in this order and before the call's own, and a refused call leaves what
-- is lent to it, except zeroed workspace. Assumes nothing.
use Rattle.numbers.specs.declared.Refusal.TheVariants.{Buffer, Damage}
use Rattle.std.specs.Prelude.{Err, Ok, Result}
use Rattle.numbers.specs.Numbers.{number_of}
use Rattle.numbers.specs.declared.Refusal.{Refusal}
use Prim.Native.Nat.{ℕ, zero, suc, ◌+◌, ◌<◌, ◌≤◌}
use native.Mathlib.Omega.{arith}
use mathlib.Core.Path.{◌≡◌, refl, sym, ap, ◌∙◌}
use mathlib.Core.Bool.{Bool, true, false, cond}
use mathlib.Core.List.{List, [], ◌∷◌}
use mathlib.Core.Logic.{◌⊎◌, inl, inr}
use borrow.Author.Tests.{ne_eqb}
use lib.Dec.{eqb, ltb, leb, lit<}
use lib.ListN.{length, replicate}
use Rattle.laws.specs.Each.{Each}
use Rattle.laws.specs.Each.Each.{each_none, each_more}
use Rattle.laws.specs.Refusals.{Cause, first_of, or_else, First, here, later}
use Rattle.words.specs.Field.{splice}
use Rattle.records.specs.Rules.{bad_kind}
use Rattle.builder.specs.declared.PointBuilder.{PointBuilder}
use Rattle.builder.specs.Add.{Added}
use Rattle.builder.specs.State.{last_of, room_of}
use Rattle.builder.specs.Add.{Call, new_causes, continued_causes, taking_causes, add_causes, state_values, added_values, add_of, buffer_after_add}
use Rattle.builder.specs.SetOffset.{set_of, buffer_after_set}
use Rattle.builder.proofs.Answers.{add_refuses, add_refuses_only, set_refuses, set_refuses_only}
use Rattle.finish.specs.Finish.{lengths_refusal, finish_refusal, finish_of, out_after, space_after, finished_values}
use Rattle.finish.proofs.RowLaws.{splice_none}
use Rattle.finish.proofs.Answers.{finish_number}
use Rattle.records.specs.declared.Within.{Within}
use Rattle.records.specs.declared.Within.TheVariants as within
use Rattle.point.specs.declared.Answer.{Answer}
use Rattle.point.specs.declared.Answer.TheVariants as answered
use Rattle.point.specs.Get.{open_of, first_for, answer_of, get_of, answer_number, answer_values}
use Rattle.filter.specs.declared.SstFilter.{SstFilter}
use Rattle.filter.specs.declared.SstFilter.TheVariants as read
use Rattle.filter.specs.declared.Built.{Built}
use Rattle.filter.specs.declared.Built.TheVariants as built
use Rattle.filter.specs.Reading.{read_of, read_refusal, read_values}
use Rattle.filter.specs.Building.{built_values, hashes_by, space_by, out_by}
use Rattle.lines.specs.Listing.{listed_of, buffer_of, listed_values}
use Rattle.kiban_c.specs.Lent.{answer_short, number_by, left_by, SixFirst}
use Rattle.kiban_c.specs.SortCalls.{SortCall}
use Rattle.kiban_c.specs.BuilderCalls.{state_of, call_given, add_called, AddCall, SetOffsetCall}
use Rattle.kiban_c.specs.FinishCalls.{finish_called, FinishCall}
use Rattle.kiban_c.specs.PointCalls.{limit_given, get_called, GetCall}
use Rattle.kiban_c.specs.FilterCalls.{build_called, FilterBuildCall, FilterReadCall, ask_all_values, FilterAskAllCall}
use Rattle.kiban_c.specs.LinesCalls.{listing_text, listing_called, ListingCall}
use Rattle.kiban_c.proofs.LentLaws.{first_number, none_number, short, enough}
use Rattle.kiban_c.proofs.BuilderCallLaws.{add_short, add_stateless, add_kindless, add_passed, set_stateless, set_passed}

-- ---- what all calls share

six_first : {answer : List ℕ} {said own r : ℕ} → r ≡ number_by (answer_short answer said ∷ []) own → SixFirst answer said own r
six_first {answer} {said} {own} p = record {
  shorter = λ h. p ∙ sym (first_number (short answer said h) (omega arith) own);
  enough_lent = λ h. p ∙ sym (none_number (enough answer said h) own);
}

-- and so, where the call's own number is never 6, 6 for that alone
six_only : {answer : List ℕ} {said own r : ℕ} → SixFirst answer said own r → (own ≡ 6 → ⊥) → r ≡ 6 → length answer < said
six_only {answer} {said} S never e =
    let short-lent : said ≤ length answer → ⊥ = λ h. never (sym (S.enough_lent h) ∙ e) in
    omega arith

-- a refused call leaves a list that the call's own refusals leave
kept : (checks : List Cause) {own r : ℕ} → r ≡ number_by checks own → 0 < r → (before after : List ℕ) → (0 < own → after ≡ before) → left_by checks before after ≡ before
unfolding number_by left_by
kept checks {own} {r} p s before after k = go (first_of checks) p
  where
    go : (n : ℕ) → r ≡ or_else n own → cond (eqb n 0) after before ≡ before
    go zero e = k (omega (arith, e, s))
    go (suc n) e = rw (ne_eqb (suc n) 0 (λ z. omega arith))

-- no values put, nothing changed
unput : (lent : List ℕ) {values : List ℕ} → values ≡ [] → splice lent 0 values ≡ lent
unput lent e = ap (splice lent 0) e ∙ splice_none lent 0

-- ---- sort

-- THEOREM: kiban_sort refuses nothing
pub sort_refuses_nothing : {hashes : List ℕ} {r : ℕ} {hashes' : List ℕ} → SortCall hashes r hashes' → r ≡ 0
sort_refuses_nothing P = P.number

-- ---- add

-- add itself never answers 28
first_below : {m n : ℕ} {cs : List Cause} → Each (λ c. c.number < m) cs → First n cs → n < m
first_below {m = m} {n = n} each_none x = elim x [ ]
first_below (each_more p ps) (here h e) = omega arith
first_below (each_more p ps) (later h f) = first_below ps f

module _ (s : PointBuilder) (buffer : List ℕ) (call : Call) where
  key_below : (new_key : Bool) → Each (λ c. c.number < 28) (cond new_key (new_causes s (last_of s buffer) (room_of s buffer) call.key) (continued_causes s (last_of s buffer) (room_of s buffer) call.key call.sequence))
  unfolding new_causes continued_causes
  key_below true = each_more (lit< tt) (each_more (lit< tt) (each_more (lit< tt) each_none))
  key_below false = each_more (lit< tt) (each_more (lit< tt) (each_more (lit< tt) (each_more (lit< tt) (each_more (lit< tt) each_none))))

  own_below : {n : ℕ} → First n (add_causes s buffer call) → n < 28
  unfolding add_causes taking_causes
  own_below f = first_below (each_more (lit< tt) (each_more (lit< tt) (each_more (lit< tt) (each_more (lit< tt) (key_below call.new_key))))) f

  own_kind : (a : Added) → add_of s buffer call ≡ a → number_of a ≡ 28 → ⊥
  own_kind (Ok (next, place)) e z = omega arith
  own_kind (Err n) e z = omega (arith, own_below (add_refuses_only s buffer call e))

  add_kept : (a : Added) → add_of s buffer call ≡ a → 0 < number_of a → (buffer_after_add s buffer call ≡ buffer) × (state_values a ≡ []) × (added_values a ≡ [])
  add_kept (Ok (next, place)) e o = absurd (omega arith)
  add_kept (Err n) e o = ((add_refuses s buffer call (add_refuses_only s buffer call e)).1, refl, refl)

-- another kind, by the kinds that there are
other_kind : (kind : ℕ) → (kind ≡ 1 → ⊥) → (kind ≡ 2 → ⊥) → bad_kind kind ≡ true
other_kind kind a b = rw (ne_eqb kind 1 a, ne_eqb kind 2 b)

one_kind : (kind : ℕ) → (kind ≡ 1) ⊎ (kind ≡ 2) → bad_kind kind ≡ false
one_kind kind (inl e) = ap bad_kind e
one_kind kind (inr e) = ap bad_kind e

module _ {buffer state key answer : List ℕ} {kind size sequence new_key r : ℕ} {buffer' state' answer' : List ℕ}
    (P : AddCall buffer state key kind size sequence new_key answer r buffer' state' answer') where
  -- THEOREM: 6 first, for an answer under one word
  pub add_answer_short : length answer < 1 → r ≡ 6
  add_answer_short h = P.number ∙ sym (first_number (add_short state kind answer h) (omega arith) _)

  -- THEOREM: then 1, for a state under three words
  pub add_state_short : 1 ≤ length answer → length state < 3 → r ≡ 1
  add_state_short a h = P.number ∙ sym (first_number (add_stateless state kind answer a h) (omega arith) _)

  -- THEOREM: then 28, for a kind other than 1 and 2
  pub add_kind_other : 1 ≤ length answer → 3 ≤ length state → (kind ≡ 1 → ⊥) → (kind ≡ 2 → ⊥) → r ≡ 28
  add_kind_other a s one two = P.number ∙ sym (first_number (add_kindless state kind answer a s (other_kind kind one two)) (omega arith) _)

  -- THEOREM: and else what add answers
  pub add_own : 1 ≤ length answer → 3 ≤ length state → (kind ≡ 1) ⊎ (kind ≡ 2) → r ≡ number_of (add_called buffer state key kind size sequence new_key)
  add_own a s k = P.number ∙ sym (none_number (add_passed state kind answer a s (one_kind kind k)) _)

  -- THEOREM: 28 for another kind alone
  pub add_kind_only : r ≡ 28 → (1 ≤ length answer) × (3 ≤ length state) × (kind ≡ 1 → ⊥) × (kind ≡ 2 → ⊥)
  add_kind_only e =
      let na : length answer < 1 → ⊥ = λ h. let z = add_answer_short h in omega arith in
      let a : 1 ≤ length answer = omega arith in
      let ns : length state < 3 → ⊥ = λ h. let z = add_state_short a h in omega arith in
      let s : 3 ≤ length state = omega arith in
      let never : (kind ≡ 1) ⊎ (kind ≡ 2) → ⊥ =
      λ k. own_kind (state_of state) buffer (call_given key kind size sequence new_key) (add_called buffer state key kind size sequence new_key) refl (sym (add_own a s k) ∙ e) in
      (a, s, λ z. never (inl z), λ z. never (inr z))

  -- THEOREM: a refused call leaves buffer, state and answer
  pub add_refused_leaves : 0 < r → (buffer' ≡ buffer) × (state' ≡ state) × (answer' ≡ answer)
  add_refused_leaves o =
      let k = add_kept (state_of state) buffer (call_given key kind size sequence new_key) (add_called buffer state key kind size sequence new_key) refl in (
        P.buffer_after ∙ kept _ P.number o buffer _ (λ q. (k q).0),
        P.state_after ∙ kept _ P.number o state _ (λ q. unput state (k q).1),
        P.answer_after ∙ kept _ P.number o answer _ (λ q. unput answer (k q).2),
      )

-- ---- set offset

set_kept : (s : PointBuilder) (buffer : List ℕ) (place offset : ℕ) (a : Result (Unit {0}) Refusal) → set_of s buffer place ≡ a → 0 < number_of a → buffer_after_set s buffer place offset ≡ buffer
set_kept s buffer place offset (Ok u) e o = absurd (omega arith)
set_kept s buffer place offset (Err n) e o = (set_refuses s buffer place offset (set_refuses_only s buffer place offset e)).1

module _ {buffer state : List ℕ} {place offset r : ℕ} {buffer' : List ℕ} (P : SetOffsetCall buffer state place offset r buffer') where
  -- THEOREM: 1 first, for a state under three words
  pub set_offset_state_short : length state < 3 → r ≡ 1
  set_offset_state_short h = P.number ∙ sym (first_number (set_stateless state h) (omega arith) _)

  -- THEOREM: and else what set offset answers
  pub set_offset_own : 3 ≤ length state → r ≡ number_of (set_of (state_of state) buffer place)
  set_offset_own h = P.number ∙ sym (none_number (set_passed state h) _)

  -- THEOREM: a refused call leaves the buffer
  pub set_offset_refused_leaves : 0 < r → buffer' ≡ buffer
  set_offset_refused_leaves o =
      P.buffer_after ∙ kept _ P.number o buffer _ (set_kept (state_of state) buffer place offset (set_of (state_of state) buffer place) refl)

-- ---- finish

no_length : (f : Result ℕ Refusal) → 0 < number_of f → finished_values f ≡ []
no_length (Ok size) o = absurd (omega arith)
no_length (Err n) o = refl

finish_kept : (arena out : List ℕ) (wide narrow : ℕ) → 0 < number_of (finish_of arena (length out) wide narrow) → out_after arena out wide narrow ≡ out
unfolding out_after
finish_kept arena out wide narrow o =
    let n = finish_number arena (length out) wide narrow in
    let some : finish_refusal arena (length out) wide narrow ≡ 0 → ⊥ = λ z. omega arith in
    rw (ne_eqb (finish_refusal arena (length out) wide narrow) 0 some)

-- workspace is as it was, or zero
zeroed : (checks : List Cause) (refusal : ℕ) (space after : List ℕ) → after ≡ left_by checks space (space_after refusal space) → (after ≡ space) ⊎ (after ≡ replicate (length space) 0)
unfolding left_by
zeroed checks refusal space after p = go (eqb (first_of checks) 0) (eqb refusal 0) p
  where
    go : (b c : Bool) → after ≡ cond b (cond c (replicate (length space) 0) space) space → (after ≡ space) ⊎ (after ≡ replicate (length space) 0)
    go true true e = inr e
    go true false e = inl e
    go false c e = inl e

module _ {arena out wide narrow answer : List ℕ} {r : ℕ} {out' wide' narrow' answer' : List ℕ} (P : FinishCall arena out wide narrow answer r out' wide' narrow' answer') where
  -- THEOREM: 6 for an answer under one word, and else finish's own number
  pub finish_answer_short : SixFirst answer 1 (number_of (finish_called arena out wide narrow)) r
  finish_answer_short = six_first P.number

  -- THEOREM: a refused call leaves output and answer, and workspace as it was or zero
  pub finish_refused_leaves : 0 < r → (out' ≡ out) × (answer' ≡ answer) × ((wide' ≡ wide) ⊎ (wide' ≡ replicate (length wide) 0)) × ((narrow' ≡ narrow) ⊎ (narrow' ≡ replicate (length narrow) 0))
  finish_refused_leaves o = (
    P.out_after_is ∙ kept _ P.number o out _ (finish_kept arena out (length wide) (length narrow)),
    P.answer_after ∙ kept _ P.number o answer _ (λ q. unput answer (no_length (finish_called arena out wide narrow) q)),
    zeroed _ (lengths_refusal arena (length out) (length wide) (length narrow)) wide wide' P.wide_after,
    zeroed _ (lengths_refusal arena (length out) (length wide) (length narrow)) narrow narrow' P.narrow_after,
  )

-- ---- get

no_record : (a : Answer) → 0 < answer_number a → answer_values a ≡ []
no_record (answered.Found v) o = absurd (omega arith)
no_record answered.Nothing o = refl
no_record (answered.Refused n) o = refl

get_never_six : (size : ℕ) (w : Within) → answer_number (answer_of size w) ≡ 6 → ⊥
unfolding answer_of
get_never_six size (within.Found v) z = go (ltb size (v.offset + v.length)) z
  where
    go : (b : Bool) → answer_number (cond b (answered.Refused Damage) (answered.Found v)) ≡ 6 → ⊥
    go true e = omega arith
    go false e = omega arith
get_never_six size within.Nothing z = omega arith
get_never_six size within.Damaged z = omega arith

module _ {body bytes key answer : List ℕ} {limited limit r : ℕ} {answer' : List ℕ} (P : GetCall body bytes key limited limit answer r answer') where
  -- THEOREM: 6 for an answer under four words, and else get's own number, which is never 6
  pub get_answer_short : SixFirst answer 4 (answer_number (get_called body bytes key limited limit)) r
  get_answer_short = six_first P.number

  pub get_answer_only : r ≡ 6 → length answer < 4
  unfolding get_of
  get_answer_only = six_only get_answer_short (get_never_six (length bytes) (first_for body (open_of body key) (limit_given limited limit)))

  -- THEOREM: a refused call, and nothing found, leave the answer
  pub get_refused_leaves : 0 < r → answer' ≡ answer
  get_refused_leaves o = P.answer_after ∙ kept _ P.number o answer _ (λ q. unput answer (no_record (get_called body bytes key limited limit) q))

-- ---- filter build

no_bytes : (b : Result Built Refusal) → 0 < number_of b → (built_values b ≡ []) × ((hashes : List ℕ) → hashes_by b hashes ≡ hashes) × ((space : List ℕ) → space_by b space ≡ space) × ((hashes out : List ℕ) → out_by b hashes out ≡ out)
no_bytes (Ok built.Positive) o = absurd (omega arith)
no_bytes (Ok (built.Fuse s)) o = absurd (omega arith)
no_bytes (Err n) o = (refl, λ hashes. refl, λ space. refl, λ hashes out. refl)

module _ {hashes wide narrow out answer : List ℕ} {r : ℕ} {hashes' wide' narrow' out' answer' : List ℕ}
    (P : FilterBuildCall hashes wide narrow out answer r hashes' wide' narrow' out' answer') where
  -- THEOREM: 6 for an answer under one word, and else build's own number
  pub filter_build_answer_short : SixFirst answer 1 (number_of (build_called hashes wide narrow out)) r
  filter_build_answer_short = six_first P.number

  -- THEOREM: a refused call leaves everything
  pub filter_build_refused_leaves : 0 < r → (hashes' ≡ hashes) × (wide' ≡ wide) × (narrow' ≡ narrow) × (out' ≡ out) × (answer' ≡ answer)
  filter_build_refused_leaves o =
      let k = no_bytes (build_called hashes wide narrow out) in (
        P.hashes_after ∙ kept _ P.number o hashes _ (λ q. (k q).1 hashes),
        P.wide_after ∙ kept _ P.number o wide _ (λ q. (k q).2 wide),
        P.narrow_after ∙ kept _ P.number o narrow _ (λ q. (k q).2 narrow),
        P.out_after_is ∙ kept _ P.number o out _ (λ q. (k q).3 _ out),
        P.answer_after ∙ kept _ P.number o answer _ (λ q. unput answer (k q).0),
      )

-- ---- filter read, and filter ask all

no_words : (f : SstFilter) → 0 < read_refusal f → (read_values f ≡ []) × ((bytes hashes : List ℕ) → ask_all_values f bytes hashes ≡ [])
no_words read.Positive o = absurd (omega arith)
no_words (read.Fuse s) o = absurd (omega arith)
no_words read.Refused o = (refl, λ bytes hashes. refl)

read_never_six : (f : SstFilter) → read_refusal f ≡ 6 → ⊥
read_never_six read.Positive z = omega arith
read_never_six (read.Fuse s) z = omega arith
read_never_six read.Refused z = omega arith

module _ {bytes answer : List ℕ} {r : ℕ} {answer' : List ℕ} (P : FilterReadCall bytes answer r answer') where
  -- THEOREM: 6 for an answer under six words, and else reading's own number, which is never 6
  pub filter_read_answer_short : SixFirst answer 6 (read_refusal (read_of bytes)) r
  filter_read_answer_short = six_first P.number

  pub filter_read_answer_only : r ≡ 6 → length answer < 6
  filter_read_answer_only = six_only filter_read_answer_short (read_never_six (read_of bytes))

  -- THEOREM: a refused call leaves the answer
  pub filter_read_refused_leaves : 0 < r → answer' ≡ answer
  filter_read_refused_leaves o = P.answer_after ∙ kept _ P.number o answer _ (λ q. unput answer (no_words (read_of bytes) q).0)

module _ {bytes hashes answers : List ℕ} {r : ℕ} {answers' : List ℕ} (P : FilterAskAllCall bytes hashes answers r answers') where
  -- THEOREM: 6 for fewer answers than hashes, and else reading's own number, which is never 6
  pub filter_ask_all_answer_short : SixFirst answers (length hashes) (read_refusal (read_of bytes)) r
  filter_ask_all_answer_short = six_first P.number

  pub filter_ask_all_answer_only : r ≡ 6 → length answers < length hashes
  filter_ask_all_answer_only = six_only filter_ask_all_answer_short (read_never_six (read_of bytes))

  -- THEOREM: a refused call leaves the answers
  pub filter_ask_all_refused_leaves : 0 < r → answers' ≡ answers
  filter_ask_all_refused_leaves o = P.answers_after ∙ kept _ P.number o answers _ (λ q. unput answers ((no_words (read_of bytes) q).1 bytes hashes))

-- ---- listing

listing_kept : (text out : List ℕ) → 0 < number_of (listed_of text out) → (buffer_of text out ≡ out) × (listed_values (listed_of text out) ≡ [])
unfolding listed_of buffer_of
listing_kept text out o = go (leb (length text) (length out)) o
  where
    go : (b : Bool) → 0 < number_of (cond b (Ok (length text)) (Err Buffer)) → (cond b (splice out 0 text) out ≡ out) × (listed_values (cond b (Ok (length text)) (Err Buffer)) ≡ [])
    go true q = absurd (omega arith)
    go false q = (refl, refl)

module _ {input out answer : List ℕ} {r : ℕ} {out' answer' : List ℕ} (P : ListingCall input out answer r out' answer') where
  -- THEOREM: 6 for an answer under one word, and else the listing's own number
  pub listing_answer_short : SixFirst answer 1 (number_of (listing_called input out)) r
  listing_answer_short = six_first P.number

  -- THEOREM: a refused call leaves output and answer
  pub listing_refused_leaves : 0 < r → (out' ≡ out) × (answer' ≡ answer)
  listing_refused_leaves o = (
    P.out_after_is ∙ kept _ P.number o out _ (λ q. (listing_kept (listing_text input) out q).0),
    P.answer_after ∙ kept _ P.number o answer _ (λ q. unput answer (listing_kept (listing_text input) out q).1),
  )
