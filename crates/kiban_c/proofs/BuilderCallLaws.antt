-- What the boundary's checks leave of a call of add and of set offset. Assumes nothing.
use Rattle.std.specs.Prelude.{Result}
use Rattle.numbers.specs.Numbers.{number_of}
use Rattle.numbers.specs.declared.Refusal.{Refusal}
use Prim.Native.Nat.{ℕ, ◌<◌, ◌≤◌}
use native.Mathlib.Omega.{arith}
use mathlib.Core.Path.{◌≡◌, refl, sym, ap, ◌∙◌}
use mathlib.Core.Bool.{true, false}
use mathlib.Core.List.{List}
use borrow.Author.Tests.{lt-ltb, le-ltb}
use lib.ListN.{length}
use Rattle.laws.specs.Refusals.{First, here, later, None, none_here, none_more}
use Rattle.words.specs.Field.{splice}
use Rattle.records.specs.declared.Kind.{Kind}
use Rattle.records.specs.Places.{kind_of}
use Rattle.records.specs.Rules.{bad_kind}
use Rattle.builder.specs.declared.PointBuilder.{PointBuilder}
use Rattle.builder.specs.Add.{Added}
use Rattle.builder.specs.Add.{state_values, added_values, AddPost}
use Rattle.builder.specs.SetOffset.{SetPost}
use Rattle.kiban_c.specs.BuilderCalls.{state_of, flag_of, add_checks, add_called, AddCall, set_offset_checks, SetOffsetCall}
use Rattle.kiban_c.proofs.LentLaws.{first_number, first_left, none_number, none_left}

-- ---- the checks of add, one after another

module _ (state : List ℕ) (kind : ℕ) (answer : List ℕ) where
  pub add_short : length answer < 1 → First 6 (add_checks state kind answer)
  add_short h = here (lt-ltb (length answer) 1 h) refl

  module _ (a : 1 ≤ length answer) where
    pub add_stateless : length state < 3 → First 1 (add_checks state kind answer)
    add_stateless h = later (le-ltb (length answer) 1 a) (here (lt-ltb (length state) 3 h) refl)

    module _ (s : 3 ≤ length state) where
      pub add_kindless : bad_kind kind ≡ true → First 28 (add_checks state kind answer)
      add_kindless h = later (le-ltb (length answer) 1 a) (later (le-ltb (length state) 3 s) (here h refl))

      pub add_passed : bad_kind kind ≡ false → None (add_checks state kind answer)
      add_passed h = none_more (le-ltb (length answer) 1 a) (none_more (le-ltb (length state) 3 s) (none_more h none_here))

-- ---- what they leave

module _ {buffer state key : List ℕ} {kind size sequence new_key : ℕ} {answer : List ℕ} where
  pub add_refused : {n : ℕ} → First n (add_checks state kind answer) → 0 < n → AddCall buffer state key kind size sequence new_key answer n buffer state answer
  add_refused f p =
      record { number = first_number f p _; buffer_after = first_left f p _ _; state_after = first_left f p _ _; answer_after = first_left f p _ _ }

  pub add_made : {s : PointBuilder} {known : Kind} {given r : Added} {buffer' state' answer' : List ℕ} → None (add_checks state kind answer)
      → s ≡ state_of state → known ≡ kind_of kind → AddPost s buffer (record { key = key; kind = known; size = size; sequence = sequence; new_key = flag_of new_key }) given buffer' → given ≡ r
      → state' ≡ splice state 0 (state_values r) → answer' ≡ splice answer 0 (added_values r)
      → AddCall buffer state key kind size sequence new_key answer (number_of r) buffer' state' answer'
  add_made {s} {known} {given} {r} c se ke p g ws av =
      let q = rw (se, ke) at p in
      let e : r ≡ add_called buffer state key kind size sequence new_key = sym g ∙ q.answer in
      record {
        number = ap number_of e ∙ none_number c _;
        buffer_after = q.buffer ∙ none_left c _ _;
        state_after = ws ∙ ap (λ (z : Added). splice state 0 (state_values z)) e ∙ none_left c _ _;
        answer_after = av ∙ ap (λ (z : Added). splice answer 0 (added_values z)) e ∙ none_left c _ _;
      }

-- ---- set offset

module _ (state : List ℕ) where
  pub set_stateless : length state < 3 → First 1 (set_offset_checks state)
  set_stateless h = here (lt-ltb (length state) 3 h) refl

  pub set_passed : 3 ≤ length state → None (set_offset_checks state)
  set_passed h = none_more (le-ltb (length state) 3 h) none_here

module _ {buffer state : List ℕ} {place offset : ℕ} where
  pub set_refused : length state < 3 → SetOffsetCall buffer state place offset 1 buffer
  set_refused h =
      let f = set_stateless state h in
      record { number = first_number f (omega arith) _; buffer_after = first_left f (omega arith) _ _ }

  pub set_made : {s : PointBuilder} {given r : Result (Unit {0}) Refusal} {buffer' : List ℕ} → 3 ≤ length state → s ≡ state_of state → SetPost s buffer place offset given buffer' → given ≡ r
      → SetOffsetCall buffer state place offset (number_of r) buffer'
  set_made h se p g =
      let q = rw se at p in
      record { number = ap number_of (sym g ∙ q.answer) ∙ none_number (set_passed state h) _; buffer_after = q.buffer ∙ none_left (set_passed state h) _ _ }
