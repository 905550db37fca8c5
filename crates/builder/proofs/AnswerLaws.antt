-- The answers of add and set offset and their refusals: what an answer says of the refusal. Assumes nothing.
use Rattle.std.specs.Prelude.{Ok, Err}
use Prim.Native.Nat.{ℕ, zero, suc, ◌-◌, ◌<◌}
use mathlib.Core.Path.{◌≡◌, refl, sym, ap, ◌∙◌}
use mathlib.Core.Bool.{Bool, true, false, cond}
use mathlib.Core.List.{List, ◌∷◌}
use native.Mathlib.Omega.{arith}
use borrow.Author.Tests.{eqb-true, eqb-false, eq-eqb, ne_eqb, not-false}
use lib.Dec.{eqb, lit<}
use Rattle.laws.specs.Each.{Each}
use Rattle.laws.specs.Each.Each.{each_none, each_more}
use Rattle.laws.specs.Refusals.{Cause, cause, None, none_here, none_more, Numbered, numbered_none, numbered_more}
use Rattle.laws.proofs.RefusalLaws.{none_only}
use Rattle.numbers.specs.Numbers.{number, number_of, answered, refusal_of}
use Rattle.numbers.specs.declared.Refusal.{Refusal}
use Rattle.numbers.proofs.NumberLaws.{Given, number_answered, given_first}
use Rattle.words.specs.Field.{bytes_of, splice}
use Rattle.builder.specs.declared.PointBuilder.{PointBuilder}
use Rattle.builder.specs.State.{fits, last_of, room_of}
use Rattle.builder.specs.Add.{Call, new_causes, continued_causes, taking_causes, add_causes, add_refusal, next_state, next_place, appended, add_of, buffer_after_add}
use Rattle.builder.specs.SetOffset.{set_causes, set_refusal, set_of, buffer_after_set}

-- a cause in front of a row, by a refusal's number
given_more : {b : Bool} {cs : List Cause} (n : ℕ) → Given n → Each (λ c. Given c.number) cs → Each (λ c. Given c.number) (cause b n ∷ cs)
given_more n g e = each_more g e

-- a number above 0 is answered by its refusal
refused_by : {A : Type 0} {n : ℕ} (a : ℕ) (value : A) → a ≡ n → 0 < n → answered a value ≡ Err (refusal_of n)
refused_by zero value e p = absurd (omega arith)
refused_by (suc a) value e p = ap (λ n. Err (refusal_of n)) e

module _ (s : PointBuilder) (buffer : List ℕ) (call : Call) where
  key_given : (new_key : Bool) → Each (λ c. Given c.number) (cond new_key (new_causes s (last_of s buffer) (room_of s buffer) call.key) (continued_causes s (last_of s buffer) (room_of s buffer) call.key call.sequence))
  unfolding new_causes continued_causes
  key_given true = given_more 4 refl (given_more 5 refl (given_more 6 refl each_none))
  key_given false = given_more 4 refl (given_more 4 refl (given_more 4 refl (given_more 5 refl (given_more 6 refl each_none))))

  -- every cause has a refusal's number
  add_given : Each (λ c. Given c.number) (add_causes s buffer call)
  unfolding add_causes taking_causes
  add_given = given_more 1 refl (given_more 2 refl (given_more 2 refl (given_more 3 refl (key_given call.new_key))))

  -- the number of the answer is the refusal
  pub add_number : number_of (add_of s buffer call) ≡ add_refusal s buffer call
  unfolding add_of add_refusal
  add_number = number_answered (add_refusal s buffer call) (next_state s call, next_place s call) (given_first (add_causes s buffer call) add_given)

  pub taken_given : add_refusal s buffer call ≡ 0 → add_of s buffer call ≡ Ok (next_state s call, next_place s call)
  unfolding add_of
  taken_given e = rw e

  pub buffer_taken : add_refusal s buffer call ≡ 0 → buffer_after_add s buffer call ≡ appended s buffer call
  unfolding buffer_after_add
  buffer_taken e = rw (eq-eqb _ _ e)

  -- a record that add takes: no refusal, the next state and place
  pub taken_known : {next : PointBuilder} {place : ℕ} → add_of s buffer call ≡ Ok (next, place) → (add_refusal s buffer call ≡ 0) × (next ≡ next_state s call) × (place ≡ next_place s call)
  taken_known {next} {place} e =
      let z : add_refusal s buffer call ≡ 0 = sym add_number ∙ ap number_of e in
      let g = sym e ∙ taken_given z in
      let p : ◌≡◌ {A = PointBuilder × ℕ} (next, place) (next_state s call, next_place s call) = cc in
      (z, ap (λ x. x.0) p, ap (λ x. x.1) p)

  -- a record that add refuses
  pub refused_known : {r : Refusal} → add_of s buffer call ≡ Err r → add_refusal s buffer call ≡ number r
  refused_known e = sym add_number ∙ ap number_of e

  pub refused_given : {n : ℕ} → add_refusal s buffer call ≡ n → 0 < n → add_of s buffer call ≡ Err (refusal_of n)
  unfolding add_of
  refused_given e p = refused_by _ _ e p

  pub buffer_kept : (add_refusal s buffer call ≡ 0 → ⊥) → buffer_after_add s buffer call ≡ buffer
  unfolding buffer_after_add
  buffer_kept h = rw (ne_eqb _ 0 h)

module _ (s : PointBuilder) (buffer : List ℕ) (place : ℕ) where
  pub set_numbered : Numbered (set_causes s buffer place)
  unfolding set_causes
  set_numbered = numbered_more (lit< tt) (numbered_more (lit< tt) (numbered_more (lit< tt) numbered_none))

  -- every cause has a refusal's number
  causes_given : Each (λ c. Given c.number) (set_causes s buffer place)
  unfolding set_causes
  causes_given = given_more 1 refl (given_more 7 refl (given_more 7 refl each_none))

  -- the number of the answer is the refusal
  pub set_number_lem : number_of (set_of s buffer place) ≡ set_refusal s buffer place
  unfolding set_of
  set_number_lem = number_answered (set_refusal s buffer place) (record {}) (given_first (set_causes s buffer place) causes_given)

  pub set_given : set_refusal s buffer place ≡ 0 → set_of s buffer place ≡ Ok (record {})
  unfolding set_of
  set_given e = rw e

  pub set_known : set_of s buffer place ≡ Ok (record {}) → set_refusal s buffer place ≡ 0
  set_known e = sym set_number_lem ∙ ap number_of e

  none_set : None (set_causes s buffer place) → (fits s buffer ≡ true) × (s.keys ≡ 0 → ⊥) × (place ≡ s.used - 8)
  unfolding set_causes
  none_set (none_more f (none_more k (none_more p none_here))) =
      (not-false (fits s buffer) f, eqb-false s.keys 0 k, eqb-true place (s.used - 8) (not-false (eqb place (s.used - 8)) p))

  -- an offset that no cause refuses
  pub set_unrefused : set_refusal s buffer place ≡ 0 → (fits s buffer ≡ true) × (s.keys ≡ 0 → ⊥) × (place ≡ s.used - 8)
  set_unrefused e = none_set (none_only set_numbered e)

  pub buffer_set : (offset : ℕ) → set_refusal s buffer place ≡ 0 → buffer_after_set s buffer place offset ≡ splice buffer place (bytes_of 8 offset)
  unfolding buffer_after_set
  buffer_set offset e = rw (eq-eqb _ _ e)

  -- an offset that is refused
  pub unset_known : {r : Refusal} → set_of s buffer place ≡ Err r → set_refusal s buffer place ≡ number r
  unset_known e = sym set_number_lem ∙ ap number_of e

  pub unset_given : {n : ℕ} → set_refusal s buffer place ≡ n → 0 < n → set_of s buffer place ≡ Err (refusal_of n)
  unfolding set_of
  unset_given e p = refused_by _ _ e p

  pub buffer_unset : (offset : ℕ) → (set_refusal s buffer place ≡ 0 → ⊥) → buffer_after_set s buffer place offset ≡ buffer
  unfolding buffer_after_set
  buffer_unset offset h = rw (ne_eqb _ 0 h)
