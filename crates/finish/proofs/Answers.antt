-- What is promised of finish's answers: each number exactly for its cause, the body's length for none; 10 exactly where each of the eight
-- attempts fails; 11 never; its result is fixed. Assumes nothing.
use Prim.Native.Nat.{ℕ, zero, suc, ◌<◌}
use native.Mathlib.Omega.{arith}
use mathlib.Core.Path.{◌≡◌, refl, sym, ◌∙◌, subst}
use mathlib.Core.Bool.{false≢true}
use mathlib.Core.List.{List, [], ◌∷◌}
use mathlib.Core.Option.{Option, none, some}
use mathlib.Core.Logic.{◌⊎◌, inl, inr}
use lib.ListN.{length}
use Rattle.numbers.specs.Numbers.{answered, number_of}
use Rattle.numbers.proofs.NumberLaws.{Given, number_answered, given_first}
use Rattle.laws.specs.Each.{Each, each_none, each_more}
use Rattle.laws.specs.Refusals.{Cause, cause, First}
use Rattle.laws.proofs.RefusalLaws.{first_given, first_only}
use Rattle.laws.specs.Refusals.First.{here, later}
use Rattle.laws.specs.Refusals.{FirstOfTwo}
use Rattle.laws.proofs.RefusalLaws.{two_only}
use Rattle.laws.specs.Refusals.FirstOfTwo.{by_first_is, by_second}
use Rattle.mixing.specs.Mixing.{seed_of}
use Rattle.construct.specs.Construct.{Placing, attempt_of}
use Rattle.construct.specs.Keys.{attempt_hashes}
use Rattle.construct.specs.Promised.{AttemptFails}
use Rattle.construct.proofs.KeysLaws.{hashes_long}
use Rattle.construct.proofs.Failing.{fails_attempt, attempt_fails}
use Rattle.construct.proofs.Exhausting.{all_fail, none_attempted}
use Rattle.finish.specs.Body.{placed_of}
use Rattle.finish.specs.Finish.{walked, keys_of, walked_causes, walked_refusal, untaken, mismatched, placing_causes, lengths_refusal, placing_refusal, finish_causes, finish_refusal, body_length, finish_of, finished_values}
use Rattle.finish.proofs.LengthLaws.{lengths}
use Rattle.finish.proofs.FinishLaws.{refused_by, refused_late}
use Rattle.finish.proofs.SelfCheck.{check_passes}

-- the value of an answer is the body's length, where nothing is refused
values_of : (r size : ℕ) → r ≡ 0 → finished_values (answered r size) ≡ size ∷ []
values_of zero size z = refl
values_of (suc r) size z = absurd (omega arith)

module _ (arena : List ℕ) (out wide narrow : ℕ) where
  -- each cause has the number of a refusal
  finish_given : Each (λ (c : Cause). Given c.number) (finish_causes arena out wide narrow)
  finish_given = each_more refl (each_more refl (each_more refl (each_more refl (each_more refl (each_more refl (each_more refl (each_more refl each_none)))))))

  pub finish_number : number_of (finish_of arena out wide narrow) ≡ finish_refusal arena out wide narrow
  unfolding finish_of finish_refusal
  finish_number = number_answered (finish_refusal arena out wide narrow) (body_length arena (keys_of arena)) (given_first _ finish_given)

  -- THEOREM: a number is answered exactly where its cause is the first that holds, in the order 8, 5, 9, 6, 10, 11
  pub cause_first : (r : ℕ) → 0 < r → number_of (finish_of arena out wide narrow) ≡ r → First r (finish_causes arena out wide narrow)
  unfolding finish_refusal
  cause_first r p e = first_only r (finish_causes arena out wide narrow) p (sym finish_number ∙ e)

  pub cause_given : (r : ℕ) → First r (finish_causes arena out wide narrow) → number_of (finish_of arena out wide narrow) ≡ r
  unfolding finish_refusal
  cause_given r f = finish_number ∙ first_given f

  -- THEOREM: the value of 0 is the body's length
  pub finish_values : number_of (finish_of arena out wide narrow) ≡ 0 → finished_values (finish_of arena out wide narrow) ≡ body_length arena (keys_of arena) ∷ []
  unfolding finish_of
  finish_values e = values_of (finish_refusal arena out wide narrow) (body_length arena (keys_of arena)) (sym finish_number ∙ e)

  -- a number above 9 is given past the length checks, by the placing
  past_lengths : (r : ℕ) → 9 < r → number_of (finish_of arena out wide narrow) ≡ r
      → (lengths_refusal arena out wide narrow ≡ 0) × (placing_refusal arena (keys_of arena) ≡ r)
  unfolding walked_refusal
  past_lengths r l e = go (two_only r _ _ (sym (refused_by arena out wide narrow) ∙ sym finish_number ∙ e))
    where
      other : First r (walked_causes (length arena) (walked arena).end (keys_of arena) out wide narrow) → ⊥
      other (here h z) = omega arith
      other (later h (here h1 z)) = omega arith
      other (later h (later h1 (here h2 z))) = omega arith
      other (later h (later h1 (later h2 (here h3 z)))) = omega arith
      other (later h (later h1 (later h2 (later h3 (here h4 z))))) = omega arith
      other (later h (later h1 (later h2 (later h3 (later h4 (here h5 z)))))) = omega arith
      other (later h (later h1 (later h2 (later h3 (later h4 (later _ x)))))) = elim x [ ]

      go : FirstOfTwo r (lengths_refusal arena out wide narrow) (placing_refusal arena (keys_of arena))
          → (lengths_refusal arena out wide narrow ≡ 0) × (placing_refusal arena (keys_of arena) ≡ r)
      go (by_first_is q) = absurd (other (first_only r (walked_causes (length arena) (walked arena).end (keys_of arena) out wide narrow) (omega arith) q))
      go (by_second z q) = (z, q)

  -- THEOREM: 10 exactly where nothing is refused before and each of the eight attempts fails
  pub ten_exhausts : number_of (finish_of arena out wide narrow) ≡ 10 → (i : ℕ) → i < 8 → attempt_of (attempt_hashes arena (keys_of arena) i) ≡ none
  unfolding placing_refusal placed_of
  ten_exhausts e =
      all_fail (attempt_hashes arena (keys_of arena))
      (go (placed_of arena (keys_of arena)) (first_only 10 (placing_causes arena (keys_of arena)) (omega arith) (past_lengths 10 (omega arith) e).1))
    where
      go : (o : Option (ℕ × Placing)) → First 10 (cause (untaken o) 10 ∷ cause (mismatched (attempt_hashes arena (keys_of arena)) o) 11 ∷ []) → o ≡ none
      go none f = refl
      go (some x) (here h z) = absurd (false≢true h)
      go (some x) (later h (here h1 z)) = absurd (omega arith)
      go (some x) (later h (later _ y)) = elim y [ ]

  pub exhausts_ten : lengths_refusal arena out wide narrow ≡ 0 → ((i : ℕ) → i < 8 → attempt_of (attempt_hashes arena (keys_of arena) i) ≡ none) → number_of (finish_of arena out wide narrow) ≡ 10
  unfolding placing_refusal placed_of
  exhausts_ten z f = finish_number ∙ refused_late arena out wide narrow z ∙ rw (none_attempted (attempt_hashes arena (keys_of arena)) f)

  -- past the length checks there is a key
  some_key : lengths_refusal arena out wide narrow ≡ 0 → 0 < keys_of arena
  some_key z = (lengths (length arena) (walked arena).end (keys_of arena) out wide narrow z).some

  some_hash : lengths_refusal arena out wide narrow ≡ 0 → (i : ℕ) → 0 < length (attempt_hashes arena (keys_of arena) i)
  unfolding attempt_hashes
  some_hash z i = subst (λ (x : ℕ). 0 < x) (sym (hashes_long (seed_of i) arena (keys_of arena))) (some_key z)

  -- THEOREM: 10 exactly where nothing is refused before and for each of the eight seeds two members of a bucket have equal hashes, or a bucket
  -- of two or more finds no pilot
  pub ten_attempts : number_of (finish_of arena out wide narrow) ≡ 10
      → (lengths_refusal arena out wide narrow ≡ 0) × ((i : ℕ) → i < 8 → AttemptFails (attempt_hashes arena (keys_of arena) i))
  ten_attempts e =
      let z = (past_lengths 10 (omega arith) e).0 in
      (z, λ i l. attempt_fails (attempt_hashes arena (keys_of arena) i) (some_hash z i) (ten_exhausts e i l))

  pub attempts_ten : lengths_refusal arena out wide narrow ≡ 0 → ((i : ℕ) → i < 8 → AttemptFails (attempt_hashes arena (keys_of arena) i))
      → number_of (finish_of arena out wide narrow) ≡ 10
  attempts_ten z f = exhausts_ten z (λ i l. fails_attempt (attempt_hashes arena (keys_of arena) i) (some_hash z i) (f i l))

  -- THEOREM: 11 is never answered
  pub never_eleven : number_of (finish_of arena out wide narrow) ≡ 11 → ⊥
  unfolding placing_refusal
  never_eleven e =
      let p = past_lengths 11 (omega arith) e in
      go (some_key p.0) (placed_of arena (keys_of arena)) refl (first_only 11 (placing_causes arena (keys_of arena)) (omega arith) p.1)
    where
      go : 0 < keys_of arena → (o : Option (ℕ × Placing)) → placed_of arena (keys_of arena) ≡ o
          → First 11 (cause (untaken o) 10 ∷ cause (mismatched (attempt_hashes arena (keys_of arena)) o) 11 ∷ []) → ⊥
      go any o q (here h z) = omega arith
      go any none q (later h (here h1 z)) = false≢true h1
      go any none q (later h (later _ x)) = elim x [ ]
      go any (some (i, pl)) q (later h (here h1 z)) = false≢true (sym (check_passes arena (keys_of arena) i pl any q) ∙ h1)
      go any (some (i, pl)) q (later h (later _ x)) = elim x [ ]

-- THEOREM: past the length checks the answer is a body or 10
pub body_or_ten : (arena : List ℕ) (out wide narrow : ℕ) → 0 < keys_of arena → lengths_refusal arena out wide narrow ≡ 0
    → (number_of (finish_of arena out wide narrow) ≡ 0) ⊎ (number_of (finish_of arena out wide narrow) ≡ 10)
unfolding placing_refusal
body_or_ten arena out wide narrow any z = go (placed_of arena (keys_of arena)) refl (finish_number arena out wide narrow ∙ refused_late arena out wide narrow z)
  where
    go : (o : Option (ℕ × Placing)) → placed_of arena (keys_of arena) ≡ o → number_of (finish_of arena out wide narrow) ≡ placing_refusal arena (keys_of arena)
        → (number_of (finish_of arena out wide narrow) ≡ 0) ⊎ (number_of (finish_of arena out wide narrow) ≡ 10)
    go none q e = inr (e ∙ rw q)
    go (some (i, pl)) q e = inl (e ∙ rw (q, check_passes arena (keys_of arena) i pl any q))
