-- What writing promises: 15 exactly for what no reading accepts, 6 exactly for an output too short, else 0 with the bytes written; a refusal
-- leaves the output. Assumes nothing.
use mathlib.Core.Path.{◌≡◌, refl, sym, ap, ◌∙◌, subst}
use mathlib.Core.Bool.{Bool, true, false, cond}
use mathlib.Core.List.{List, [], ◌∷◌}
use Prim.Native.Nat.{ℕ, ◌+◌, ◌<◌, ◌≤◌}
use native.Mathlib.Omega.{arith}
use borrow.Author.Tests.{ltb-true, ltb-false, lt-ltb, le-ltb}
use lib.Dec.{ltb}
use lib.ListN.{length}
use Rattle.std.specs.Prelude.{Result, Ok, Err}
use Rattle.numbers.specs.declared.Refusal.{Refusal}
use Rattle.numbers.specs.declared.Refusal.TheVariants.{Filter, Buffer}
use Rattle.numbers.specs.Numbers.{number_of}
use Rattle.words.specs.Field.{splice}
use Rattle.filter.specs.declared.SstFilter.{SstFilter}
use Rattle.filter.specs.Reading.{acceptable}
use Rattle.filter.specs.Writing.{bytes_for, write_of, output_by, written_values, WritePost}

-- the ways it goes
data Writes (filter : SstFilter) (cells : List ℕ) (room : ℕ) : Result ℕ Refusal → Type 0 where
  writes_none : acceptable filter (length cells) ≡ false → Writes filter cells room (Err Filter)
  writes_short : acceptable filter (length cells) ≡ true → room < 48 + length cells → Writes filter cells room (Err Buffer)
  writes_whole : acceptable filter (length cells) ≡ true → 48 + length cells ≤ room → Writes filter cells room (Ok (48 + length cells))

writes : (filter : SstFilter) (cells : List ℕ) (room : ℕ) → Writes filter cells room (write_of filter cells room)
unfolding write_of
writes filter cells room = go (acceptable filter (length cells)) (ltb room (48 + length cells)) refl refl
  where
    go : (a b : Bool) → acceptable filter (length cells) ≡ a → ltb room (48 + length cells) ≡ b
        → Writes filter cells room (cond a (cond b (Err Buffer) (Ok (48 + length cells))) (Err Filter))
    go true true p q = writes_short p (ltb-true _ _ q)
    go true false p q = writes_whole p (ltb-false _ _ q)
    go false b p q = writes_none p

-- a refusal has no value
pub refused_unwritten : (w : Result ℕ Refusal) → 0 < number_of w → written_values w ≡ []
refused_unwritten (Ok n) h = absurd (omega arith)
refused_unwritten (Err r) h = refl

module _ {filter : SstFilter} {cells out : List ℕ} {r : Result ℕ Refusal} {after : List ℕ} (P : WritePost filter cells out r after) where
  way : Writes filter cells (length out) r
  way = subst (Writes filter cells (length out)) (sym P.answer) (writes filter cells (length out))

  left : after ≡ output_by r filter cells out
  left = P.output ∙ ap (λ (x : Result ℕ Refusal). output_by x filter cells out) (sym P.answer)

  -- THEOREM: 15 exactly for what no reading accepts, and the output is left
  pub fifteen_cause : number_of r ≡ 15 → (acceptable filter (length cells) ≡ false) × (after ≡ out)
  fifteen_cause = go way left
    where
      go : {x : Result ℕ Refusal} → Writes filter cells (length out) x → after ≡ output_by x filter cells out → number_of x ≡ 15
          → (acceptable filter (length cells) ≡ false) × (after ≡ out)
      go (writes_none p) o e = (p, o)
      go (writes_short p l) o e = absurd (omega arith)
      go (writes_whole p l) o e = absurd (omega arith)

  pub cause_fifteen : acceptable filter (length cells) ≡ false → number_of r ≡ 15
  unfolding write_of
  cause_fifteen e = ap number_of P.answer ∙ rw e

  -- THEOREM: 6 exactly for an output too short, and it is left
  pub six_cause : number_of r ≡ 6 → (acceptable filter (length cells) ≡ true) × (length out < 48 + length cells) × (after ≡ out)
  six_cause = go way left
    where
      go : {x : Result ℕ Refusal} → Writes filter cells (length out) x → after ≡ output_by x filter cells out → number_of x ≡ 6
          → (acceptable filter (length cells) ≡ true) × (length out < 48 + length cells) × (after ≡ out)
      go (writes_none p) o e = absurd (omega arith)
      go (writes_short p l) o e = (p, l, o)
      go (writes_whole p l) o e = absurd (omega arith)

  pub cause_six : acceptable filter (length cells) ≡ true → length out < 48 + length cells → number_of r ≡ 6
  unfolding write_of
  cause_six e l = ap number_of P.answer ∙ rw (e, lt-ltb (length out) (48 + length cells) l)

  -- THEOREM: else 0, with as many bytes as are written: they stand in front of the output
  pub whole_written : acceptable filter (length cells) ≡ true → 48 + length cells ≤ length out
      → (number_of r ≡ 0) × (written_values r ≡ (48 + length cells) ∷ []) × (after ≡ splice out 0 (bytes_for filter cells))
  unfolding write_of
  whole_written e l =
      let a : r ≡ Ok (48 + length cells) = P.answer ∙ rw (e, le-ltb (length out) (48 + length cells) l) in
      (ap number_of a, ap written_values a, left ∙ ap (λ (x : Result ℕ Refusal). output_by x filter cells out) a)

  pub written_whole : number_of r ≡ 0 → (acceptable filter (length cells) ≡ true) × (48 + length cells ≤ length out)
  written_whole = go way
    where
      go : {x : Result ℕ Refusal} → Writes filter cells (length out) x → number_of x ≡ 0 → (acceptable filter (length cells) ≡ true) × (48 + length cells ≤ length out)
      go (writes_none p) e = absurd (omega arith)
      go (writes_short p l) e = absurd (omega arith)
      go (writes_whole p l) e = (p, l)
