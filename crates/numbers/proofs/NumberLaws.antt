-- Laws of the numbers of refusals and of answers by their number: what a function that hands an answer on needs.
use Rattle.std.specs.Prelude.{ℕ, zero, suc, List, [], ◌∷◌, Bool, true, false, cond, ◌≡◌, refl, ◌<◌, Result, Ok, Err}
use Rattle.std.proofs.Common.{arith, ap, sym, ◌∙◌}
use Rattle.std.specs.Prelude.{IsErrAnd}
use Rattle.std.proofs.lemmas.Result.{err_from_is_err_and}
use Rattle.laws.specs.Refusals.{Cause, first_of, or_else}
use Rattle.laws.specs.Each.{Each, each_more}
use Rattle.numbers.specs.declared.Refusal.{Refusal}
use Rattle.numbers.specs.declared.Refusal.TheVariants.{State, TooLong, Tombstone, Order, Count, Buffer, Place, Arena, Workspace, Attempts, SelfCheck, Hashes, Damage, Filter, Input, Magic, Dimensions, Pilot, Head, Key, KeyOrder, Slot, Version, Kind, Value, LeftOver}
use Rattle.numbers.specs.Numbers.{number, refusal_of, answered, number_of}

-- a refusal is the one of its number
pub refusal_number : (r : Refusal) → refusal_of (number r) ≡ r
refusal_number State = refl
refusal_number TooLong = refl
refusal_number Tombstone = refl
refusal_number Order = refl
refusal_number Count = refl
refusal_number Buffer = refl
refusal_number Place = refl
refusal_number Arena = refl
refusal_number Workspace = refl
refusal_number Attempts = refl
refusal_number SelfCheck = refl
refusal_number Hashes = refl
refusal_number Damage = refl
refusal_number Filter = refl
refusal_number Input = refl
refusal_number Magic = refl
refusal_number Dimensions = refl
refusal_number Pilot = refl
refusal_number Head = refl
refusal_number Key = refl
refusal_number KeyOrder = refl
refusal_number Slot = refl
refusal_number Version = refl
refusal_number Kind = refl
refusal_number Value = refl
refusal_number LeftOver = refl

-- its number is above 0
pub number_positive : (r : Refusal) → 0 < number r
number_positive State = omega arith
number_positive TooLong = omega arith
number_positive Tombstone = omega arith
number_positive Order = omega arith
number_positive Count = omega arith
number_positive Buffer = omega arith
number_positive Place = omega arith
number_positive Arena = omega arith
number_positive Workspace = omega arith
number_positive Attempts = omega arith
number_positive SelfCheck = omega arith
number_positive Hashes = omega arith
number_positive Damage = omega arith
number_positive Filter = omega arith
number_positive Input = omega arith
number_positive Magic = omega arith
number_positive Dimensions = omega arith
number_positive Pilot = omega arith
number_positive Head = omega arith
number_positive Key = omega arith
number_positive KeyOrder = omega arith
number_positive Slot = omega arith
number_positive Version = omega arith
number_positive Kind = omega arith
number_positive Value = omega arith
number_positive LeftOver = omega arith

-- the first of two refusals is one, whatever follows
pub refused_first : (r : Refusal) (a b : ℕ) → number r ≡ a → number r ≡ or_else a b
refused_first r zero b e = let p = number_positive r in absurd (omega arith)
refused_first r (suc a) b e = e

-- the refusal of a number, where that is a refusal's
pub answered_refusal : {A : Type 0} (r : Refusal) (a : ℕ) (value : A) → number r ≡ a → answered a value ≡ Err r
answered_refusal r zero value e = let p = number_positive r in absurd (omega arith)
answered_refusal r (suc a) value e = ap Err (ap refusal_of (sym e) ∙ refusal_number r)

-- an answer without a value is the one of its number
pub answered_number : (r : Result (Unit {0}) Refusal) (a : ℕ) → number_of r ≡ a → r ≡ answered a (record {})
answered_number (Ok u) a e = ap (λ (n : ℕ). answered n (record {})) e
answered_number (Err r) a e = sym (answered_refusal r a (record {}) e)

-- a refusal that `?` passes on keeps its number
pub passed_on : {A : Type 0} (r : Result A Refusal) (e : Refusal) (n : ℕ) → IsErrAnd r (λ y. y ≡ e) → number e ≡ n → number_of r ≡ n
passed_on r e n h x = let p = err_from_is_err_and r h in rw (p.1, p.2) x

-- and is none of 0
pub number_nonzero : (r : Refusal) → number r ≡ 0 → ⊥
number_nonzero r z = let p = number_positive r in omega arith

-- ---- the number that a call answers by

-- a number that is 0 or a refusal's
abbrev pub Given : ℕ → Type 0
Given n = number_of {A = Unit {0}} (answered n (record {})) ≡ n

-- an answer by such a number has that number
pub number_answered : {A : Type 0} (n : ℕ) (value : A) → Given n → number_of (answered n value) ≡ n
number_answered zero value g = refl
number_answered (suc n) value g = g

-- a row of such numbers gives such a number
pub given_first : (cs : List Cause) → Each (λ c. Given c.number) cs → Given (first_of cs)
given_first [] e = refl
given_first (c ∷ cs) (each_more g e) = go c.holds (given_first cs e)
  where
    go : (b : Bool) → Given (first_of cs) → Given (cond b c.number (first_of cs))
    go true h = g
    go false h = h
