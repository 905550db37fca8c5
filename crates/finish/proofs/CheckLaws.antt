-- What it says that the self-check passes: every slot is filled, by a key whose index it is. Assumes nothing.
use Prim.Native.Nat.{ℕ, ◌-◌, ◌≤◌, ◌<◌}
use native.Mathlib.Omega.{arith}
use mathlib.Core.Path.{◌≡◌, refl, sym}
use mathlib.Core.Bool.{Bool, true, false, ◌||◌, false≢true}
use mathlib.Core.List.{List}
use lib.Dec.{eqb, ltb}
use lib.ListN.{length, get_or}
use borrow.Author.Tests.{ltb-false, eqb-true, eqb-false, not-false}
use Rattle.laws.proofs.StepsLaws.{any_false}
use Rattle.construct.specs.Construct.{index_of}
use Rattle.finish.specs.Finish.{unmatched, unmatched_at, mismatch}
use Rattle.finish.specs.Inner.Needs.{Filled}

module _ (hs pilots : List ℕ) (n s held : ℕ) where
  -- a slot that passes holds a key, whose index it is
  pub record Matched : Type 0 where
    pub filled : 0 < held
    pub key : held ≤ n
    pub index : index_of (get_or hs (held - 1) 0) pilots n ≡ s

  pub matched : unmatched hs pilots n s held ≡ false → Matched
  unfolding unmatched
  matched h =
      let e1 = neither (eqb held 0) _ h in
      let e2 = neither (ltb n held) _ e1.1 in
      let z = eqb-false held 0 e1.0 in
      record { filled = omega arith; key = ltb-false _ _ e2.0; index = eqb-true _ _ (not-false _ e2.1) }
    where
      neither : (a b : Bool) → (a || b) ≡ false → (a ≡ false) × (b ≡ false)
      neither true b e = absurd (false≢true (sym e))
      neither false b e = (refl, e)

-- where the self-check passes, each slot does
pub slot_matched : (hs pilots slots : List ℕ) → mismatch hs pilots slots ≡ false → (s : ℕ) → s < length slots → Matched hs pilots (length slots) s (get_or slots s 0)
unfolding mismatch unmatched_at
slot_matched hs pilots slots h s l = matched hs pilots (length slots) s (get_or slots s 0) (any_false (unmatched_at hs pilots slots) (length slots) s h l)

pub all_filled : (hs pilots slots : List ℕ) → mismatch hs pilots slots ≡ false → Filled (length slots) slots
all_filled hs pilots slots h = record { filled = λ s l. (slot_matched hs pilots slots h s l).filled; keys = λ s l. (slot_matched hs pilots slots h s l).key }
