-- The self-check never fails: where an attempt succeeds, every slot is filled by a key whose index it is. Assumes nothing.
use Prim.Native.Nat.{ℕ, suc, ◌-◌, ◌<◌}
use native.Mathlib.Omega.{arith}
use mathlib.Core.Path.{◌≡◌, refl, sym, ap, ◌∙◌, subst}
use mathlib.Core.Bool.{false}
use mathlib.Core.List.{List}
use mathlib.Core.Option.{some}
use lib.ListN.{length, get_or}
use borrow.Author.Tests.{le-ltb, eq-eqb, ne_eqb}
use Rattle.laws.proofs.StepsLaws.{none_passes}
use Rattle.construct.specs.Construct.{Placing, index_of}
use Rattle.construct.specs.Keys.{attempt_hashes}
use Rattle.construct.specs.Promised.{AllPlaced, Pilots}
use Rattle.construct.proofs.KeysLaws.{hashes_long}
use Rattle.construct.proofs.Exhausting.{taken_whole}
use Rattle.finish.specs.Body.{placed_of}
use Rattle.finish.specs.Finish.{unmatched, unmatched_at, mismatch}

-- a slot that holds a key whose index it is
slot_passes : (hs pilots : List ℕ) (n s held m : ℕ) → held ≡ suc m → m < n → index_of (get_or hs m 0) pilots n ≡ s → unmatched hs pilots n s held ≡ false
unfolding unmatched
slot_passes hs pilots n s held m e l q =
    let filled : held ≡ 0 → ⊥ = λ z. omega arith in
    let low = le-ltb n held (omega arith) in
    let at : held - 1 ≡ m = omega arith in
    rw (ne_eqb held 0 filled, low, at, q, eq-eqb s s refl)

-- the slots of a whole placing
pub whole_matched : (hs : List ℕ) (pl : Placing) → AllPlaced hs pl → mismatch hs pl.pilots pl.slots ≡ false
unfolding mismatch unmatched_at
whole_matched hs pl W = none_passes (unmatched_at hs pl.pilots pl.slots) (length pl.slots) each
  where
    each : (s : ℕ) → s < length pl.slots → unmatched hs pl.pilots (length pl.slots) s (get_or pl.slots s 0) ≡ false
    each s l =
        let long = W.slots_long in
        let h = W.holds s (omega arith) in
        slot_passes hs pl.pilots (length pl.slots) s (get_or pl.slots s 0) h.0 h.2 (omega (arith, h.1)) (ap (index_of (get_or hs h.0 0) pl.pilots) long ∙ h.3)

-- the placing that is taken for n keys is whole, and its pilots are the least
pub placed_whole : (arena : List ℕ) (n i : ℕ) (pl : Placing) → 0 < n → placed_of arena n ≡ some (i, pl) → AllPlaced (attempt_hashes arena n i) pl × Pilots (attempt_hashes arena n i) pl.pilots
unfolding placed_of attempt_hashes
placed_whole arena n i pl any e = taken_whole (attempt_hashes arena n) (λ j. subst (λ (x : ℕ). 0 < x) (sym (hashes_long _ arena n)) any) i pl e

-- THEOREM: the self-check passes, for every arena with a key
pub check_passes : (arena : List ℕ) (n i : ℕ) (pl : Placing) → 0 < n → placed_of arena n ≡ some (i, pl) → mismatch (attempt_hashes arena n i) pl.pilots pl.slots ≡ false
check_passes arena n i pl any e = whole_matched (attempt_hashes arena n i) pl (placed_whole arena n i pl any e).0
