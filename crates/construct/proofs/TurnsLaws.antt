-- The turn of a bucket: what stands placed when it comes, and that a bucket which then cannot be placed fails the attempt. Assumes nothing.
use Prim.Native.Nat.{ℕ, suc, ◌-◌, ◌≤◌, ◌<◌}
use mathlib.Core.Path.{◌≡◌, refl, sym, ap, ◌∙◌, subst}
use mathlib.Core.Bool.{Bool, true, false, cond}
use mathlib.Core.List.{List}
use mathlib.Core.Option.{none}
use native.Mathlib.Omega.{arith}
use lib.ListN.{length, get_or}
use Rattle.mixing.specs.Mixing.{position_of_lt}
use Rattle.laws.specs.Steps.{steps}
use Rattle.laws.proofs.StepsLaws.{steps_more, steps_failed, maximum_above}
use Rattle.construct.specs.Construct.{buckets_of, group, size, spot, Placing, place_single, place_of, place_size, place_down, largest, blank, any_twins, attempt_from, attempt_of}
use Rattle.construct.specs.Promised.{Turn}
use Rattle.construct.proofs.Placed.{Partly, done, done_not_yet, done_now, done_others, size_partly, passes_partly, single_finds}

module _ (hs : List ℕ) (pos : 0 < length hs) (k : ℕ) (low : k < buckets_of (length hs)) where
  pub size_most : size hs k ≤ largest hs
  unfolding largest
  size_most = maximum_above (size hs) (buckets_of (length hs)) k low

  module _ (pl : Placing) (T : Turn hs k pl) where
    -- the larger buckets are placed, and of its size those of lower number
    pub turn_partly : Partly hs (done hs (size hs k) k) pl
    turn_partly =
        size_partly hs pos (size hs k) k (omega arith) T.begun pl
        (subst (λ (s : ℕ). Partly hs (done hs s 0) T.begun) (omega (arith, size_most)) (passes_partly hs pos (largest hs - size hs k) (omega arith) T.begun T.larger))
        T.lower

    -- every position is a slot
    pub turn_spots : (p j : ℕ) → spot hs (group hs k) p j < length pl.slots
    unfolding spot
    turn_spots p j = subst (λ (x : ℕ). spot hs (group hs k) p j < x) (sym turn_partly.slots_long) (position_of_lt (get_or hs (get_or (group hs k) j 0) 0) p (length hs) pos)

    -- a single-member bucket never wants for a free slot
    pub slot_free : size hs k ≡ 1 → place_single hs k pl ≡ none → ⊥
    slot_free one h =
        single_finds hs pos (done hs (size hs k) k) (done hs (size hs k) (suc k)) k low (done_not_yet hs (size hs k) k refl) (done_now hs (size hs k) k refl) (done_others hs (size hs k) k) pl one turn_partly h

    -- a bucket that cannot be placed in its turn fails the passes, and so the attempt
    fails_passes : 0 < size hs k → place_of hs (size hs k) k pl ≡ none → steps (place_down hs (largest hs)) (largest hs) (blank hs) ≡ none
    unfolding place_down place_size
    fails_passes some_size h =
        ap (λ (x : ℕ). steps (place_down hs (largest hs)) x (blank hs)) (omega (arith, size_most))
        ∙ steps_failed (place_down hs (largest hs)) (suc t) (blank hs) (steps_more (place_down hs (largest hs)) t (blank hs) T.begun T.larger ∙ pass) (largest hs - suc t)
      where
        b : ℕ
        b = buckets_of (length hs)

        t : ℕ
        t = largest hs - size hs k

        bucket_fails : steps (place_of hs (size hs k)) b T.begun ≡ none
        bucket_fails =
            ap (λ (x : ℕ). steps (place_of hs (size hs k)) x T.begun) (omega (arith, low))
            ∙ steps_failed (place_of hs (size hs k)) (suc k) T.begun (steps_more (place_of hs (size hs k)) k T.begun pl T.lower ∙ h) (b - suc k)

        pass : place_size hs (largest hs - t) T.begun ≡ none
        pass = ap (λ (s : ℕ). place_size hs s T.begun) (omega (arith, size_most)) ∙ bucket_fails

    pub turn_fails : 0 < size hs k → place_of hs (size hs k) k pl ≡ none → attempt_of hs ≡ none
    unfolding attempt_of attempt_from
    turn_fails some_size h = go (any_twins hs) (fails_passes some_size h)
      where
        go : (t : Bool) → steps (place_down hs (largest hs)) (largest hs) (blank hs) ≡ none → cond t none (steps (place_down hs (largest hs)) (largest hs) (blank hs)) ≡ none
        go true e = refl
        go false e = e
