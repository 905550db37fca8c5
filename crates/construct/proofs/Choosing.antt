-- The pilots of an attempt that succeeds: each bucket of two or more has its least, each single-member bucket names the lowest free slot, the empty ones have 0. Assumes nothing.
use Prim.Native.Nat.{ℕ, zero, suc, ◌+◌, ◌-◌, ◌<◌}
use mathlib.Core.Path.{◌≡◌, refl, sym, ap, ◌∙◌, subst}
use mathlib.Core.Bool.{Bool, true, false, cond, false≢true}
use mathlib.Core.List.{List}
use mathlib.Core.Option.{Option, none, some, map-eq-some_iff, some-injective, none-ne-some, some-ne-none}
use native.Mathlib.Nat.{zero-add}
use native.Mathlib.Omega.{arith}
use native.Mathlib.Decide.{ℕ_discrete}
use lib.ListN.{length, get_or, set, replicate, length-set, length-replicate}
use lib.Seq.{get_or-set_same, get_or-set_other}
use Rattle.laws.specs.Steps.{steps, least}
use Rattle.laws.proofs.StepsLaws.{steps_none, steps_more, steps_keep, least_found, least_before}
use Rattle.construct.specs.Construct.{buckets_of, tries, direct, group, size, settle, seat, Placing, pilot_noted, place_group, place_single, place_of, place_size, place_down, largest, blank, any_twins, attempt_from, attempt_of}
use Rattle.construct.specs.Promised.{Turn, LeastPilot, LowestSlot, Pilots}
use Rattle.construct.proofs.SlotsLaws.{settle_free, settle_some}
use Rattle.construct.proofs.Placed.{done, done_others, done_now, done_skips, done_none, done_all, done_turns, of_skips, of_one, of_several}
use Rattle.construct.proofs.FitsLaws.{tried_low, seat_fits, unseated}
use Rattle.construct.proofs.TurnsLaws.{size_most, turn_spots}

-- the pilots of the buckets that D names, and 0 for the others
record PilotsChosen (hs : List ℕ) (D : ℕ → Bool) (pl : Placing) : Type 0 where
  pub long : length pl.pilots ≡ buckets_of (length hs)
  pub several : (k : ℕ) → k < buckets_of (length hs) → D k ≡ true → 1 < size hs k → LeastPilot hs k (get_or pl.pilots k 0)
  pub single : (k : ℕ) → k < buckets_of (length hs) → D k ≡ true → size hs k ≡ 1 → LowestSlot hs k (get_or pl.pilots k 0)
  pub empty : (k : ℕ) → k < buckets_of (length hs) → D k ≡ false → get_or pl.pilots k 0 ≡ 0

same_chosen : (hs : List ℕ) (D D' : ℕ → Bool) (pl : Placing) → ((k : ℕ) → k < buckets_of (length hs) → D k ≡ D' k) → PilotsChosen hs D pl → PilotsChosen hs D' pl
same_chosen hs D D' pl e w = record {
  long = w.long;
  several = λ k l d. w.several k l (e k l ∙ d);
  single = λ k l d. w.single k l (e k l ∙ d);
  empty = λ k l d. w.empty k l (e k l ∙ d);
}

module _ (hs : List ℕ) (pos : 0 < length hs) (k : ℕ) (low : k < buckets_of (length hs)) (pl : Placing) (T : Turn hs k pl) where
  -- what a bucket of several members takes in its turn
  several_takes : (pl' : Placing) → place_group hs k pl ≡ some pl' → (v : ℕ) × LeastPilot hs k v × (set pl.pilots k v ≡ pl'.pilots)
  unfolding place_group pilot_noted size
  several_takes pl' h =
      let r = (map-eq-some_iff (pilot_noted k 0 pl) (least try tries 0)).0 h in
      let p = r.0.0 in
      let f = least_found try tries 0 p r.0.1 r.1 in (
        p,
        record {
          placing = pl;
          turn = T;
          tried = tried_low p (omega (arith, f.1));
          fits = seat_fits hs (group hs k) p pl.slots (turn_spots hs pos k low pl T p) r.0.1 f.0;
          least = λ q l F. unseated hs (group hs k) q pl.slots (turn_spots hs pos k low pl T q) (least_before try tries 0 p r.0.1 r.1 q (omega arith) l) F;
        },
        ap (set pl.pilots k) (sym (zero-add p)) ∙ ap (λ (x : Placing). x.pilots) r.2,
      )
    where
      try : ℕ → Option (List ℕ)
      try p = seat hs (group hs k) p (size hs k) pl.slots

  -- what a single-member bucket takes in its turn
  single_takes : (pl' : Placing) → place_single hs k pl ≡ some pl' → (v : ℕ) × LowestSlot hs k v × (set pl.pilots k v ≡ pl'.pilots)
  unfolding place_single pilot_noted
  single_takes pl' h =
      let r = (map-eq-some_iff (pilot_noted k direct pl) (least try (length hs) 0)).0 h in
      let at = r.0.0 in
      let f = least_found try (length hs) 0 at r.0.1 r.1 in (
        direct + at,
        record {
          placing = pl;
          turn = T;
          slot = at;
          low = omega (arith, f.1);
          named = refl;
          free = (settle_some at m pl.slots r.0.1 f.0).0;
          lowest = λ a l z. some-ne-none _ (sym (settle_free a m pl.slots z) ∙ least_before try (length hs) 0 at r.0.1 r.1 a (omega arith) l);
        },
        ap (λ (x : Placing). x.pilots) r.2,
      )
    where
      m : ℕ
      m = get_or (group hs k) 0 0

      try : ℕ → Option (List ℕ)
      try at = settle at m pl.slots

  -- its pilot noted, the others as they were
  noted_chosen : (D D' : ℕ → Bool) → D' k ≡ true → ((j : ℕ) → (j ≡ k → ⊥) → D' j ≡ D j) → (pl' : Placing) (v : ℕ) → set pl.pilots k v ≡ pl'.pilots
      → (1 < size hs k → LeastPilot hs k v) → (size hs k ≡ 1 → LowestSlot hs k v) → PilotsChosen hs D pl → PilotsChosen hs D' pl'
  noted_chosen D D' now-so others pl' v e two one w = record {
    long = ap length (sym e) ∙ length-set pl.pilots k v ∙ w.long;
    several = λ j l d z. severals j l d z (ℕ_discrete j k);
    single = λ j l d z. singles j l d z (ℕ_discrete j k);
    empty = λ j l d. empties j l d (ℕ_discrete j k);
  }
    where
      here : (j : ℕ) → j ≡ k → get_or pl'.pilots j 0 ≡ v
      here j z = ap (λ (x : List ℕ). get_or x j 0) (sym e) ∙ ap (λ (x : ℕ). get_or (set pl.pilots k v) x 0) z ∙ get_or-set_same pl.pilots k v 0 (omega (arith, w.long, low))

      there : (j : ℕ) → (j ≡ k → ⊥) → get_or pl'.pilots j 0 ≡ get_or pl.pilots j 0
      there j z = ap (λ (x : List ℕ). get_or x j 0) (sym e) ∙ get_or-set_other pl.pilots k j v 0 z

      severals : (j : ℕ) → j < buckets_of (length hs) → D' j ≡ true → 1 < size hs j → Dec (j ≡ k) → LeastPilot hs j (get_or pl'.pilots j 0)
      severals j l d z (yes y) = subst (LeastPilot hs j) (sym (here j y)) (subst (λ (x : ℕ). LeastPilot hs x v) (sym y) (two (subst (λ (x : ℕ). 1 < size hs x) y z)))
      severals j l d z (no y) = subst (LeastPilot hs j) (sym (there j y)) (w.several j l (sym (others j y) ∙ d) z)

      singles : (j : ℕ) → j < buckets_of (length hs) → D' j ≡ true → size hs j ≡ 1 → Dec (j ≡ k) → LowestSlot hs j (get_or pl'.pilots j 0)
      singles j l d z (yes y) = subst (LowestSlot hs j) (sym (here j y)) (subst (λ (x : ℕ). LowestSlot hs x v) (sym y) (one (subst (λ (x : ℕ). size hs x ≡ 1) y z)))
      singles j l d z (no y) = subst (LowestSlot hs j) (sym (there j y)) (w.single j l (sym (others j y) ∙ d) z)

      empties : (j : ℕ) → j < buckets_of (length hs) → D' j ≡ false → Dec (j ≡ k) → get_or pl'.pilots j 0 ≡ 0
      empties j l d (yes y) = absurd (false≢true (sym d ∙ ap D' y ∙ now-so))
      empties j l d (no y) = there j y ∙ w.empty j l (sym (others j y) ∙ d)

module _ (hs : List ℕ) (pos : 0 < length hs) where
  -- bucket k passed, in the pass of size s that began with `top`
  of_chosen : (s : ℕ) (top : Placing) → steps (place_down hs (largest hs)) (largest hs - s) (blank hs) ≡ some top → (k : ℕ) → k < buckets_of (length hs) → (pl pl' : Placing) → steps (place_of hs s) k top ≡ some pl → PilotsChosen hs (done hs s k) pl → place_of hs s k pl ≡ some pl' → PilotsChosen hs (done hs s (suc k)) pl'
  of_chosen s top big k low pl pl' before w h = go (ℕ_discrete (size hs k) s) (ℕ_discrete s 1)
    where
      turn : size hs k ≡ s → Turn hs k pl
      turn e = record {
        begun = top;
        larger = subst (λ (x : ℕ). steps (place_down hs (largest hs)) (largest hs - x) (blank hs) ≡ some top) (sym e) big;
        lower = subst (λ (x : ℕ). steps (place_of hs x) k top ≡ some pl) (sym e) before;
      }

      go : Dec (size hs k ≡ s) → Dec (s ≡ 1) → PilotsChosen hs (done hs s (suc k)) pl'
      go (no e) d =
          subst (PilotsChosen hs (done hs s (suc k))) (some-injective pl pl' (sym (of_skips hs s k pl e) ∙ h))
          (same_chosen hs (done hs s k) (done hs s (suc k)) pl (λ j _. done_skips hs s k e j) w)
      go (yes e) (yes d) =
          let r = single_takes hs pos k low pl (turn e) pl' (sym (of_one hs s k pl e d) ∙ h) in
          noted_chosen hs pos k low pl (turn e) (done hs s k) (done hs s (suc k)) (done_now hs s k e) (done_others hs s k) pl' r.0 r.2 (λ z. absurd (omega arith)) (λ _. r.1) w
      go (yes e) (no d) =
          let r = several_takes hs pos k low pl (turn e) pl' (sym (of_several hs s k pl e d) ∙ h) in
          noted_chosen hs pos k low pl (turn e) (done hs s k) (done hs s (suc k)) (done_now hs s k e) (done_others hs s k) pl' r.0 r.2 (λ _. r.1) (λ z. absurd (d (sym e ∙ z))) w

  -- a whole pass
  size_chosen : (s : ℕ) (top pl' : Placing) → steps (place_down hs (largest hs)) (largest hs - suc s) (blank hs) ≡ some top → PilotsChosen hs (done hs (suc s) 0) top → place_size hs (suc s) top ≡ some pl' → PilotsChosen hs (done hs s 0) pl'
  unfolding place_size
  size_chosen s top pl' big w h =
      let r = steps_keep (place_of hs (suc s)) (λ k x. (steps (place_of hs (suc s)) k top ≡ some x) × PilotsChosen hs (done hs (suc s) k) x) top (steps_none (place_of hs (suc s)) top, w) (buckets_of (length hs))
      (λ k l x y z e. (steps_more (place_of hs (suc s)) k top x z.0 ∙ e, of_chosen (suc s) top big k l x y z.0 z.1 e)) (buckets_of (length hs)) (omega arith) pl' h in
      same_chosen hs (done hs (suc s) (buckets_of (length hs))) (done hs s 0) pl' (λ j l. done_turns hs s (buckets_of (length hs)) j l) r.1

  blank_chosen : PilotsChosen hs (λ _. false) (blank hs)
  unfolding blank
  blank_chosen = record {
    long = length-replicate (buckets_of (length hs)) 0;
    several = λ k l d. absurd (false≢true d);
    single = λ k l d. absurd (false≢true d);
    empty = λ k l d. zeros (buckets_of (length hs)) k;
  }
    where
      zeros : (n k : ℕ) → get_or (replicate {A = ℕ} n 0) k 0 ≡ 0
      zeros zero k = refl
      zeros (suc n) zero = refl
      zeros (suc n) (suc k) = zeros n k

  -- all passes
  all_chosen : (pl : Placing) → steps (place_down hs (largest hs)) (largest hs) (blank hs) ≡ some pl → PilotsChosen hs (done hs 0 0) pl
  unfolding place_down
  all_chosen pl h =
      let r = steps_keep (place_down hs L) (λ t x. (steps (place_down hs L) t (blank hs) ≡ some x) × PilotsChosen hs (done hs (L - t) 0) x) (blank hs) (steps_none (place_down hs L) (blank hs), start) L
      (λ t l x y z e. (steps_more (place_down hs L) t (blank hs) x z.0 ∙ e, pass t l x y z.0 z.1 e)) L (omega arith) pl h in
      subst (λ (s : ℕ). PilotsChosen hs (done hs s 0) pl) (omega arith) r.1
    where
      L : ℕ
      L = largest hs

      start : PilotsChosen hs (done hs (L - 0) 0) (blank hs)
      start = same_chosen hs (λ _. false) (done hs (L - 0) 0) (blank hs) (λ k l. sym (done_none hs (L - 0) k (omega (arith, size_most hs pos k l)))) blank_chosen

      pass : (t : ℕ) → t < L → (x y : Placing) → steps (place_down hs L) t (blank hs) ≡ some x → PilotsChosen hs (done hs (L - t) 0) x → place_size hs (L - t) x ≡ some y → PilotsChosen hs (done hs (L - suc t) 0) y
      pass t l x y big w e =
          size_chosen (L - suc t) x y
          (ap (λ (i : ℕ). steps (place_down hs L) i (blank hs)) (omega arith) ∙ big)
          (subst (λ (s : ℕ). PilotsChosen hs (done hs s 0) x) (omega arith) w)
          (subst (λ (s : ℕ). place_size hs s x ≡ some y) (omega arith) e)

  -- THE PILOTS TAKEN ARE THE LEAST, single-member buckets name the lowest free slot, empty ones have 0
  pub pilots_least : (pl : Placing) → attempt_of hs ≡ some pl → Pilots hs pl.pilots
  unfolding attempt_of attempt_from
  pilots_least pl h = go (any_twins hs) h
    where
      all : PilotsChosen hs (done hs 0 0) pl → Pilots hs pl.pilots
      all w = record {
        several = λ k l z. w.several k l (done_all hs k (omega arith)) z;
        single = λ k l z. w.single k l (done_all hs k (omega arith)) z;
        empty = λ k l z. w.empty k l (done_none hs 0 k (omega arith));
      }

      go : (t : Bool) → cond t none (steps (place_down hs (largest hs)) (largest hs) (blank hs)) ≡ some pl → Pilots hs pl.pilots
      go true e = absurd (none-ne-some pl e)
      go false e = all (all_chosen pl e)
