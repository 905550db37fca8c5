-- Which pilots are tried; seating a bucket's members succeeds exactly where the pilot puts them on distinct unoccupied positions. Assumes nothing.
use Prim.Native.Nat.{ℕ, zero, suc, ◌≤◌, ◌<◌}
use mathlib.Core.Path.{◌≡◌, refl, sym, ap, ◌∙◌}
use mathlib.Core.List.{List}
use mathlib.Core.Option.{Option, none, some, some-ne-none}
use native.Mathlib.Omega.{arith}
use native.Mathlib.Decide.{ℕ_discrete}
use native.Mathlib.Numerals.{lt_of_le_of_ne}
use lib.ListN.{length, get_or, set, length-set}
use lib.Seq.{get_or-set_same, get_or-set_other}
use Rattle.laws.proofs.StepsLaws.{steps_none, steps_more, steps_keep}
use Rattle.construct.specs.Construct.{tries, settle, spot, seat}
use Rattle.construct.specs.Promised.{PilotFits}
use Rattle.construct.proofs.SlotsLaws.{settle_free, settle_some}

-- the pilots that are tried are 0 to 99,999
pub low_tried : (p : ℕ) → p ≤ 99999 → p < tries
unfolding tries
low_tried p l = omega arith

pub tried_low : (p : ℕ) → p < tries → p ≤ 99999
unfolding tries
tried_low p l = omega arith

module _ (hs ms : List ℕ) (p : ℕ) (s : List ℕ) (low : (i : ℕ) → spot hs ms p i < length s) where
  -- while j members sit: they fit, their slots are occupied, and none has become free
  record Sitting (j : ℕ) (t : List ℕ) : Type 0 where
    pub long : length t ≡ length s
    pub free : (i : ℕ) → i < j → get_or s (spot hs ms p i) 0 ≡ 0
    pub apart : (i i' : ℕ) → i < i' → i' < j → spot hs ms p i ≡ spot hs ms p i' → ⊥
    pub there : (i : ℕ) → i < j → get_or t (spot hs ms p i) 0 ≡ 0 → ⊥
    pub kept : (a : ℕ) → get_or t a 0 ≡ 0 → get_or s a 0 ≡ 0

  sits_more : (j : ℕ) (t u : List ℕ) → Sitting j t → settle (spot hs ms p j) (get_or ms j 0) t ≡ some u → Sitting (suc j) u
  sits_more j t u w h = record {
    long = ap length (sym r.1) ∙ length-set t (spot hs ms p j) (suc (get_or ms j 0)) ∙ w.long;
    free = λ i l. frees i l (ℕ_discrete i j);
    apart = λ i i' l l'. aparts i i' l l' (ℕ_discrete i' j);
    there = λ i l z. theres i l (ℕ_discrete i j) (in_t (spot hs ms p i) z);
    kept = λ a z. w.kept a (in_t a z).1;
  }
    where
      r : (get_or t (spot hs ms p j) 0 ≡ 0) × (set t (spot hs ms p j) (suc (get_or ms j 0)) ≡ u)
      r = settle_some (spot hs ms p j) (get_or ms j 0) t u h

      -- a slot that is free now is another, and was free
      in_t : (a : ℕ) → get_or u a 0 ≡ 0 → (a ≡ spot hs ms p j → ⊥) × (get_or t a 0 ≡ 0)
      in_t a z = (other, sym (get_or-set_other t (spot hs ms p j) a (suc (get_or ms j 0)) 0 other) ∙ ap (λ (x : List ℕ). get_or x a 0) r.1 ∙ z)
        where
          other : a ≡ spot hs ms p j → ⊥
          other e = omega (arith, z, ap (λ (x : List ℕ). get_or x a 0) r.1, ap (λ (x : ℕ). get_or (set t (spot hs ms p j) (suc (get_or ms j 0))) x 0) e, get_or-set_same t (spot hs ms p j) (suc (get_or ms j 0)) 0 (omega (arith, low j, w.long)))

      frees : (i : ℕ) → i < suc j → Dec (i ≡ j) → get_or s (spot hs ms p i) 0 ≡ 0
      frees i l (yes e) = ap (λ (x : ℕ). get_or s (spot hs ms p x) 0) e ∙ w.kept (spot hs ms p j) r.0
      frees i l (no e) = w.free i (lt_of_le_of_ne (omega arith) e)

      aparts : (i i' : ℕ) → i < i' → i' < suc j → Dec (i' ≡ j) → spot hs ms p i ≡ spot hs ms p i' → ⊥
      aparts i i' l l' (yes e) z = w.there i (omega arith) (ap (λ (x : ℕ). get_or t x 0) (z ∙ ap (spot hs ms p) e) ∙ r.0)
      aparts i i' l l' (no e) z = w.apart i i' l (lt_of_le_of_ne (omega arith) e) z

      theres : (i : ℕ) → i < suc j → Dec (i ≡ j) → (spot hs ms p i ≡ spot hs ms p j → ⊥) × (get_or t (spot hs ms p i) 0 ≡ 0) → ⊥
      theres i l (yes e) z = z.0 (ap (spot hs ms p) e)
      theres i l (no e) z = w.there i (lt_of_le_of_ne (omega arith) e) z.1

  pub seat_fits : (t : List ℕ) → seat hs ms p (length ms) s ≡ some t → PilotFits hs ms p s
  unfolding seat
  seat_fits t h =
      let w = steps_keep (λ i. settle (spot hs ms p i) (get_or ms i 0)) Sitting s start (length ms) (λ j l x y. sits_more j x y) (length ms) (omega arith) t h in
      record { unoccupied = w.free; distinct = w.apart }
    where
      start : Sitting 0 s
      start = record { long = refl; free = λ i l. absurd (omega arith); apart = λ i i' l l'. absurd (omega arith); there = λ i l. absurd (omega arith); kept = λ a z. z }

  -- members that fit are seated one by one: the slots of those that wait are as they were
  Waiting : ℕ → Type 0
  Waiting j = (t : List ℕ) × (seat hs ms p j s ≡ some t) × ((a : ℕ) → ((i : ℕ) → i < j → a ≡ spot hs ms p i → ⊥) → get_or t a 0 ≡ get_or s a 0)

  waits : PilotFits hs ms p s → (j : ℕ) → j ≤ length ms → Waiting j
  unfolding seat Waiting
  waits F zero l = (s, steps_none (λ i. settle (spot hs ms p i) (get_or ms i 0)) s, λ a z. refl)
  waits F (suc j) l = go (waits F j (omega arith))
    where
      go : Waiting j → Waiting (suc j)
      go (t, e, same) =
          let free : get_or t (spot hs ms p j) 0 ≡ 0 = same (spot hs ms p j) (λ i li z. F.distinct i j li l (sym z)) ∙ F.unoccupied j l in (
            set t (spot hs ms p j) (suc (get_or ms j 0)),
            steps_more (λ i. settle (spot hs ms p i) (get_or ms i 0)) j s t e ∙ settle_free (spot hs ms p j) (get_or ms j 0) t free,
            λ a z. get_or-set_other t (spot hs ms p j) a (suc (get_or ms j 0)) 0 (z j (omega arith)) ∙ same a (λ i li. z i (omega arith)),
          )

  pub fits_seat : PilotFits hs ms p s → (t : List ℕ) × (seat hs ms p (length ms) s ≡ some t)
  unfolding Waiting
  fits_seat F =
      let w = waits F (length ms) (omega arith) in
      (w.0, w.1)

  -- so they are not seated exactly where they do not fit
  pub unseated : seat hs ms p (length ms) s ≡ none → PilotFits hs ms p s → ⊥
  unseated h F =
      let w = fits_seat F in
      some-ne-none w.0 (sym w.1 ∙ h)

  pub unfit : (PilotFits hs ms p s → ⊥) → seat hs ms p (length ms) s ≡ none
  unfit no-fit = go (seat hs ms p (length ms) s) refl
    where
      go : (o : Option (List ℕ)) → seat hs ms p (length ms) s ≡ o → seat hs ms p (length ms) s ≡ none
      go none e = e
      go (some t) e = absurd (no-fit (seat_fits t e))
