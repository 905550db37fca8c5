-- An attempt fails exactly where two members of a bucket have equal hashes, or a bucket of two or more finds no pilot. Assumes nothing.
use Prim.Native.Nat.{ℕ, ◌-◌, ◌<◌}
use mathlib.Core.Path.{◌≡◌, refl, sym, ap, ◌∙◌, subst}
use mathlib.Core.Bool.{Bool, true, false, cond}
use mathlib.Core.List.{List}
use mathlib.Core.Option.{none, some, map, map-eq-none_iff, some-ne-none}
use mathlib.Core.Logic.{inl, inr}
use native.Mathlib.Omega.{arith}
use native.Mathlib.Decide.{ℕ_discrete, dec_lt}
use native.Mathlib.Numerals.{lt_of_le_of_ne}
use lib.ListN.{length, get_or}
use borrow.Author.Tests.{eq-eqb, eqb-true}
use Rattle.mixing.specs.Mixing.{bucket_of, bucket_of_lt}
use Rattle.mixing.proofs.SlotLaws.{some_buckets}
use Rattle.laws.specs.Steps.{steps, least}
use Rattle.laws.proofs.StepsLaws.{steps_why, least_none, least_of_none, any_some, any_why}
use Rattle.construct.specs.Construct.{buckets_of, tries, members, group, size, alike, met, twins, twins_at, any_twins, seat, Placing, pilot_noted, place_group, place_of, place_size, place_down, largest, blank, attempt_from, attempt_of}
use Rattle.construct.specs.Promised.{Turn, EqualHashes, NoPilot, AttemptFails}
use Rattle.construct.proofs.Placed.{member_of, key_place_lem, of_skips, of_one, of_several}
use Rattle.construct.proofs.PlacesLaws.{member_rank}
use Rattle.construct.proofs.FitsLaws.{low_tried, tried_low, unseated, unfit}
use Rattle.construct.proofs.TurnsLaws.{turn_spots, slot_free, turn_fails}

module _ (hs : List ℕ) where
  -- equal hashes among the members of bucket k, at places i and j
  alike_twins : (k i j : ℕ) → k < buckets_of (length hs) → i < j → j < size hs k → get_or hs (get_or (group hs k) i 0) 0 ≡ get_or hs (get_or (group hs k) j 0) 0 → any_twins hs ≡ true
  unfolding any_twins twins_at twins met alike size
  alike_twins k i j low l lj e =
      any_some (twins_at hs) k (buckets_of (length hs)) low
      (any_some (met hs (group hs k)) j (length (group hs k)) lj (any_some (alike hs (group hs k) j) i j l (eq-eqb _ _ e)))

  -- two places of bucket k have two keys
  places_keys : (k i j : ℕ) → i < size hs k → j < size hs k → get_or (group hs k) i 0 ≡ get_or (group hs k) j 0 → i ≡ j
  unfolding size group
  places_keys k i j li lj e =
      sym (member_rank hs (buckets_of (length hs)) k (length hs) i li)
      ∙ ap (λ (x : ℕ). length (members hs (buckets_of (length hs)) k x)) e
      ∙ member_rank hs (buckets_of (length hs)) k (length hs) j lj

  twins_equal : any_twins hs ≡ true → EqualHashes hs
  unfolding any_twins twins_at twins met alike size
  twins_equal h =
      let a = any_why (twins_at hs) (buckets_of (length hs)) h in
      let b = any_why (met hs (group hs a.0)) (length (group hs a.0)) a.2 in
      let c = any_why (alike hs (group hs a.0) b.0) b.0 b.2 in
      let li : c.0 < size hs a.0 = omega (arith, c.1, b.1) in
      let one = member_of hs a.0 c.0 li in
      let two = member_of hs a.0 b.0 b.1 in
      record {
        one = get_or (group hs a.0) c.0 0;
        other = get_or (group hs a.0) b.0 0;
        keys = (one.0, two.0);
        apart = λ e. omega (arith, places_keys a.0 c.0 b.0 li b.1 e, c.1);
        bucket = one.1 ∙ sym two.1;
        equal = eqb-true _ _ c.2;
      }

module _ (hs : List ℕ) (pos : 0 < length hs) where
  -- EQUAL HASHES in a bucket fail the attempt
  pub equal_hashes_fail : EqualHashes hs → attempt_of hs ≡ none
  unfolding attempt_of attempt_from
  equal_hashes_fail E = ap (λ (t : Bool). cond t none (steps (place_down hs (largest hs)) (largest hs) (blank hs))) (found (ℕ_discrete i j) (dec_lt i j))
    where
      k : ℕ
      k = bucket_of (get_or hs E.one 0) (buckets_of (length hs))

      low : k < buckets_of (length hs)
      low = bucket_of_lt (get_or hs E.one 0) (buckets_of (length hs)) (some_buckets (length hs) pos)

      p : (j : ℕ) × (j < size hs k) × (get_or (group hs k) j 0 ≡ E.one)
      p = key_place_lem hs k E.one E.keys.0 refl

      q : (j : ℕ) × (j < size hs k) × (get_or (group hs k) j 0 ≡ E.other)
      q = key_place_lem hs k E.other E.keys.1 (sym E.bucket)

      i : ℕ
      i = p.0

      j : ℕ
      j = q.0

      same : get_or hs (get_or (group hs k) i 0) 0 ≡ get_or hs (get_or (group hs k) j 0) 0
      same = ap (λ (x : ℕ). get_or hs x 0) p.2 ∙ E.equal ∙ sym (ap (λ (x : ℕ). get_or hs x 0) q.2)

      found : Dec (i ≡ j) → Dec (i < j) → any_twins hs ≡ true
      found (yes e) d = absurd (E.apart (sym p.2 ∙ ap (λ (x : ℕ). get_or (group hs k) x 0) e ∙ q.2))
      found (no e) (yes l) = alike_twins hs k i j low l q.1 same
      found (no e) (no l) = alike_twins hs k j i low (lt_of_le_of_ne (omega arith) (λ z. e (sym z))) p.1 (sym same)

  -- A BUCKET OF TWO OR MORE WITHOUT A PILOT fails the attempt
  pub no_pilot_fails : NoPilot hs → attempt_of hs ≡ none
  unfolding place_group size
  no_pilot_fails N =
      turn_fails hs pos N.bucket N.low N.placing N.turn (omega (arith, N.two))
      (of_several hs (size hs N.bucket) N.bucket N.placing refl (λ e. omega (arith, e, N.two))
      ∙ ap (map (pilot_noted N.bucket 0 N.placing))
      (least_of_none (λ p. seat hs (group hs N.bucket) p (size hs N.bucket) N.placing.slots) tries
      (λ p l. unfit hs (group hs N.bucket) p N.placing.slots (turn_spots hs pos N.bucket N.low N.placing N.turn p) (N.none_fits p (tried_low p l)))))

  -- EITHER fails the attempt
  pub fails_attempt : AttemptFails hs → attempt_of hs ≡ none
  fails_attempt (inl E) = equal_hashes_fail E
  fails_attempt (inr N) = no_pilot_fails N

  -- a bucket that cannot be placed in its turn is of two or more, and finds no pilot
  stuck : (k : ℕ) → k < buckets_of (length hs) → (pl : Placing) → Turn hs k pl → 0 < size hs k → place_of hs (size hs k) k pl ≡ none → NoPilot hs
  unfolding place_group size
  stuck k low pl T some_size h = go (ℕ_discrete (size hs k) 1)
    where
      none_fits : (size hs k ≡ 1 → ⊥) → (p : ℕ) → p < tries → seat hs (group hs k) p (size hs k) pl.slots ≡ none
      none_fits e p l =
          let r = (map-eq-none_iff (pilot_noted k 0 pl) (least (λ q. seat hs (group hs k) q (size hs k) pl.slots) tries 0)).0 (sym (of_several hs (size hs k) k pl refl e) ∙ h) in
          least_none (λ q. seat hs (group hs k) q (size hs k) pl.slots) tries 0 r p (omega arith) (omega arith)

      go : Dec (size hs k ≡ 1) → NoPilot hs
      go (yes e) = absurd (slot_free hs pos k low pl T e (sym (of_one hs (size hs k) k pl refl e) ∙ h))
      go (no e) = record {
        bucket = k;
        low = low;
        two = lt_of_le_of_ne some_size (λ z. e (sym z));
        placing = pl;
        turn = T;
        none_fits = λ p l F. unseated hs (group hs k) p pl.slots (turn_spots hs pos k low pl T p) (none_fits e p (low_tried p l)) F;
      }

  passes_stuck : steps (place_down hs (largest hs)) (largest hs) (blank hs) ≡ none → NoPilot hs
  unfolding place_down place_size
  passes_stuck h =
      let p = steps_why (place_down hs (largest hs)) (largest hs) (blank hs) h in
      let q = steps_why (place_of hs (largest hs - p.0)) (buckets_of (length hs)) p.1 p.4 in
      go p.0 p.1 p.2 p.3 q.0 q.1 q.2 q.3 q.4
    where
      go : (t : ℕ) (top : Placing) → t < largest hs → steps (place_down hs (largest hs)) t (blank hs) ≡ some top
          → (k : ℕ) (pl : Placing) → k < buckets_of (length hs) → steps (place_of hs (largest hs - t)) k top ≡ some pl → place_of hs (largest hs - t) k pl ≡ none → NoPilot hs
      go t top l e k pl low e' z = sized (ℕ_discrete (size hs k) (largest hs - t))
        where
          sized : Dec (size hs k ≡ largest hs - t) → NoPilot hs
          sized (no d) = absurd (some-ne-none pl (sym (of_skips hs (largest hs - t) k pl d) ∙ z))
          sized (yes d) =
              stuck k low pl
              (record {
                begun = top;
                larger = ap (λ (x : ℕ). steps (place_down hs (largest hs)) x (blank hs)) (omega arith) ∙ e;
                lower = subst (λ (s : ℕ). steps (place_of hs s) k top ≡ some pl) (sym d) e';
              })
              (omega arith)
              (subst (λ (s : ℕ). place_of hs s k pl ≡ none) (sym d) z)

  -- AN ATTEMPT FAILS FOR NOTHING ELSE, and so never for want of a free slot
  pub attempt_fails : attempt_of hs ≡ none → AttemptFails hs
  unfolding attempt_of attempt_from
  attempt_fails h = go (any_twins hs) refl h
    where
      go : (t : Bool) → any_twins hs ≡ t → cond t none (steps (place_down hs (largest hs)) (largest hs) (blank hs)) ≡ none → AttemptFails hs
      go true e z = inl (twins_equal hs e)
      go false e z = inr (passes_stuck z)
