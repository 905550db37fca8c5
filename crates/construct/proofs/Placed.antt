-- Where an attempt succeeds, every key is found at its index and every slot holds exactly one key; a single-member bucket always finds a free slot. Assumes nothing.
use Prim.Native.Nat.{ℕ, zero, suc, ◌+◌, ◌-◌, ◌≤◌, ◌<◌}
use mathlib.Core.Path.{◌≡◌, refl, sym, ap, ap₂, ◌∙◌, subst}
use mathlib.Core.Bool.{Bool, true, false, cond, ◌||◌, ◌&&◌, and-false, and-true, false≢true}
use mathlib.Core.List.{List}
use mathlib.Core.Option.{Option, none, some, map-eq-some_iff, map-eq-none_iff, some-injective, none-ne-some, some-ne-none}
use mathlib.Core.Logic.{inl, inr, ⊎_elim}
use native.Mathlib.Nat.{zero-add, sub-zero, le-pred_of_lt}
use native.Mathlib.Omega.{arith}
use native.Mathlib.Decide.{ℕ_discrete, dec_lt}
use native.Mathlib.Numerals.{lt_of_le_of_ne}
use lib.ListN.{length, get_or, set, replicate, length-set, length-replicate}
use lib.Seq.{get_or-set_same, get_or-set_other}
use lib.Dec.{eqb, ltb, lit≤}
use borrow.Author.Tests.{eq-eqb, ne_eqb, lt-ltb, le-ltb}
use Rattle.mixing.specs.Mixing.{bucket_of, position_of, bucket_of_lt, position_of_lt}
use Rattle.mixing.proofs.SlotLaws.{some_buckets}
use Rattle.laws.specs.Steps.{steps, least, total, maximum}
use Rattle.laws.proofs.StepsLaws.{steps_keep, least_found, least_none, total_bump, total_same, total_zero, total_mono, maximum_above}
use Rattle.construct.specs.Construct.{buckets_of, tries, direct, members, group, size, settle, spot, seat, Placing, pilot_noted, place_group, place_single, place_of, place_size, place_down, largest, blank, any_twins, attempt_from, attempt_of, slot_by, index_of}
use Rattle.construct.specs.Promised.{AllPlaced}
use Rattle.construct.proofs.MembersLaws.{member_key, member_at, count_all}
use Rattle.construct.proofs.SlotsLaws.{slots_filled, filled_none, some_free, none_free, settle_free, Grown, Since, Settled, settled, Seated, seated}

-- while the buckets that D names are placed
pub record Partly (hs : List ℕ) (D : ℕ → Bool) (pl : Placing) : Type 0 where
  pub pilots_long : length pl.pilots ≡ buckets_of (length hs)
  pub slots_long : length pl.slots ≡ length hs
  pub found : (i : ℕ) → i < length hs → D (bucket_of (get_or hs i 0) (buckets_of (length hs))) ≡ true → get_or pl.slots (index_of (get_or hs i 0) pl.pilots (length hs)) 0 ≡ suc i
  pub holds : (a i : ℕ) → get_or pl.slots a 0 ≡ suc i → (i < length hs) × (D (bucket_of (get_or hs i 0) (buckets_of (length hs))) ≡ true) × (index_of (get_or hs i 0) pl.pilots (length hs) ≡ a)
  pub count : slots_filled pl.slots ≡ total (λ k. cond (D k) (size hs k) 0) (buckets_of (length hs))

-- a pilot below the mark goes by position_of, one above it names its slot
pub by_position : (h v n : ℕ) → v < direct → slot_by h v n ≡ position_of h v n
unfolding slot_by
by_position h v n l = ap (λ (t : Bool). cond t (position_of h v n) (v - direct)) (lt-ltb v direct l)

pub by_name : (h a n : ℕ) → slot_by h (direct + a) n ≡ a
unfolding slot_by
by_name h a n = ap (λ (t : Bool). cond t (position_of h (direct + a) n) (direct + a - direct)) (le-ltb (direct + a) direct (omega arith)) ∙ omega arith

-- the bucket's pilot decides, where there are b pilots
pub index_by : (h : ℕ) (pilots : List ℕ) (n b : ℕ) → length pilots ≡ b → index_of h pilots n ≡ slot_by h (get_or pilots (bucket_of h b) 0) n
unfolding index_of
index_by h pilots n b e = ap (λ (x : ℕ). slot_by h (get_or pilots (bucket_of h x) 0) n) e

-- every pilot that is tried is below the mark
tries_fit : tries ≤ direct
unfolding tries
tries_fit = lit≤ tt

-- the sizes of all buckets sum up to the keys
pub all_keys : (hs : List ℕ) → 0 < length hs → total (size hs) (buckets_of (length hs)) ≡ length hs
unfolding size group
all_keys hs pos = total_same (size hs) (λ k. length (members hs (buckets_of (length hs)) k (length hs))) (buckets_of (length hs)) (λ k l. refl) ∙ count_all hs (buckets_of (length hs)) (λ h. bucket_of_lt h (buckets_of (length hs)) (some_buckets (length hs) pos)) (length hs)

-- two sets of placed buckets that are the same
same_partly : (hs : List ℕ) (D D' : ℕ → Bool) (pl : Placing) → 0 < length hs → ((k : ℕ) → k < buckets_of (length hs) → D k ≡ D' k) → Partly hs D pl → Partly hs D' pl
same_partly hs D D' pl pos e w = record {
  pilots_long = w.pilots_long;
  slots_long = w.slots_long;
  found = λ i l d. w.found i l (e (bk i) (low i) ∙ d);
  holds = λ a i h. ((w.holds a i h).0, sym (e (bk i) (low i)) ∙ (w.holds a i h).1, (w.holds a i h).2);
  count = w.count ∙ total_same (λ k. cond (D k) (size hs k) 0) (λ k. cond (D' k) (size hs k) 0) (buckets_of (length hs)) (λ k l. ap (λ (t : Bool). cond t (size hs k) 0) (e k l));
}
  where
    bk : ℕ → ℕ
    bk i = bucket_of (get_or hs i 0) (buckets_of (length hs))

    low : (i : ℕ) → bk i < buckets_of (length hs)
    low i = bucket_of_lt (get_or hs i 0) (buckets_of (length hs)) (some_buckets (length hs) pos)

-- the member at place j of bucket k is a key of it, and each key of it is one
pub member_of : (hs : List ℕ) (k j : ℕ) → j < size hs k → (get_or (group hs k) j 0 < length hs) × (bucket_of (get_or hs (get_or (group hs k) j 0) 0) (buckets_of (length hs)) ≡ k)
unfolding group size
member_of hs k j l = member_key hs (buckets_of (length hs)) k (length hs) j l

pub key_place_lem : (hs : List ℕ) (k i : ℕ) → i < length hs → bucket_of (get_or hs i 0) (buckets_of (length hs)) ≡ k → (j : ℕ) × (j < size hs k) × (get_or (group hs k) j 0 ≡ i)
unfolding group size
key_place_lem hs k i l e =
    let r = member_at hs (buckets_of (length hs)) i (length hs) l in
    subst (λ (x : ℕ). (j : ℕ) × (j < length (members hs (buckets_of (length hs)) x (length hs))) × (get_or (members hs (buckets_of (length hs)) x (length hs)) j 0 ≡ i)) e
    (length (members hs (buckets_of (length hs)) (bucket_of (get_or hs i 0) (buckets_of (length hs))) i), r.1, r.0)

-- one bucket more, with its pilot v and the slots s after it
module _ (hs : List ℕ) (pos : 0 < length hs) (D D' : ℕ → Bool) (k : ℕ) (low : k < buckets_of (length hs)) (not_yet : D k ≡ false) (now-so : D' k ≡ true) (others : (j : ℕ) → (j ≡ k → ⊥) → D' j ≡ D j) where
  joined : (pl : Placing) (v : ℕ) (s : List ℕ) → Partly hs D pl → Grown pl.slots s (size hs k)
      → ((i : ℕ) → i < length hs → bucket_of (get_or hs i 0) (buckets_of (length hs)) ≡ k → get_or s (slot_by (get_or hs i 0) v (length hs)) 0 ≡ suc i)
      → Since pl.slots s (λ a i. (i < length hs) × (bucket_of (get_or hs i 0) (buckets_of (length hs)) ≡ k) × (slot_by (get_or hs i 0) v (length hs) ≡ a))
      → Partly hs D' (record { pilots = set pl.pilots k v; slots = s })
  joined pl v s w g new since = record {
    pilots_long = length-set pl.pilots k v ∙ w.pilots_long;
    slots_long = g.long ∙ w.slots_long;
    found = λ i l d. here i l d (ℕ_discrete (bk i) k);
    holds = λ a i h. ⊎_elim (was a i) (λ y. (y.0, ap D' y.1 ∙ now-so, at_k i y.1 ∙ y.2)) (since a i h);
    count = g.more ∙ ap (λ (x : ℕ). x + size hs k) w.count ∙ sym (total_bump (λ j. cond (D j) (size hs j) 0) (λ j. cond (D' j) (size hs j) 0) (buckets_of (length hs)) k (size hs k) low bump (λ j z. ap (λ (t : Bool). cond t (size hs j) 0) (others j z)));
  }
    where
      bk : ℕ → ℕ
      bk i = bucket_of (get_or hs i 0) (buckets_of (length hs))

      by_new : (i : ℕ) → index_of (get_or hs i 0) (set pl.pilots k v) (length hs) ≡ slot_by (get_or hs i 0) (get_or (set pl.pilots k v) (bk i) 0) (length hs)
      by_new i = index_by (get_or hs i 0) (set pl.pilots k v) (length hs) (buckets_of (length hs)) (length-set pl.pilots k v ∙ w.pilots_long)

      at_k : (i : ℕ) → bk i ≡ k → index_of (get_or hs i 0) (set pl.pilots k v) (length hs) ≡ slot_by (get_or hs i 0) v (length hs)
      at_k i e = by_new i ∙ ap (λ (x : ℕ). slot_by (get_or hs i 0) x (length hs)) (ap (λ (y : ℕ). get_or (set pl.pilots k v) y 0) e ∙ get_or-set_same pl.pilots k v 0 (omega (arith, w.pilots_long, low)))

      off_k : (i : ℕ) → (bk i ≡ k → ⊥) → index_of (get_or hs i 0) (set pl.pilots k v) (length hs) ≡ index_of (get_or hs i 0) pl.pilots (length hs)
      off_k i e = by_new i ∙ ap (λ (x : ℕ). slot_by (get_or hs i 0) x (length hs)) (get_or-set_other pl.pilots k (bk i) v 0 e) ∙ sym (index_by (get_or hs i 0) pl.pilots (length hs) (buckets_of (length hs)) w.pilots_long)

      here : (i : ℕ) → i < length hs → D' (bk i) ≡ true → Dec (bk i ≡ k) → get_or s (index_of (get_or hs i 0) (set pl.pilots k v) (length hs)) 0 ≡ suc i
      here i l d (yes e) = ap (λ (x : ℕ). get_or s x 0) (at_k i e) ∙ new i l e
      here i l d (no e) = ap (λ (x : ℕ). get_or s x 0) (off_k i e) ∙ g.kept (index_of (get_or hs i 0) pl.pilots (length hs)) i (w.found i l (sym (others (bk i) e) ∙ d))

      was : (a i : ℕ) → get_or pl.slots a 0 ≡ suc i → (i < length hs) × (D' (bk i) ≡ true) × (index_of (get_or hs i 0) (set pl.pilots k v) (length hs) ≡ a)
      was a i h =
          let r = w.holds a i h in
          let e : bk i ≡ k → ⊥ = λ z. false≢true (sym not_yet ∙ ap D (sym z) ∙ r.1) in
          (r.0, others (bk i) e ∙ r.1, off_k i e ∙ r.2)

      bump : cond (D' k) (size hs k) 0 ≡ cond (D k) (size hs k) 0 + size hs k
      bump = ap (λ (t : Bool). cond t (size hs k) 0) now-so ∙ sym (ap (λ (t : Bool). cond t (size hs k) 0 + size hs k) not_yet ∙ omega arith)

  group_joins : (pl pl' : Placing) → Partly hs D pl → place_group hs k pl ≡ some pl' → Partly hs D' pl'
  unfolding place_group pilot_noted spot
  group_joins pl pl' w h =
      let r = (map-eq-some_iff (pilot_noted k 0 pl) (least try tries 0)).0 h in
      let f = least_found try tries 0 r.0.0 r.0.1 r.1 in
      subst (λ (x : Placing). Partly hs D' x) r.2 (done r.0.0 r.0.1 f.0 (omega (arith, f.1, tries_fit)))
    where
      try : ℕ → Option (List ℕ)
      try p = seat hs (group hs k) p (size hs k) pl.slots

      done : (p : ℕ) (s : List ℕ) → try p ≡ some s → p < direct → Partly hs D' (record { pilots = set pl.pilots k (0 + p); slots = s })
      done p s e l = joined pl (0 + p) s w z.grown new (λ a m y. ⊎_elim inl (λ q. inr (since a m q)) (z.since a m y))
        where
          z : Seated hs (group hs k) p pl.slots s (size hs k)
          z = seated hs (group hs k) p pl.slots (λ i. subst (λ (x : ℕ). spot hs (group hs k) p i < x) (sym w.slots_long) (position_of_lt (get_or hs (get_or (group hs k) i 0) 0) p (length hs) pos)) (size hs k) s e

          goes : (m : ℕ) → slot_by (get_or hs m 0) (0 + p) (length hs) ≡ position_of (get_or hs m 0) p (length hs)
          goes m = ap (λ (x : ℕ). slot_by (get_or hs m 0) x (length hs)) (zero-add p) ∙ by_position (get_or hs m 0) p (length hs) l

          new : (i : ℕ) → i < length hs → bucket_of (get_or hs i 0) (buckets_of (length hs)) ≡ k → get_or s (slot_by (get_or hs i 0) (0 + p) (length hs)) 0 ≡ suc i
          new i li e =
              let q = key_place_lem hs k i li e in
              ap (λ (x : ℕ). get_or s x 0) (goes i) ∙ subst (λ (x : ℕ). get_or s (position_of (get_or hs x 0) p (length hs)) 0 ≡ suc x) q.2 (z.there q.0 q.1)

          since : (a m : ℕ) → ((j : ℕ) × (j < size hs k) × (a ≡ spot hs (group hs k) p j) × (m ≡ get_or (group hs k) j 0)) → (m < length hs) × (bucket_of (get_or hs m 0) (buckets_of (length hs)) ≡ k) × (slot_by (get_or hs m 0) (0 + p) (length hs) ≡ a)
          since a m q =
              let i = member_of hs k q.0 q.1 in
              (subst (λ (x : ℕ). x < length hs) (sym q.3) i.0, ap (λ (x : ℕ). bucket_of (get_or hs x 0) (buckets_of (length hs))) q.3 ∙ i.1, goes m ∙ ap (λ (x : ℕ). position_of (get_or hs x 0) p (length hs)) q.3 ∙ sym q.2)

  single_joins : (pl pl' : Placing) → size hs k ≡ 1 → Partly hs D pl → place_single hs k pl ≡ some pl' → Partly hs D' pl'
  unfolding place_single pilot_noted
  single_joins pl pl' one w h =
      let r = (map-eq-some_iff (pilot_noted k direct pl) (least try (length hs) 0)).0 h in
      let f = least_found try (length hs) 0 r.0.0 r.0.1 r.1 in
      subst (λ (x : Placing). Partly hs D' x) r.2 (done r.0.0 r.0.1 f.0 (omega (arith, f.1)))
    where
      m : ℕ
      m = get_or (group hs k) 0 0

      try : ℕ → Option (List ℕ)
      try at = settle at m pl.slots

      key : (m < length hs) × (bucket_of (get_or hs m 0) (buckets_of (length hs)) ≡ k)
      key = member_of hs k 0 (omega (arith, one))

      done : (at : ℕ) (s : List ℕ) → try at ≡ some s → at < length hs → Partly hs D' (record { pilots = set pl.pilots k (direct + at); slots = s })
      done at s e l = joined pl (direct + at) s w (subst (λ (d : ℕ). Grown pl.slots s d) (sym one) z.grown) new (λ a x y. ⊎_elim inl (λ q. inr (since a x q)) (z.since a x y))
        where
          z : Settled pl.slots s at m
          z = settled at m pl.slots s (omega (arith, w.slots_long)) e

          new : (i : ℕ) → i < length hs → bucket_of (get_or hs i 0) (buckets_of (length hs)) ≡ k → get_or s (slot_by (get_or hs i 0) (direct + at) (length hs)) 0 ≡ suc i
          new i li e =
              let q = key_place_lem hs k i li e in
              let i0 : q.0 ≡ 0 = omega (arith, q.1, one) in
              ap (λ (x : ℕ). get_or s x 0) (by_name (get_or hs i 0) at (length hs)) ∙ z.there ∙ ap suc (ap (λ (x : ℕ). get_or (group hs k) x 0) (sym i0) ∙ q.2)

          since : (a x : ℕ) → ((a ≡ at) × (x ≡ m)) → (x < length hs) × (bucket_of (get_or hs x 0) (buckets_of (length hs)) ≡ k) × (slot_by (get_or hs x 0) (direct + at) (length hs) ≡ a)
          since a x q = (omega (arith, q.1, key.0), ap (λ (y : ℕ). bucket_of (get_or hs y 0) (buckets_of (length hs))) q.1 ∙ key.1, by_name (get_or hs x 0) at (length hs) ∙ sym q.0)

  -- a single bucket always finds a free slot: fewer slots are filled than there are keys
  pub single_finds : (pl : Placing) → size hs k ≡ 1 → Partly hs D pl → place_single hs k pl ≡ none → ⊥
  unfolding place_single
  single_finds pl one w h =
      let r = (map-eq-none_iff (pilot_noted k direct pl) (least (λ at. settle at (get_or (group hs k) 0 0) pl.slots) (length hs) 0)).0 h in
      let q = some_free pl.slots (omega (arith, room, w.slots_long)) in
      some-ne-none (set pl.slots q.0 (suc (get_or (group hs k) 0 0)))
      (sym (settle_free q.0 (get_or (group hs k) 0 0) pl.slots q.2) ∙ least_none (λ at. settle at (get_or (group hs k) 0 0) pl.slots) (length hs) 0 r q.0 (omega arith) (omega (arith, q.1, w.slots_long)))
    where
      f : ℕ → ℕ
      f j = cond (D j) (size hs j) 0

      f' : ℕ → ℕ
      f' j = cond (D' j) (size hs j) 0

      at_most : (t : Bool) (x : ℕ) → cond t x 0 ≤ x
      at_most true x = omega arith
      at_most false x = omega arith

      bump : f' k ≡ f k + size hs k
      bump = ap (λ (t : Bool). cond t (size hs k) 0) now-so ∙ sym (ap (λ (t : Bool). cond t (size hs k) 0 + size hs k) not_yet ∙ omega arith)

      room : slots_filled pl.slots < length hs
      room = omega (arith, w.count, one, all_keys hs pos, total_mono f' (size hs) (buckets_of (length hs)) (λ j l. at_most (D' j) (size hs j)), total_bump f f' (buckets_of (length hs)) k (size hs k) low bump (λ j z. ap (λ (t : Bool). cond t (size hs j) 0) (others j z)))

-- bucket k in the pass of size s: passed over, or placed by its size
module _ (hs : List ℕ) (s k : ℕ) (pl : Placing) where
  pub of_skips : (size hs k ≡ s → ⊥) → place_of hs s k pl ≡ some pl
  unfolding place_of
  of_skips e = ap (λ (t : Bool). cond t (cond (eqb s 1) (place_single hs k pl) (place_group hs k pl)) (some pl)) (ne_eqb (size hs k) s e)

  pub of_one : size hs k ≡ s → s ≡ 1 → place_of hs s k pl ≡ place_single hs k pl
  unfolding place_of
  of_one e d = ap₂ (λ (t u : Bool). cond t (cond u (place_single hs k pl) (place_group hs k pl)) (some pl)) (eq-eqb (size hs k) s e) (eq-eqb s 1 d)

  pub of_several : size hs k ≡ s → (s ≡ 1 → ⊥) → place_of hs s k pl ≡ place_group hs k pl
  unfolding place_of
  of_several e d = ap₂ (λ (t u : Bool). cond t (cond u (place_single hs k pl) (place_group hs k pl)) (some pl)) (eq-eqb (size hs k) s e) (ne_eqb s 1 d)

-- the buckets that are placed when those above size s are, and of size s those below bucket k
abbrev pub done : List ℕ → ℕ → ℕ → ℕ → Bool
done hs s k j = ltb s (size hs j) || (eqb (size hs j) s && ltb j k)

ltb_next : (j k : ℕ) → (j ≡ k → ⊥) → ltb j (suc k) ≡ ltb j k
ltb_next j k e = go (dec_lt j k)
  where
    go : Dec (j < k) → ltb j (suc k) ≡ ltb j k
    go (yes l) = lt-ltb j (suc k) (omega arith) ∙ sym (lt-ltb j k l)
    go (no l) = le-ltb j (suc k) (lt_of_le_of_ne (omega arith) (λ z. e (sym z))) ∙ sym (le-ltb j k (omega arith))

-- passing bucket k places it if its size is s, and no other
pub done_others : (hs : List ℕ) (s k j : ℕ) → (j ≡ k → ⊥) → done hs s (suc k) j ≡ done hs s k j
done_others hs s k j e = ap (λ (t : Bool). ltb s (size hs j) || (eqb (size hs j) s && t)) (ltb_next j k e)

pub done_not_yet : (hs : List ℕ) (s k : ℕ) → size hs k ≡ s → done hs s k k ≡ false
done_not_yet hs s k e = ap₂ (λ (t u : Bool). t || (eqb (size hs k) s && u)) (le-ltb s (size hs k) (omega arith)) (le-ltb k k (omega arith)) ∙ and-false (eqb (size hs k) s)

pub done_now : (hs : List ℕ) (s k : ℕ) → size hs k ≡ s → done hs s (suc k) k ≡ true
done_now hs s k e = ap₂ (λ (t u : Bool). t || (eqb (size hs k) s && u)) (le-ltb s (size hs k) (omega arith)) (lt-ltb k (suc k) (omega arith)) ∙ and-true (eqb (size hs k) s) ∙ eq-eqb (size hs k) s e

pub done_skips : (hs : List ℕ) (s k : ℕ) → (size hs k ≡ s → ⊥) → (j : ℕ) → done hs s k j ≡ done hs s (suc k) j
done_skips hs s k e j = go (ℕ_discrete j k)
  where
    go : Dec (j ≡ k) → done hs s k j ≡ done hs s (suc k) j
    go (no z) = sym (done_others hs s k j z)
    go (yes z) = flat (ltb j k) ∙ sym (flat (ltb j (suc k)))
      where
        flat : (t : Bool) → (ltb s (size hs j) || (eqb (size hs j) s && t)) ≡ (ltb s (size hs j) || false)
        flat t = ap (λ (u : Bool). ltb s (size hs j) || (u && t)) (ne_eqb (size hs j) s (λ y. e (ap (size hs) (sym z) ∙ y)))

-- at size s, none that is no larger
pub done_none : (hs : List ℕ) (s k : ℕ) → size hs k ≤ s → done hs s 0 k ≡ false
done_none hs s k l = ap₂ (λ (t u : Bool). t || (eqb (size hs k) s && u)) (le-ltb s (size hs k) l) (le-ltb k 0 (omega arith)) ∙ and-false (eqb (size hs k) s)

-- at size 0, all that are not empty
pub done_all : (hs : List ℕ) (k : ℕ) → 0 < size hs k → done hs 0 0 k ≡ true
done_all hs k l = ap (λ (t : Bool). t || (eqb (size hs k) 0 && ltb k 0)) (lt-ltb 0 (size hs k) l)

-- all of size s + 1 placed, and none of size s
pub done_turns : (hs : List ℕ) (s b j : ℕ) → j < b → done hs (suc s) b j ≡ done hs s 0 j
done_turns hs s b j l = go (dec_lt (suc s) (size hs j)) (ℕ_discrete (size hs j) (suc s))
  where
    right : done hs s 0 j ≡ (ltb s (size hs j) || false)
    right = ap (λ (t : Bool). ltb s (size hs j) || (eqb (size hs j) s && t)) (le-ltb j 0 (omega arith)) ∙ ap (λ (t : Bool). ltb s (size hs j) || t) (and-false (eqb (size hs j) s))

    go : Dec (suc s < size hs j) → Dec (size hs j ≡ suc s) → done hs (suc s) b j ≡ done hs s 0 j
    go (yes x) d = ap (λ (t : Bool). t || (eqb (size hs j) (suc s) && ltb j b)) (lt-ltb (suc s) (size hs j) x) ∙ sym (right ∙ ap (λ (t : Bool). t || false) (lt-ltb s (size hs j) (omega arith)))
    go (no x) (yes e) =
        ap₂ (λ (t u : Bool). t || u) (le-ltb (suc s) (size hs j) (omega arith)) (ap₂ (λ (t u : Bool). t && u) (eq-eqb (size hs j) (suc s) e) (lt-ltb j b l))
        ∙ sym (right ∙ ap (λ (t : Bool). t || false) (lt-ltb s (size hs j) (omega arith)))
    go (no x) (no e) =
        ap₂ (λ (t u : Bool). t || (u && ltb j b)) (le-ltb (suc s) (size hs j) (omega arith)) (ne_eqb (size hs j) (suc s) e)
        ∙ sym (right ∙ ap (λ (t : Bool). t || false) (le-ltb s (size hs j) (le-pred_of_lt (lt_of_le_of_ne (omega arith) e))))

module _ (hs : List ℕ) (pos : 0 < length hs) where
  -- bucket k passed, in the pass of size s
  pub of_joins : (s k : ℕ) → k < buckets_of (length hs) → (pl pl' : Placing) → Partly hs (done hs s k) pl → place_of hs s k pl ≡ some pl' → Partly hs (done hs s (suc k)) pl'
  of_joins s k l pl pl' w h = go (ℕ_discrete (size hs k) s) (ℕ_discrete s 1)
    where
      go : Dec (size hs k ≡ s) → Dec (s ≡ 1) → Partly hs (done hs s (suc k)) pl'
      go (no e) d =
          subst (λ (x : Placing). Partly hs (done hs s (suc k)) x)
          (some-injective pl pl' (sym (of_skips hs s k pl e) ∙ h))
          (same_partly hs (done hs s k) (done hs s (suc k)) pl pos (λ j _. done_skips hs s k e j) w)
      go (yes e) (yes d) =
          single_joins hs pos (done hs s k) (done hs s (suc k)) k l (done_not_yet hs s k e) (done_now hs s k e) (done_others hs s k) pl pl' (e ∙ d) w
          (sym (of_one hs s k pl e d) ∙ h)
      go (yes e) (no d) =
          group_joins hs pos (done hs s k) (done hs s (suc k)) k l (done_not_yet hs s k e) (done_now hs s k e) (done_others hs s k) pl pl' w
          (sym (of_several hs s k pl e d) ∙ h)

  -- part of a pass
  pub size_partly : (s k : ℕ) → k ≤ buckets_of (length hs) → (pl pl' : Placing) → Partly hs (done hs s 0) pl → steps (place_of hs s) k pl ≡ some pl' → Partly hs (done hs s k) pl'
  size_partly s k l pl pl' w h = steps_keep (place_of hs s) (λ j x. Partly hs (done hs s j) x) pl w (buckets_of (length hs)) (λ j lj. of_joins s j lj) k l pl' h

  -- a whole pass
  pub size_joins : (s : ℕ) (pl pl' : Placing) → Partly hs (done hs (suc s) 0) pl → place_size hs (suc s) pl ≡ some pl' → Partly hs (done hs s 0) pl'
  unfolding place_size
  size_joins s pl pl' w h =
      same_partly hs (done hs (suc s) (buckets_of (length hs))) (done hs s 0) pl' pos (done_turns hs s (buckets_of (length hs)))
      (size_partly (suc s) (buckets_of (length hs)) (omega arith) pl pl' w h)

  blank_partly : Partly hs (λ _. false) (blank hs)
  unfolding blank
  blank_partly = record {
    pilots_long = length-replicate (buckets_of (length hs)) 0;
    slots_long = length-replicate (length hs) 0;
    found = λ i l d. absurd (false≢true d);
    holds = λ a i h. absurd (never (length hs) a i h);
    count = filled_none (length hs) ∙ sym (total_zero (λ _. 0) (buckets_of (length hs)) (λ k l. refl));
  }
    where
      never : (n a i : ℕ) → get_or (replicate n 0) a 0 ≡ suc i → ⊥
      never zero a i h = omega arith
      never (suc n) zero i h = omega arith
      never (suc n) (suc a) i h = never n a i h

  -- the first t passes
  pub passes_partly : (t : ℕ) → t ≤ largest hs → (pl : Placing) → steps (place_down hs (largest hs)) t (blank hs) ≡ some pl → Partly hs (done hs (largest hs - t) 0) pl
  unfolding largest place_down
  passes_partly t lt pl h =
      steps_keep (place_down hs L) (λ t x. Partly hs (done hs (L - t) 0) x) (blank hs)
      (subst (λ (s : ℕ). Partly hs (done hs s 0) (blank hs)) (sym (sub-zero L)) (same_partly hs (λ _. false) (done hs L 0) (blank hs) pos start blank_partly))
      L
      (λ t l x y w e. size_joins (L - suc t) x y (subst (λ (s : ℕ). Partly hs (done hs s 0) x) (omega arith) w) (subst (λ (s : ℕ). place_size hs s x ≡ some y) (omega arith) e))
      t lt pl h
    where
      L : ℕ
      L = maximum (size hs) (buckets_of (length hs))

      start : (k : ℕ) → k < buckets_of (length hs) → false ≡ done hs L 0 k
      start k l = sym (done_none hs L k (maximum_above (size hs) (buckets_of (length hs)) k l))

  all_placed : (pl : Placing) → Partly hs (done hs 0 0) pl → AllPlaced hs pl
  all_placed pl w = record {
    pilots_long = w.pilots_long;
    slots_long = w.slots_long;
    found = λ i l. w.found i l (is_done i l);
    holds = λ a l. held a l (get_or pl.slots a 0) refl;
  }
    where
      bk : ℕ → ℕ
      bk i = bucket_of (get_or hs i 0) (buckets_of (length hs))

      is_done : (i : ℕ) → i < length hs → done hs 0 0 (bk i) ≡ true
      is_done i l =
          let q = key_place_lem hs (bk i) i l refl in
          done_all hs (bk i) (omega (arith, q.1))

      weight : (k : ℕ) → Dec (0 < size hs k) → cond (done hs 0 0 k) (size hs k) 0 ≡ size hs k
      weight k (yes l) = ap (λ (t : Bool). cond t (size hs k) 0) (done_all hs k l)
      weight k (no l) = empty (done hs 0 0 k) (size hs k) (omega arith)
        where
          empty : (t : Bool) (x : ℕ) → x ≡ 0 → cond t x 0 ≡ x
          empty true x e = refl
          empty false x e = sym e

      full : slots_filled pl.slots ≡ length pl.slots
      full = w.count ∙ total_same (λ k. cond (done hs 0 0 k) (size hs k) 0) (size hs) (buckets_of (length hs)) (λ k l. weight k (dec_lt 0 (size hs k))) ∙ all_keys hs pos ∙ sym w.slots_long

      held : (a : ℕ) → a < length hs → (x : ℕ) → get_or pl.slots a 0 ≡ x → (i : ℕ) × (i < length hs) × (get_or pl.slots a 0 ≡ suc i) × (index_of (get_or hs i 0) pl.pilots (length hs) ≡ a)
      held a l zero e = absurd (none_free pl.slots full a (omega (arith, w.slots_long)) e)
      held a l (suc i) e =
          let r = w.holds a i e in
          (i, r.0, e, r.2)

  -- where an attempt succeeds, every key is found at its index, and every slot holds exactly one key
  pub placed : (pl : Placing) → attempt_of hs ≡ some pl → AllPlaced hs pl
  unfolding attempt_of attempt_from
  placed pl h = go (any_twins hs) h
    where
      go : (t : Bool) → cond t none (steps (place_down hs (largest hs)) (largest hs) (blank hs)) ≡ some pl → AllPlaced hs pl
      go true e = absurd (none-ne-some pl e)
      go false e = all_placed pl (subst (λ (x : ℕ). Partly hs (done hs x 0) pl) (omega arith) (passes_partly (largest hs) (omega arith) pl e))
