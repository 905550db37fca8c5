-- One step of the peeling on the workspace, all steps, the filling, and a whole attempt. Assumes nothing.
use Rattle.std.proofs.Common.{◌≡◌, ℕ, zero, suc, ◌+◌, ◌-◌, ◌%◌, ◌^◌, ◌<◌, ◌≤◌, ltb, List, [], ◌∷◌, length, get_or, set, sym, refl, ap, ◌∙◌, subst, ap₂, not-suc-le-zero, add-one, arith, length-set, get_or-set_other, get_or-set_same, ltb-false, ltb-true}
use lib.Bits.{bit_xor}
use Rattle.laws.proofs.Cases.{by_test}
use Rattle.laws.specs.Count.{occurs, without, rising}
use Rattle.laws.proofs.CountLaws.{occurs_cons, occurs_here, occurs_below, rising_not}
use Rattle.fuse.specs.Asking.{xor_at}
use Rattle.peel.specs.Peel.{Peel, Attempt, lying, skip, peel, take_cell, take_next, one_step, run, begun, attempt, put, fill}
use Rattle.peel.specs.Inner.Sound.{Placed, Peelable, hashes_peeled}
use Rattle.peel.specs.Inner.Table.{Below, xors, stack, peels_in, changed, plus, queued_by, Queued, Tables, StandsFor}
use Rattle.peel.proofs.PeelLaws.{lying_head, sound_step, sound_skip, queue_within, sound_start}
use Rattle.peel.proofs.TableLaws.{xors_one, stack_suc, stack_none, length_stack, stack_same, tables_remove, tables_same, noted_queued, changed_other, length_changed, degree_le}

-- ---- the peel stack

peels_suc : (c n : ℕ) (wide narrow : List ℕ) → peels_in c (suc n) wide narrow ≡ record { hash = get_or wide (c + n) 0; cell = get_or narrow (c + c + n) 0 } ∷ peels_in c n wide narrow
unfolding peels_in
peels_suc c n wide narrow = refl

peels_none : (c : ℕ) (wide narrow : List ℕ) → peels_in c 0 wide narrow ≡ []
unfolding peels_in
peels_none c wide narrow = refl

length_peels : (c n : ℕ) (wide narrow : List ℕ) → length (peels_in c n wide narrow) ≡ n
length_peels c zero wide narrow = ap length (peels_none c wide narrow)
length_peels c (suc n) wide narrow = ap length (peels_suc c n wide narrow) ∙ ap suc (length_peels c n wide narrow)

-- it goes by its entries
peels_same : (c n : ℕ) (wide narrow wide' narrow' : List ℕ) → ((i : ℕ) → i < n → get_or wide' (c + i) 0 ≡ get_or wide (c + i) 0)
    → ((i : ℕ) → i < n → get_or narrow' (c + c + i) 0 ≡ get_or narrow (c + c + i) 0) → peels_in c n wide' narrow' ≡ peels_in c n wide narrow
peels_same c zero wide narrow wide' narrow' e f = peels_none c wide' narrow' ∙ sym (peels_none c wide narrow)
peels_same c (suc n) wide narrow wide' narrow' e f =
    peels_suc c n wide' narrow'
    ∙ ap₂ (λ (x : Peel) (xs : List Peel). x ∷ xs) (ap₂ (λ (a b : ℕ). record { hash = a; cell = b }) (e n (omega arith)) (f n (omega arith)))
    (peels_same c n wide narrow wide' narrow' (λ i h. e i (omega arith)) (λ i h. f i (omega arith)))
    ∙ sym (peels_suc c n wide narrow)

-- ---- a list by its length

one_hash : (hs : List ℕ) → length hs ≡ 1 → hs ≡ xors hs ∷ []
one_hash [] e = absurd (omega arith)
one_hash (h ∷ []) e = ap (λ (x : ℕ). x ∷ []) (sym (xors_one h))
one_hash (h ∷ k ∷ hs) e = absurd (omega arith)

settle_skip : (pos : ℕ → List ℕ) (hs : List ℕ) (p : ℕ) (q : List ℕ) (s : Attempt) → (length hs ≡ 1 → ⊥) → take_cell pos hs p q s ≡ skip pos p q s
settle_skip pos [] p q s e = refl
settle_skip pos (h ∷ []) p q s e = absurd (e refl)
settle_skip pos (h ∷ k ∷ hs) p q s e = refl

module _ (pos : ℕ → List ℕ) (c : ℕ) (hs : List ℕ) (s : Attempt) (wide narrow : List ℕ) where
  -- the queue is never longer than there are cells
  pub top_le : (top n : ℕ) → StandsFor pos c hs s wide narrow top n → top ≤ c
  top_le top n R = omega (arith, queue_within pos c hs s R.sound, ap length R.waiting, length_stack c top narrow)

  -- an empty queue
  pub ready_empty : (n : ℕ) → StandsFor pos c hs s wide narrow 0 n → one_step pos s ≡ s
  ready_empty n R = ap (λ (l : List ℕ). take_next pos l s) (R.waiting ∙ stack_none c narrow)

  module _ (t n : ℕ) (R : StandsFor pos c hs s wide narrow (suc t) n) where
    p : ℕ
    p = get_or narrow (c + t) 0

    -- the cell taken
    taken_cell : s.queue ≡ p ∷ stack c t narrow
    unfolding p
    taken_cell = R.waiting ∙ stack_suc c t narrow

    pub cell_under : get_or narrow (c + t) 0 < c
    unfolding p
    cell_under =
        occurs_below c p s.queue (λ v k. omega (arith, R.sound.below v k))
        (omega (arith, ap (occurs p) taken_cell, occurs_here p (stack c t narrow)))

    settled : one_step pos s ≡ take_cell pos (lying pos p s.left) p (stack c t narrow) s
    settled = ap (λ (l : List ℕ). take_next pos l s) taken_cell

    -- a cell of another degree is skipped
    pub ready_skip : (get_or narrow (get_or narrow (c + t) 0) 0 ≡ 1 → ⊥) → StandsFor pos c hs (one_step pos s) wide narrow t n
    unfolding p
    ready_skip e =
        let k : one_step pos s ≡ skip pos p (stack c t narrow) s =
        settled ∙ settle_skip pos (lying pos p s.left) p (stack c t narrow) s (λ z. e (R.tables.degree_at p cell_under ∙ z)) in
        rw k
        (record {
          placed = R.placed;
          sound = sound_skip pos c hs p (stack c t narrow) s taken_cell R.sound;
          tables = R.tables;
          waiting = refl;
          peeled = R.peeled;
          wide_room = R.wide_room;
          narrow_room = R.narrow_room;
        })

    -- a cell of degree 1 holds its one hash
    module _ (e : get_or narrow (get_or narrow (c + t) 0) 0 ≡ 1) where
      h : ℕ
      h = get_or wide (get_or narrow (c + t) 0) 0

      only : lying pos p s.left ≡ h ∷ []
      unfolding p h
      only =
          let k : lying pos p s.left ≡ xors (lying pos p s.left) ∷ [] = one_hash _ (sym (R.tables.degree_at p cell_under) ∙ e) in
          k ∙ ap (λ (y : ℕ). y ∷ []) (sym (R.tables.xor_at_is p cell_under))

      peeling : one_step pos s ≡ peel pos h p (stack c t narrow) s
      peeling = settled ∙ ap (λ (l : List ℕ). take_cell pos l p (stack c t narrow) s) only

      here : 1 ≤ occurs h s.left
      here = (lying_head pos p h s.left [] only).0

      placed_h : Placed c pos h
      placed_h = R.placed h (omega (arith, here, R.sound.all h))

      -- there is room on the peel stack
      pub room_peel : n < length hs
      room_peel =
          omega (arith, R.sound.sum, ap length R.peeled, length_peels c n wide narrow, degree_le pos p s.left, ap length only)

      -- the workspace once hash and cell are on it
      wide₁ : List ℕ
      wide₁ = set wide (c + n) (get_or wide (get_or narrow (c + t) 0) 0)

      narrow₁ : List ℕ
      narrow₁ = set narrow (c + c + n) (get_or narrow (c + t) 0)

      tables₁ : Tables pos c s.left narrow₁ wide₁
      unfolding wide₁ narrow₁
      tables₁ =
          tables_same pos c s.left narrow wide _ _ R.tables (length-set narrow (c + c + n) _) (length-set wide (c + n) _)
          (λ v l. get_or-set_other narrow (c + c + n) v _ 0 (λ z. omega arith)) (λ v l. get_or-set_other wide (c + n) v _ 0 (λ z. omega arith))

      module _ (ps : List ℕ) (eps : ps ≡ pos (get_or wide (get_or narrow (c + t) 0) 0)) where
        pub cells_under : Below c ps
        unfolding h
        cells_under = rw eps placed_h.below

        -- the hash has left them
        module _ (small : (v : ℕ) → get_or narrow v 0 < 2 ^ 32) (narrow₂ wide₂ : List ℕ)
            (ed : narrow₂ ≡ changed (plus 4294967295) ps (set narrow (c + c + n) (get_or narrow (c + t) 0)))
            (ex : wide₂ ≡ changed (bit_xor (get_or wide (get_or narrow (c + t) 0) 0)) ps (set wide (c + n) (get_or wide (get_or narrow (c + t) 0) 0))) where
          low : (v : ℕ) → v < c → get_or narrow₁ v 0 < 2 ^ 32
          unfolding narrow₁
          low v l = omega (arith, small v, get_or-set_other narrow (c + c + n) v (get_or narrow (c + t) 0) 0 (λ z. omega arith))

          after : Tables pos c (without h s.left) narrow₂ wide₂
          unfolding h wide₁ narrow₁
          after = rw (ed, ex, eps) (tables_remove pos c s.left narrow₁ wide₁ h placed_h here low tables₁)

          narrow_kept : (v : ℕ) → c ≤ v → (v ≡ c + c + n → ⊥) → get_or narrow₂ v 0 ≡ get_or narrow v 0
          unfolding h
          narrow_kept v k z =
              rw (ed, eps) (changed_other (plus 4294967295) (pos h) _ v (placed_h.below v k) ∙ get_or-set_other narrow (c + c + n) v _ 0 z)

          wide_kept : (v : ℕ) → c ≤ v → (v ≡ c + n → ⊥) → get_or wide₂ v 0 ≡ get_or wide v 0
          unfolding h
          wide_kept v k z =
              rw (ex, eps) (changed_other (bit_xor h) (pos h) _ v (placed_h.below v k) ∙ get_or-set_other wide (c + n) v _ 0 z)

          narrow_new : get_or narrow₂ (c + c + n) 0 ≡ get_or narrow (c + t) 0
          unfolding h
          narrow_new =
              rw (ed, eps) (changed_other (plus 4294967295) (pos h) _ (c + c + n) (placed_h.below (c + c + n) (omega arith)) ∙ get_or-set_same narrow (c + c + n) _ 0 (omega (arith, room_peel, R.narrow_room)))

          wide_new : get_or wide₂ (c + n) 0 ≡ get_or wide (get_or narrow (c + t) 0) 0
          unfolding h
          wide_new =
              rw (ex, eps) (changed_other (bit_xor h) (pos h) _ (c + n) (placed_h.below (c + n) (omega arith)) ∙ get_or-set_same wide (c + n) _ 0 (omega (arith, room_peel, R.wide_room)))

          pub narrow_length : length narrow₂ ≡ length narrow
          narrow_length = ap length ed ∙ length_changed (plus 4294967295) ps _ ∙ length-set narrow (c + c + n) _

          pub wide_length : length wide₂ ≡ length wide
          wide_length = ap length ex ∙ length_changed (bit_xor (get_or wide (get_or narrow (c + t) 0) 0)) ps _ ∙ length-set wide (c + n) _

          queue_kept : stack c t narrow₂ ≡ stack c t narrow
          queue_kept = stack_same c t narrow narrow₂ (λ i l. narrow_kept (c + i) (omega arith) (λ z. omega (arith, top_le (suc t) n R)))

          next_queue : queued_by narrow₂ ps (stack c t narrow₂) ≡ (one_step pos s).queue
          unfolding h
          next_queue =
              ap₂ (queued_by narrow₂) eps queue_kept ∙ noted_queued pos c (without h s.left) narrow₂ wide₂ after (pos h) placed_h.below (stack c t narrow)
              ∙ sym (ap (λ (a : Attempt). a.queue) peeling)

          -- there is room on the queue
          pub room_queue : length (queued_by narrow₂ ps (stack c t narrow₂)) ≤ c
          room_queue = omega (arith, ap length next_queue, queue_within pos c hs (one_step pos s) (sound_step pos c hs R.placed s R.sound))

          -- those of its cells that have degree 1 are queued
          pub ready_peel : (narrow₃ : List ℕ) (u : ℕ) → length narrow₃ ≡ length narrow₂ → Queued c (queued_by narrow₂ ps (stack c t narrow₂)) u narrow₂ narrow₃
              → StandsFor pos c hs (one_step pos s) wide₂ narrow₃ u (n + 1)
          unfolding p h
          ready_peel narrow₃ u l Q =
              record {
                placed = R.placed;
                sound = sound_step pos c hs R.placed s R.sound;
                tables =
                    subst (λ (a : Attempt). Tables pos c a.left narrow₃ wide₂) (sym peeling)
                    (tables_same pos c (without h s.left) narrow₂ wide₂ narrow₃ wide₂ after l refl Q.degrees (λ v k. refl));
                waiting = sym next_queue ∙ sym Q.waiting;
                peeled =
                    ap (λ (a : Attempt). a.peeled) peeling
                    ∙ ap₂ (λ (x : Peel) (xs : List Peel). x ∷ xs)
                    (ap₂ (λ (a b : ℕ). record { hash = a; cell = b }) (sym wide_new) (sym (Q.behind (c + c + n) (omega arith) ∙ narrow_new)))
                    (R.peeled
                    ∙ sym (peels_same c n wide narrow wide₂ narrow₃ (λ i k. wide_kept (c + i) (omega arith) (λ z. omega arith))
                    (λ i k. Q.behind (c + c + i) (omega arith) ∙ narrow_kept (c + c + i) (omega arith) (λ z. omega arith))))
                    ∙ sym (peels_suc c n wide₂ narrow₃) ∙ ap (λ (m : ℕ). peels_in c m wide₂ narrow₃) (sym (add-one n));
                wide_room = omega (arith, R.wide_room, wide_length);
                narrow_room = omega (arith, R.narrow_room, narrow_length, l);
              }

-- a queue that is not empty has a last entry
pub ready_suc : {pos : ℕ → List ℕ} {c : ℕ} {hs : List ℕ} {s : Attempt} {wide narrow : List ℕ} {n : ℕ} (top : ℕ) → (top ≡ 0 → ⊥) → StandsFor pos c hs s wide narrow top n
    → StandsFor pos c hs s wide narrow (suc (top - 1)) n
ready_suc {pos} {c} {hs} {s} {wide} {narrow} {n} top z R = subst (λ (m : ℕ). StandsFor pos c hs s wide narrow m n) (omega arith) R

-- ---- all steps

run_suc : (pos : ℕ → List ℕ) (n : ℕ) (s : Attempt) → run pos (suc n) s ≡ one_step pos (run pos n s)
unfolding run
run_suc pos zero s = refl
run_suc pos (suc n) s = run_suc pos n (one_step pos s)

-- one step more, at the end
pub run_step : (pos : ℕ → List ℕ) (n : ℕ) (s : Attempt) → run pos (n + 1) s ≡ one_step pos (run pos n s)
run_step pos n s = ap (λ (m : ℕ). run pos m s) (add-one n) ∙ run_suc pos n s

pub run_none : (pos : ℕ → List ℕ) (s : Attempt) → run pos 0 s ≡ s
unfolding run
run_none pos s = refl

pub attempt_is : (pos : ℕ → List ℕ) (c : ℕ) (hs : List ℕ) → attempt pos c hs ≡ run pos c (begun pos c hs)
unfolding attempt
attempt_is pos c hs = refl

-- ---- filling

fill_cons : (pos : ℕ → List ℕ) (e : Peel) (es : List Peel) (cells : List ℕ) → fill pos (e ∷ es) cells ≡ fill pos es (put pos e cells)
unfolding fill
fill_cons pos e es cells = refl

fill_nil : (pos : ℕ → List ℕ) (cells : List ℕ) → fill pos [] cells ≡ cells
unfolding fill
fill_nil pos cells = refl

pub fill_turn : (pos : ℕ → List ℕ) (c : ℕ) (wide narrow cells whole : List ℕ) (i x : ℕ) → 0 < i → x ≡ xor_at cells (pos (get_or wide (c + (i - 1)) 0))
    → fill pos (peels_in c i wide narrow) cells ≡ whole
    → fill pos (peels_in c (i - 1) wide narrow) (set cells (get_or narrow (c + c + (i - 1)) 0) (bit_xor (get_or wide (c + (i - 1)) 0 % 256) x)) ≡ whole
fill_turn pos c wide narrow cells whole zero x h e w = absurd (not-suc-le-zero h)
fill_turn pos c wide narrow cells whole (suc i) x h e w =
    let k : suc i - 1 ≡ i = omega arith in
    let e' : x ≡ xor_at cells (pos (get_or wide (c + i) 0)) = rw k at e in
    rw (k, e') (sym (fill_cons pos _ _ cells) ∙ ap (λ (es : List Peel). fill pos es cells) (sym (peels_suc c i wide narrow)) ∙ w)

pub fill_end : (pos : ℕ → List ℕ) (c : ℕ) (wide narrow cells whole : List ℕ) (i : ℕ) → i ≡ 0 → fill pos (peels_in c i wide narrow) cells ≡ whole → cells ≡ whole
fill_end pos c wide narrow cells whole i e w =
    sym (ap (λ (es : List Peel). fill pos es cells) (ap (λ (m : ℕ). peels_in c m wide narrow) e ∙ peels_none c wide narrow) ∙ fill_nil pos cells) ∙ w

-- ---- a whole attempt

-- the workspace after loading and queueing
pub ready_start : (pos : ℕ → List ℕ) (c : ℕ) (hs wide narrow narrow' : List ℕ) (top : ℕ) → ((h : ℕ) → 1 ≤ occurs h hs → Placed c pos h) → Tables pos c hs narrow wide
    → Queued c (queued_by narrow (rising 0 c) []) top narrow narrow' → length narrow' ≡ length narrow → c + length hs ≤ length wide → c + c + length hs ≤ length narrow
    → StandsFor pos c hs (begun pos c hs) wide narrow' top 0
ready_start pos c hs wide narrow narrow' top placed t Q l a b =
    record {
      placed = placed;
      sound = sound_start pos c hs;
      tables = tables_same pos c hs narrow wide narrow' wide t l refl Q.degrees (λ v k. refl);
      waiting = sym (Q.waiting ∙ noted_queued pos c hs narrow wide t (rising 0 c) (λ v m. rising_not 0 c v (omega arith)) []);
      peeled = sym (peels_none c wide narrow');
      wide_room = a;
      narrow_room = omega arith;
    }

-- as many peeled as there are hashes: all of them
pub all_peeled : (pos : ℕ → List ℕ) (c : ℕ) (hs : List ℕ) (s : Attempt) (wide narrow : List ℕ) (top n : ℕ) → StandsFor pos c hs s wide narrow top n
    → n + length s.left ≡ length hs
all_peeled pos c hs s wide narrow top n R = omega (arith, R.sound.sum, ap length R.peeled, length_peels c n wide narrow)

-- each hash was peeled at a cell below c
cells_below : (pos : ℕ → List ℕ) (c n : ℕ) (wide narrow hs : List ℕ) → ((i : ℕ) → i < n → Placed c pos (get_or wide (c + i) 0)) → Peelable pos (peels_in c n wide narrow) hs
    → (i : ℕ) → i < n → get_or narrow (c + c + i) 0 < c
cells_below pos c zero wide narrow hs ok g i h = absurd (not-suc-le-zero h)
cells_below pos c (suc n) wide narrow hs ok g i h =
    let g' : Peelable pos (record { hash = get_or wide (c + n) 0; cell = get_or narrow (c + c + n) 0 } ∷ peels_in c n wide narrow) hs =
    subst (λ (es : List Peel). Peelable pos es hs) (peels_suc c n wide narrow) g in
    by_test (ltb i n)
    (λ t. cells_below pos c n wide narrow _ (λ j k. ok j (omega arith)) g'.2 i (ltb-true i n t))
    (λ t.
    let e : i ≡ n = omega (arith, ltb-false i n t) in
    rw e (occurs_below c (get_or narrow (c + c + n) 0) (pos (get_or wide (c + n) 0)) (ok n (omega arith)).below (ltb-true 0 _ g'.0)))

peels_hash : (c n : ℕ) (wide narrow : List ℕ) (i : ℕ) → i < n → 1 ≤ occurs (get_or wide (c + i) 0) (hashes_peeled (peels_in c n wide narrow))
peels_hash c zero wide narrow i h = absurd (not-suc-le-zero h)
peels_hash c (suc n) wide narrow i h =
    rw (peels_suc c n wide narrow)
    (by_test (ltb i n)
    (λ t.
    omega (
      arith,
      peels_hash c n wide narrow i (ltb-true i n t),
      occurs_cons (get_or wide (c + i) 0) (get_or wide (c + n) 0) (hashes_peeled (peels_in c n wide narrow)),
    ))
    (λ t.
    let e : i ≡ n = omega (arith, ltb-false i n t) in
    rw e (omega (arith, occurs_here (get_or wide (c + n) 0) (hashes_peeled (peels_in c n wide narrow))))))

pub peeled_below : (pos : ℕ → List ℕ) (c : ℕ) (hs : List ℕ) (s : Attempt) (wide narrow : List ℕ) (top n : ℕ) → StandsFor pos c hs s wide narrow top n
    → (i : ℕ) → i < n → get_or narrow (c + c + i) 0 < c
peeled_below pos c hs s wide narrow top n R =
    cells_below pos c n wide narrow s.left (λ i h. R.placed _ (omega (arith, R.sound.all (get_or wide (c + i) 0), ap (λ (es : List Peel). occurs (get_or wide (c + i) 0) (hashes_peeled es)) R.peeled, peels_hash c n wide narrow i h)))
    (subst (λ (es : List Peel). Peelable pos es s.left) R.peeled R.sound.good)
