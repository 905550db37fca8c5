-- What an attempt keeps: each cell is queued at most once, the queue runs empty within c steps, and what was peeled can be filled in. Assumes nothing.
use Rattle.std.proofs.Common.{◌≡◌, ℕ, zero, suc, ◌+◌, ◌<◌, ◌≤◌, true, eqb, ltb, List, [], ◌∷◌, ◌++◌, length, get_or, set, replicate, sym, refl, ap, ◌∙◌, subst, ap₂, not-suc-le-zero, arith, length-append, length-set, drop_of_length-le, get_or-set_other, get_or-set_same, ltb-false, ltb-true, eq-eqb, eqb-true}
use borrow.Author.Tests.{eqb-false}
use lib.Bits.{bit_xor, xor_zero_l}
use lib.ListN.{length-replicate, get_or-replicate, get_or-eq_default}
use Rattle.laws.proofs.Cases.{by_test}
use Rattle.laws.specs.Count.{one, occurs, among, keep, without, rising}
use Rattle.peel.specs.Peel.{Peel, Attempt, lying, degree, queued, begun, skip, peel, take_cell, take_next, one_step, run, attempt, put, fill, Present, cells_after}
use Rattle.fuse.specs.Asking.{xor_at}
use Rattle.peel.specs.Inner.Sound.{Placed, Peelable, hashes_peeled, Sound}
use Rattle.laws.proofs.XorLaws.{xor_swap, xor_back}
use Rattle.laws.proofs.CountLaws.{occurs_nil, occurs_cons, occurs_here, occurs_other, occurs_append, occurs_below, among_once, occurs_without, length_without, pigeonhole, without_cons, rising_once, rising_not}

module _ (pos : ℕ → List ℕ) where
  pub lying_nil : (p : ℕ) → lying pos p [] ≡ []
  unfolding lying
  lying_nil p = refl

  pub lying_cons : (p h : ℕ) (hs : List ℕ) → lying pos p (h ∷ hs) ≡ keep (among p (pos h)) h (lying pos p hs)
  unfolding lying
  lying_cons p h hs = refl

  pub degree_nil : (p : ℕ) → degree pos p [] ≡ 0
  degree_nil p = ap length (lying_nil p)

  pub degree_cons : (p h : ℕ) (hs : List ℕ) → degree pos p (h ∷ hs) ≡ one (among p (pos h)) + degree pos p hs
  degree_cons p h hs =
      by_test (among p (pos h)) (λ e. rw (lying_cons, e) (omega arith)) (λ e. rw (lying_cons, e) (omega arith))

  pub degree_without : (p h : ℕ) (hs : List ℕ) → 1 ≤ occurs h hs → one (among p (pos h)) + degree pos p (without h hs) ≡ degree pos p hs
  degree_without p h [] k = absurd (not-suc-le-zero (rw occurs_nil at k))
  degree_without p h (x ∷ hs) k =
      by_test (eqb h x)
      (λ e. rw (without_cons, e, eqb-true h x e, degree_cons) refl)
      (λ e.
      let k' : 1 ≤ occurs h hs = rw (occurs_other h x hs (eqb-false h x e)) at k in
      rw (without_cons, e) (omega (arith, degree_cons p x (without h hs), degree_cons p x hs, degree_without p h hs k')))

  -- a hash that lies on a cell is one of the hashes, and the cell one of its cells
  pub lying_head : (p h : ℕ) (hs rest : List ℕ) → lying pos p hs ≡ h ∷ rest → (1 ≤ occurs h hs) × (among p (pos h) ≡ true)
  lying_head p h [] rest e =
      let q : lying pos p [] ≡ [] = lying_nil p in
      let z : ◌≡◌ {A = ℕ} 0 (length (h ∷ rest)) = ap length (sym q ∙ e) in
      absurd (omega arith)
  lying_head p h (x ∷ hs) rest e =
      by_test (among p (pos x))
      (λ t.
      let l : lying pos p (x ∷ hs) ≡ x ∷ lying pos p hs = rw (lying_cons, t) refl in
      let s : x ≡ h = cc in
      rw (← s) (omega (arith, occurs_here x hs), t))
      (λ t.
      let l : lying pos p (x ∷ hs) ≡ lying pos p hs = rw (lying_cons, t) refl in
      let r : (1 ≤ occurs h hs) × (among p (pos h) ≡ true) = lying_head p h hs rest (sym l ∙ e) in
      (omega (arith, occurs_cons h x hs, r.0), r.1))

  -- a cell of degree 0 is no cell of any of the hashes
  pub degree_zero : (p h : ℕ) (hs : List ℕ) → degree pos p hs ≡ 0 → 1 ≤ occurs h hs → occurs p (pos h) ≡ 0
  degree_zero p h hs z k =
      by_test (among p (pos h))
      (λ t.
      let w : 1 + degree pos p (without h hs) ≡ degree pos p hs = rw t at (degree_without p h hs k) in
      omega arith)
      (λ t. omega (arith, ltb-false 0 (occurs p (pos h)) t))

  -- ---- the queue

  pub queued_cons : (hs : List ℕ) (p : ℕ) (ps q : List ℕ) → queued pos hs (p ∷ ps) q ≡ queued pos hs ps (keep (eqb (degree pos p hs) 1) p q)
  unfolding queued
  queued_cons hs p ps q = refl

  pub queued_nil : (hs q : List ℕ) → queued pos hs [] q ≡ q
  unfolding queued
  queued_nil hs q = refl

  -- a cell of degree 1 is queued as often as it is named
  pub queued_yes : (hs : List ℕ) (v : ℕ) → degree pos v hs ≡ 1 → (ps q : List ℕ) → occurs v (queued pos hs ps q) ≡ occurs v ps + occurs v q
  queued_yes hs v d [] q = rw (queued_nil, occurs_nil) (omega arith)
  queued_yes hs v d (p ∷ ps) q =
      by_test (eqb v p)
      (λ e.
      let k : eqb (degree pos p hs) 1 ≡ true = eq-eqb _ _ (ap (λ (x : ℕ). degree pos x hs) (sym (eqb-true v p e)) ∙ d) in
      rw (queued_cons, k) (omega (arith, queued_yes hs v d ps (p ∷ q), occurs_cons v p q, occurs_cons v p ps)))
      (λ e.
      let n : v ≡ p → ⊥ = eqb-false v p e in
      by_test (eqb (degree pos p hs) 1)
      (λ k. rw (queued_cons, k) (omega (arith, queued_yes hs v d ps (p ∷ q), occurs_other v p q n, occurs_other v p ps n)))
      (λ k. rw (queued_cons, k) (omega (arith, queued_yes hs v d ps q, occurs_other v p ps n))))

  -- any other is not queued
  pub queued_no : (hs : List ℕ) (v : ℕ) → (degree pos v hs ≡ 1 → ⊥) → (ps q : List ℕ) → occurs v (queued pos hs ps q) ≡ occurs v q
  queued_no hs v d [] q = rw queued_nil refl
  queued_no hs v d (p ∷ ps) q =
      by_test (eqb (degree pos p hs) 1)
      (λ k.
      let n : v ≡ p → ⊥ = λ e. d (ap (λ (x : ℕ). degree pos x hs) e ∙ eqb-true _ _ k) in
      rw (queued_cons, k) (omega (arith, queued_no hs v d ps (p ∷ q), occurs_other v p q n)))
      (λ k. rw (queued_cons, k) (queued_no hs v d ps q))

  -- ---- what was peeled

  -- it goes by degrees alone
  pub peelable_by : (es : List Peel) (hs ks : List ℕ) → ((v : ℕ) → degree pos v hs ≡ degree pos v ks) → Peelable pos es hs → Peelable pos es ks
  peelable_by [] hs ks f g = tt
  peelable_by (e ∷ es) hs ks f g = (
    g.0,
    (sym (f e.cell) ∙ g.1),
    peelable_by es (e.hash ∷ hs) (e.hash ∷ ks) (λ v. omega (arith, degree_cons v e.hash hs, degree_cons v e.hash ks, f v)) g.2,
  )

module _ (pos : ℕ → List ℕ) (c : ℕ) (hs : List ℕ) where
  pub sound_start : Sound pos c hs (begun pos c hs)
  sound_start =
      record {
        once = λ v. by_test (eqb (degree pos v hs) 1)
            (λ t. omega (arith, occurs_nil v, queued_yes pos hs v (eqb-true _ _ t) (rising 0 c) [], rising_once 0 c v))
            (λ t. omega (arith, occurs_nil v, queued_no pos hs v (eqb-false _ _ t) (rising 0 c) []));
        light = λ v h. omega (arith, occurs_nil v, queued_no pos hs v (λ e. omega arith) (rising 0 c) []);
        below = λ v h. by_test (eqb (degree pos v hs) 1)
            (λ t. omega (arith, occurs_nil v, queued_yes pos hs v (eqb-true _ _ t) (rising 0 c) [], rising_not 0 c v (omega arith)))
            (λ t. omega (arith, occurs_nil v, queued_no pos hs v (eqb-false _ _ t) (rising 0 c) []));
        good = tt;
        sum = omega arith;
        all = λ v. omega (arith, occurs_nil v);
      }

  -- a cell moves from the queue to those taken
  pub sound_skip : (p : ℕ) (q : List ℕ) (s : Attempt) → s.queue ≡ p ∷ q → Sound pos c hs s → Sound pos c hs (skip pos p q s)
  sound_skip p q s e S =
      record {
        once = λ v. omega (arith, S.once v, moved v);
        light = λ v h. omega (arith, S.light v h, moved v);
        below = λ v h. omega (arith, S.below v h, moved v);
        good = S.good;
        sum = S.sum;
        all = S.all;
      }
    where
      moved : (v : ℕ) → occurs v (p ∷ s.taken) + occurs v q ≡ occurs v s.taken + occurs v s.queue
      moved v = omega (arith, occurs_cons v p s.taken, occurs_cons v p q, ap (occurs v) e)

  module _ (placed : (h : ℕ) → 1 ≤ occurs h hs → Placed c pos h) where
    pub sound_peel : (h p : ℕ) (q : List ℕ) (s : Attempt) → s.queue ≡ p ∷ q → lying pos p s.left ≡ h ∷ [] → Sound pos c hs s → Sound pos c hs (peel pos h p q s)
    sound_peel h p q s e l S =
        record {
          once = λ v. by_test (eqb (degree pos v rest) 1)
              (λ t. omega (arith, S.once v, moved v, falls v, at_most v, queued_yes pos rest v (eqb-true _ _ t) (pos h) q, twice v (eqb-true _ _ t)))
              (λ t. omega (arith, S.once v, moved v, queued_no pos rest v (eqb-false _ _ t) (pos h) q));
          light = λ v k. omega (arith, S.light v (omega (arith, falls v)), moved v, queued_no pos rest v (λ z. omega arith) (pos h) q);
          below = λ v k. by_test (eqb (degree pos v rest) 1)
              (λ t. omega (arith, S.below v k, moved v, queued_yes pos rest v (eqb-true _ _ t) (pos h) q, ok.below v k))
              (λ t. omega (arith, S.below v k, moved v, queued_no pos rest v (eqb-false _ _ t) (pos h) q));
          good = (
            here.1,
            omega (arith, falls p, ap one here.1, ap length l),
            peelable_by pos s.peeled s.left (h ∷ rest) (λ v. omega (arith, degree_cons pos v h rest, degree_without pos v h s.left here.0)) S.good,
          );
          sum = omega (arith, S.sum, length_without h s.left here.0);
          all = λ v. omega (arith, S.all v, occurs_cons v h (hashes_peeled s.peeled), occurs_without v h s.left here.0);
        }
      where
        rest : List ℕ
        rest = without h s.left

        here : (1 ≤ occurs h s.left) × (among p (pos h) ≡ true)
        here = lying_head pos p h s.left [] l

        ok : Placed c pos h
        ok = placed h (omega (arith, here.0, S.all h))

        at_most : (v : ℕ) → one (among v (pos h)) ≡ occurs v (pos h)
        at_most v = among_once v (pos h) (ok.apart v)

        falls : (v : ℕ) → one (among v (pos h)) + degree pos v rest ≡ degree pos v s.left
        falls v = degree_without pos v h s.left here.0

        moved : (v : ℕ) → occurs v (p ∷ s.taken) + occurs v q ≡ occurs v s.taken + occurs v s.queue
        moved v = omega (arith, occurs_cons v p s.taken, occurs_cons v p q, ap (occurs v) e)

        -- a cell of h that now has degree 1 had degree 2, so it was never queued
        twice : (v : ℕ) → degree pos v rest ≡ 1 → occurs v (pos h) + (occurs v s.taken + occurs v s.queue) ≤ 1
        twice v d =
            by_test (among v (pos h))
            (λ t. omega (arith, S.light v (omega (arith, falls v, ap one t)), ok.apart v))
            (λ t. omega (arith, S.once v, at_most v, ap one t))

    sound_settle : (ls : List ℕ) (p : ℕ) (q : List ℕ) (s : Attempt) → s.queue ≡ p ∷ q → lying pos p s.left ≡ ls → Sound pos c hs s → Sound pos c hs (take_cell pos ls p q s)
    sound_settle [] p q s e l S = sound_skip p q s e S
    sound_settle (h ∷ []) p q s e l S = sound_peel h p q s e l S
    sound_settle (h ∷ k ∷ ls) p q s e l S = sound_skip p q s e S

    sound_next : (q : List ℕ) (s : Attempt) → s.queue ≡ q → Sound pos c hs s → Sound pos c hs (take_next pos q s)
    sound_next [] s e S = S
    sound_next (p ∷ q) s e S = sound_settle (lying pos p s.left) p q s e refl S

    pub sound_step : (s : Attempt) → Sound pos c hs s → Sound pos c hs (one_step pos s)
    sound_step s S = sound_next s.queue s refl S

    pub sound_run : (n : ℕ) (s : Attempt) → Sound pos c hs s → Sound pos c hs (run pos n s)
    unfolding run
    sound_run zero s S = S
    sound_run (suc n) s S = sound_run n (one_step pos s) (sound_step s S)

  -- the cells taken and those queued are at most c together
  pub queue_within : (s : Attempt) → Sound pos c hs s → length s.taken + length s.queue ≤ c
  queue_within s S =
      omega (
        arith,
        length-append s.taken s.queue,
        pigeonhole c (s.taken ++ s.queue) (λ v. omega (arith, occurs_append v s.taken s.queue, S.once v))
            (λ v k. omega (arith, occurs_append v s.taken s.queue, S.below v k)),
      )

-- a step takes one cell, if there is one
settle_taken : (pos : ℕ → List ℕ) (ls : List ℕ) (p : ℕ) (q : List ℕ) (s : Attempt) → length (take_cell pos ls p q s).taken ≡ suc (length s.taken)
settle_taken pos [] p q s = refl
settle_taken pos (h ∷ []) p q s = refl
settle_taken pos (h ∷ k ∷ ls) p q s = refl

-- an empty queue stays
pub run_empty : (pos : ℕ → List ℕ) (n : ℕ) (s : Attempt) → s.queue ≡ [] → run pos n s ≡ s
unfolding run
run_empty pos zero s e = refl
run_empty pos (suc n) s e =
    let k : one_step pos s ≡ s = ap (λ (q : List ℕ). take_next pos q s) e in
    ap (run pos n) k ∙ run_empty pos n s e

module _ (pos : ℕ → List ℕ) (c : ℕ) (hs : List ℕ) (placed : (h : ℕ) → 1 ≤ occurs h hs → Placed c pos h) where
  -- as many steps as there are cells not yet taken empty the queue
  pub run_ends : (n : ℕ) (s : Attempt) → Sound pos c hs s → c ≤ length s.taken + n → (run pos n s).queue ≡ []
  unfolding run
  run_ends zero s S k = drop_of_length-le s.queue {i = 0} (omega (arith, queue_within pos c hs s S))
  run_ends (suc n) s S k = go s.queue refl (λ h. run_ends n (one_step pos s) (sound_step pos c hs placed s S) h)
    where
      go : (q : List ℕ) → s.queue ≡ q → (c ≤ length (one_step pos s).taken + n → (run pos n (one_step pos s)).queue ≡ []) → (run pos n (one_step pos s)).queue ≡ []
      go [] e f =
          let k : one_step pos s ≡ s = ap (λ (q : List ℕ). take_next pos q s) e in
          ap (λ (t : Attempt). (run pos n t).queue) k ∙ ap (λ (t : Attempt). t.queue) (run_empty pos n s e) ∙ e
      go (p ∷ q) e f =
          f (omega (arith, ap (λ (q : List ℕ). length (take_next pos q s).taken) e ∙ settle_taken pos (lying pos p s.left) p q s))

  -- an attempt keeps all of it to its end
  pub sound_attempt : Sound pos c hs (attempt pos c hs)
  unfolding attempt
  sound_attempt = sound_run pos c hs placed c (begun pos c hs) (sound_start pos c hs)

  -- no cell is queued twice in an attempt: at each step, taken or waiting, it stands once at most
  pub queued_once : (n v : ℕ) → occurs v (run pos n (begun pos c hs)).taken + occurs v (run pos n (begun pos c hs)).queue ≤ 1
  queued_once n v = (sound_run pos c hs placed n (begun pos c hs) (sound_start pos c hs)).once v

-- ---- filling

pub xor_at_cons : (fp : List ℕ) (p : ℕ) (ps : List ℕ) → xor_at fp (p ∷ ps) ≡ bit_xor (get_or fp p 0) (xor_at fp ps)
unfolding xor_at
xor_at_cons fp p ps = refl

pub xor_at_nil : (fp : List ℕ) → xor_at fp [] ≡ 0
unfolding xor_at
xor_at_nil fp = refl

-- a cell that is not among them
pub xor_at_other : (fp : List ℕ) (p x : ℕ) (ps : List ℕ) → occurs p ps ≡ 0 → xor_at (set fp p x) ps ≡ xor_at fp ps
xor_at_other fp p x [] z = simp xor_at_nil
xor_at_other fp p x (q ∷ ps) z =
    let d : q ≡ p → ⊥ = λ e. omega (arith, z, occurs_here p ps, ap (λ (y : ℕ). occurs p (y ∷ ps)) e) in
    xor_at_cons _ q ps
    ∙ ap₂ bit_xor (get_or-set_other fp p q x 0 d) (xor_at_other fp p x ps (omega (arith, occurs_cons p q ps)))
    ∙ sym (xor_at_cons fp q ps)

-- a cell that is among them once, and was zero
pub xor_at_same : (fp : List ℕ) (p x : ℕ) → p < length fp → get_or fp p 0 ≡ 0 → (ps : List ℕ) → occurs p ps ≡ 1 → xor_at (set fp p x) ps ≡ bit_xor x (xor_at fp ps)
xor_at_same fp p x h z [] k = omega (arith, occurs_nil p)
xor_at_same fp p x h z (q ∷ ps) k =
    by_test (eqb p q)
    (λ e.
    let s : p ≡ q = eqb-true p q e in
    let n : occurs p ps ≡ 0 = omega (arith, occurs_cons p q ps, ap one e) in
    rw (← s)
    (xor_at_cons _ p ps ∙ ap₂ bit_xor (get_or-set_same fp p x 0 h) (xor_at_other fp p x ps n)
    ∙ ap (bit_xor x) (sym (xor_zero_l (xor_at fp ps)) ∙ ap (λ (y : ℕ). bit_xor y (xor_at fp ps)) (sym z) ∙ sym (xor_at_cons fp p ps))))
    (λ e.
    let d : q ≡ p → ⊥ = λ s. eqb-false p q e (sym s) in
    xor_at_cons _ q ps
    ∙ ap₂ bit_xor (get_or-set_other fp p q x 0 d) (xor_at_same fp p x h z ps (omega (arith, occurs_cons p q ps, ap one e)))
    ∙ xor_swap (get_or fp q 0) x (xor_at fp ps) ∙ ap (bit_xor x) (sym (xor_at_cons fp q ps)))

-- the hashes, last peeled first, put back in front of those that are left
abbrev pub origin : List Peel → List ℕ → List ℕ
origin [] hs = hs
origin (e ∷ es) hs = origin es (e.hash ∷ hs)

pub count_origin : (v : ℕ) (es : List Peel) (hs : List ℕ) → occurs v (origin es hs) ≡ occurs v (hashes_peeled es) + occurs v hs
count_origin v [] hs = omega (arith, occurs_nil v)
count_origin v (e ∷ es) hs = omega (arith, count_origin v es (e.hash ∷ hs), occurs_cons v e.hash hs, occurs_cons v e.hash (hashes_peeled es))

-- what holds of the cells filled so far, for the hashes put back so far
pub record CellsFilling (pos : ℕ → List ℕ) (c : ℕ) (hs : List ℕ) (fp : List ℕ) : Type 0 where
  pub size : length fp ≡ c
  pub rest : (v : ℕ) → degree pos v hs ≡ 0 → get_or fp v 0 ≡ 0
  pub present : (h : ℕ) → 1 ≤ occurs h hs → Present pos fp h

module _ (pos : ℕ → List ℕ) (c : ℕ) where
  filling_put : (e : Peel) (hs fp : List ℕ) → Placed c pos e.hash → among e.cell (pos e.hash) ≡ true → degree pos e.cell hs ≡ 0
      → CellsFilling pos c hs fp → CellsFilling pos c (e.hash ∷ hs) (put pos e fp)
  filling_put e hs fp ok a z F =
      record {
        size = length-set fp e.cell _ ∙ F.size;
        rest = λ v d.
            let no : one (among v (pos e.hash)) ≡ 0 = omega (arith, degree_cons pos v e.hash hs) in
            get_or-set_other fp e.cell v _ 0
            (λ s. omega (arith, ap one a, ap (λ (y : ℕ). one (among y (pos e.hash))) s))
            ∙ F.rest v (omega (arith, degree_cons pos v e.hash hs));
        present = λ h k. by_test (eqb h e.hash)
            (λ t. rw (eqb-true h e.hash t)
            (xor_at_same fp e.cell _ inside (F.rest e.cell z) (pos e.hash) on ∙ xor_back _ _))
            (λ t.
            let k' : 1 ≤ occurs h hs = omega (arith, occurs_other h e.hash hs (eqb-false _ _ t)) in
            xor_at_other fp e.cell _ (pos h) (degree_zero pos e.cell h hs z k') ∙ F.present h k');
      }
    where
      on : occurs e.cell (pos e.hash) ≡ 1
      on = omega (arith, among_once e.cell (pos e.hash) (ok.apart e.cell), ap one a)

      inside : e.cell < length fp
      inside = omega (arith, F.size, occurs_below c e.cell (pos e.hash) ok.below (omega (arith, on)))

  pub filling_fill : (es : List Peel) (hs fp : List ℕ) → ((h : ℕ) → 1 ≤ occurs h (origin es hs) → Placed c pos h) → Peelable pos es hs
      → CellsFilling pos c hs fp → CellsFilling pos c (origin es hs) (fill pos es fp)
  unfolding fill
  filling_fill [] hs fp ok g F = F
  filling_fill (e ∷ es) hs fp ok g F =
      filling_fill es (e.hash ∷ hs) (put pos e fp) ok g.2
      (filling_put e hs fp (ok e.hash (omega (arith, count_origin e.hash es (e.hash ∷ hs), occurs_here e.hash hs))) g.0 g.1 F)

-- the closing check never fails: if every hash was peeled, every hash is present
pub all_present : (pos : ℕ → List ℕ) (c : ℕ) (hs : List ℕ) → ((h : ℕ) → 1 ≤ occurs h hs → Placed c pos h)
    → (attempt pos c hs).left ≡ [] → (h : ℕ) → 1 ≤ occurs h hs → Present pos (cells_after pos c hs) h
unfolding cells_after
all_present pos c hs placed done h k =
    (filling_fill pos c es [] (replicate c 0) (λ v m. placed v (omega (arith, same v))) (subst (Peelable pos es) done S.good) zeros).present h (omega (arith, same h))
  where
    S : Sound pos c hs (attempt pos c hs)
    S = sound_attempt pos c hs placed

    es : List Peel
    es = (attempt pos c hs).peeled

    same : (v : ℕ) → occurs v (origin es []) ≡ occurs v hs
    same v = omega (arith, count_origin v es [], S.all v, ap (occurs v) done)

    zero_at : (v : ℕ) → get_or {A = ℕ} (replicate c 0) v 0 ≡ 0
    zero_at v = by_test (ltb v c) (λ t. get_or-replicate c v 0 0 (ltb-true _ _ t)) (λ t. get_or-eq_default (replicate c 0) 0 (omega (arith, length-replicate {A = ℕ} c 0, ltb-false v c t)))

    zeros : CellsFilling pos c [] (replicate c 0)
    zeros = record { size = length-replicate c 0; rest = λ v d. zero_at v; present = λ v m. omega (arith, occurs_nil v) }
