-- Laws of the workspace: a hash added or taken away, cells noted, and the stacks. Assumes nothing.
use Rattle.std.proofs.Common.{◌≡◌, ℕ, zero, suc, ◌+◌, ◌-◌, ◌^◌, ◌<◌, ◌≤◌, Bool, true, false, eqb, List, [], ◌∷◌, ◌++◌, length, get_or, take, drop, set, replicate, sym, refl, ap, ◌∙◌, ap₂, not-suc-le-zero, add-one, arith, length-drop, length-set, drop_of_length-le, length-take-le, drop-cons, get_or-set_other, get_or-set_same, eq-eqb, ne_eqb, eqb-true}
use native.Mathlib.Nat.{sub-zero}
use borrow.Author.Tests.{eqb-false}
use lib.Bits.{bit_xor, xor_zero_r, xor_comm}
use lib.ListN.{length-replicate, get_or-replicate, get_or-append}
use Rattle.laws.proofs.Cases.{by_test}
use Rattle.laws.specs.Count.{one, occurs, among, keep, without, rising}
use Rattle.laws.proofs.Lists.{drop_next}
use Rattle.laws.proofs.XorLaws.{xor_swap, xor_back}
use Rattle.laws.proofs.CountLaws.{occurs_nil, occurs_cons, occurs_here, occurs_other, occurs_at, occurs_below, among_once, without_cons, rising_cons, rising_none}
use Rattle.peel.specs.Inner.Sound.{Placed}
use Rattle.peel.specs.Peel.{lying, degree, queued}
use Rattle.peel.specs.Inner.Table.{xors, stack, changed, plus, queued_by, Queued, Tables, Below}
use Rattle.peel.proofs.PeelLaws.{lying_cons, lying_nil, degree_nil, degree_cons, degree_without, queued_cons, queued_nil}

-- ---- the folds over cells

-- the cells ps are all below c
pub cell_at_below : (c : ℕ) (ps : List ℕ) → Below c ps → (i : ℕ) → i < length ps → get_or ps i 0 < c
cell_at_below c ps b i h = occurs_below c (get_or ps i 0) ps b (occurs_at ps i h)

module _ (f : ℕ → ℕ) where
  changed_cons : (p : ℕ) (ps d : List ℕ) → changed f (p ∷ ps) d ≡ changed f ps (set d p (f (get_or d p 0)))
  unfolding changed
  changed_cons p ps d = refl

  changed_nil : (d : List ℕ) → changed f [] d ≡ d
  unfolding changed
  changed_nil d = refl

  pub length_changed : (ps d : List ℕ) → length (changed f ps d) ≡ length d
  length_changed [] d = ap length (changed_nil d)
  length_changed (p ∷ ps) d = ap length (changed_cons p ps d) ∙ length_changed ps _ ∙ length-set d p _

  -- a cell that is not named is as it was
  pub changed_other : (ps d : List ℕ) (v : ℕ) → occurs v ps ≡ 0 → get_or (changed f ps d) v 0 ≡ get_or d v 0
  changed_other [] d v z = rw changed_nil refl
  changed_other (p ∷ ps) d v z =
      by_test (eqb v p)
      (λ e. absurd (omega (arith, occurs_cons v p ps, ap one e)))
      (λ e. rw changed_cons (changed_other ps _ v (omega (arith, occurs_cons v p ps)) ∙ get_or-set_other d p v _ 0 (eqb-false v p e)))

  -- one that is named once is changed
  pub changed_at : (ps d : List ℕ) (v : ℕ) → v < length d → occurs v ps ≡ 1 → get_or (changed f ps d) v 0 ≡ f (get_or d v 0)
  changed_at [] d v l z = absurd (omega (arith, occurs_nil v))
  changed_at (p ∷ ps) d v l z =
      by_test (eqb v p)
      (λ e.
      let s : v ≡ p = eqb-true v p e in
      rw changed_cons (changed_other ps _ v (omega (arith, occurs_cons v p ps, ap one e)) ∙ rw s (get_or-set_same d p _ 0 (rw s at l))))
      (λ e.
      rw changed_cons
      (changed_at ps _ v (rw length-set l) (omega (arith, occurs_cons v p ps, ap one e)) ∙ ap f (get_or-set_other d p v _ 0 (eqb-false v p e))))

  -- the first i of the cells are changed
  pub record Changing (ps d₀ : List ℕ) (i : ℕ) (d : List ℕ) : Type 0 where
    pub size : length d ≡ length d₀
    pub whole_is : changed f (drop i ps) d ≡ changed f ps d₀

  -- the next cell lies inside
  pub changing_in : (ps d₀ : List ℕ) (i : ℕ) (d : List ℕ) → i < length ps → Below (length d₀) ps → Changing ps d₀ i d → get_or ps i 0 < length d
  changing_in ps d₀ i d hi b A = omega (arith, A.size, cell_at_below (length d₀) ps b i hi)

  pub changing_turn : (ps d₀ : List ℕ) (i : ℕ) (d : List ℕ) → i < length ps → Changing ps d₀ i d → Changing ps d₀ (i + 1) (set d (get_or ps i 0) (f (get_or d (get_or ps i 0) 0)))
  changing_turn ps d₀ i d hi A =
      record {
        size = length-set d (get_or ps i 0) _ ∙ A.size;
        whole_is = sym (changed_cons _ _ d) ∙ ap (λ (l : List ℕ). changed f l d) (sym (drop_next ps i hi)) ∙ A.whole_is;
      }

  pub changing_end : (ps d₀ : List ℕ) (i : ℕ) (d : List ℕ) → length ps ≤ i → Changing ps d₀ i d → d ≡ changed f ps d₀
  changing_end ps d₀ i d hi A = let n : drop i ps ≡ [] = drop_of_length-le ps hi in rw (n, changed_nil) at A.whole_is

-- ---- the stacks

pub stack_none : (base : ℕ) (xs : List ℕ) → stack base 0 xs ≡ []
unfolding stack
stack_none base xs = refl

pub stack_suc : (base n : ℕ) (xs : List ℕ) → stack base (suc n) xs ≡ get_or xs (base + n) 0 ∷ stack base n xs
unfolding stack
stack_suc base n xs = refl

pub length_stack : (base n : ℕ) (xs : List ℕ) → length (stack base n xs) ≡ n
length_stack base zero xs = ap length (stack_none base xs)
length_stack base (suc n) xs = ap length (stack_suc base n xs) ∙ ap suc (length_stack base n xs)

-- a stack goes by its entries
pub stack_same : (base n : ℕ) (xs ys : List ℕ) → ((i : ℕ) → i < n → get_or ys (base + i) 0 ≡ get_or xs (base + i) 0) → stack base n ys ≡ stack base n xs
stack_same base zero xs ys e = stack_none base ys ∙ sym (stack_none base xs)
stack_same base (suc n) xs ys e =
    stack_suc base n ys ∙ ap₂ (λ (z : ℕ) (zs : List ℕ). z ∷ zs) (e n (omega arith)) (stack_same base n xs ys (λ i h. e i (omega arith))) ∙ sym (stack_suc base n xs)

-- a cell of degree 1 goes on the queue
pub queued_push : (c top p : ℕ) (xs : List ℕ) → top < c → c + c ≤ length xs → get_or xs p 0 ≡ 1
    → Queued c (keep (eqb (get_or xs p 0) 1) p (stack c top xs)) (top + 1) xs (set xs (c + top) p)
queued_push c top p xs h r e =
    record {
      waiting =
          ap (λ (n : ℕ). stack c n (set xs (c + top) p)) (add-one top) ∙ stack_suc c top _
          ∙ ap₂ (λ (z : ℕ) (zs : List ℕ). z ∷ zs) (get_or-set_same xs (c + top) p 0 (omega arith))
          (stack_same c top xs _ (λ i l. get_or-set_other xs (c + top) (c + i) p 0 (λ z. omega arith)))
          ∙ ap (λ (b : Bool). keep b p (stack c top xs)) (sym (eq-eqb _ _ e));
      degrees = λ v l. get_or-set_other xs (c + top) v p 0 (λ z. omega arith);
      behind = λ v l. get_or-set_other xs (c + top) v p 0 (λ z. omega arith);
    }

-- a cell written behind the queue stays if its degree is 1
pub queued_stays : (c top p r : ℕ) (xs : List ℕ) → top < c → c + c ≤ length xs → p < c → get_or (set xs (c + top) p) p 0 ≡ 1 → r ≡ top + 1
    → Queued c (keep (eqb (get_or xs p 0) 1) p (stack c top xs)) r xs (set xs (c + top) p)
queued_stays c top p r xs h l k e er = rw er (queued_push c top p xs h l (sym (get_or-set_other xs (c + top) p p 0 (λ z. omega arith)) ∙ e))

-- and is written over if not
pub queued_goes : (c top p r : ℕ) (xs : List ℕ) → top < c → c + c ≤ length xs → p < c → (get_or (set xs (c + top) p) p 0 ≡ 1 → ⊥) → r ≡ top
    → Queued c (keep (eqb (get_or xs p 0) 1) p (stack c top xs)) r xs (set xs (c + top) p)
queued_goes c top p r xs h l k e er =
    rw er
    (record {
      waiting =
          stack_same c top xs _ (λ i m. get_or-set_other xs (c + top) (c + i) p 0 (λ z. omega arith))
          ∙ ap (λ (b : Bool). keep b p (stack c top xs)) (sym (ne_eqb _ _ (λ z. e (get_or-set_other xs (c + top) p p 0 (λ y. omega arith) ∙ z))));
      degrees = λ v m. get_or-set_other xs (c + top) v p 0 (λ z. omega arith);
      behind = λ v m. get_or-set_other xs (c + top) v p 0 (λ z. omega arith);
    })

-- ---- cells noted

pub noted_cons : (d : List ℕ) (p : ℕ) (ps q : List ℕ) → queued_by d (p ∷ ps) q ≡ queued_by d ps (keep (eqb (get_or d p 0) 1) p q)
unfolding queued_by
noted_cons d p ps q = refl

pub noted_nil : (d q : List ℕ) → queued_by d [] q ≡ q
unfolding queued_by
noted_nil d q = refl

pub length_keep : (b : Bool) (p : ℕ) (q : List ℕ) → (length q ≤ length (keep b p q)) × (length (keep b p q) ≤ suc (length q))
length_keep true p q = omega arith
length_keep false p q = omega arith

below_head : (c p : ℕ) (ps : List ℕ) → Below c (p ∷ ps) → p < c
below_head c p ps b = occurs_below c p (p ∷ ps) b (omega (arith, occurs_here p ps))

-- noting cells takes none off the queue
pub noted_longer : (d ps q : List ℕ) → length q ≤ length (queued_by d ps q)
noted_longer d [] q = rw noted_nil (omega arith)
noted_longer d (p ∷ ps) q = rw noted_cons (omega (arith, noted_longer d ps (keep (eqb (get_or d p 0) 1) p q), length_keep (eqb (get_or d p 0) 1) p q))

-- the degrees may stand in another list
pub noted_same : (c : ℕ) (d d' ps q : List ℕ) → Below c ps → ((v : ℕ) → v < c → get_or d' v 0 ≡ get_or d v 0) → queued_by d' ps q ≡ queued_by d ps q
noted_same c d d' [] q b e = noted_nil d' q ∙ sym (noted_nil d q)
noted_same c d d' (p ∷ ps) q b e =
    noted_cons d' p ps q
    ∙ ap (λ (n : ℕ). queued_by d' ps (keep (eqb n 1) p q)) (e p (below_head c p ps b))
    ∙ noted_same c d d' ps _ (λ v k. omega (arith, b v k, occurs_cons v p ps)) e ∙ sym (noted_cons d p ps q)

-- so many of the cells are queued, and the rest of them makes the whole
pub record Noting (c : ℕ) (d₀ whole rest : List ℕ) (top : ℕ) (d : List ℕ) : Type 0 where
  pub size : length d ≡ length d₀
  pub whole_is : queued_by d₀ rest (stack c top d) ≡ whole
  pub degrees : (v : ℕ) → v < c → get_or d v 0 ≡ get_or d₀ v 0
  pub behind : (v : ℕ) → c + c ≤ v → get_or d v 0 ≡ get_or d₀ v 0

-- one cell more
pub noting_turn : (c : ℕ) (d₀ whole rest : List ℕ) (top : ℕ) (d : List ℕ) (p : ℕ) (ps : List ℕ) → rest ≡ p ∷ ps → p < c → Noting c d₀ whole rest top d
    → (d' : List ℕ) (r : ℕ) → length d' ≡ length d → Queued c (keep (eqb (get_or d p 0) 1) p (stack c top d)) r d d' → Noting c d₀ whole ps r d'
noting_turn c d₀ whole rest top d p ps e l N d' r s Q =
    record {
      size = s ∙ N.size;
      whole_is =
          ap (queued_by d₀ ps) (Q.waiting ∙ ap (λ (n : ℕ). keep (eqb n 1) p (stack c top d)) (N.degrees p l))
          ∙ sym (noted_cons d₀ p ps _) ∙ ap (λ (y : List ℕ). queued_by d₀ y (stack c top d)) (sym e) ∙ N.whole_is;
      degrees = λ v h. Q.degrees v h ∙ N.degrees v h;
      behind = λ v h. Q.behind v h ∙ N.behind v h;
    }

-- there is room for it
pub noting_room : (c : ℕ) (d₀ whole rest : List ℕ) (top : ℕ) (d : List ℕ) (p : ℕ) (ps : List ℕ) → rest ≡ p ∷ ps → p < c → Noting c d₀ whole rest top d
    → length whole ≤ c → get_or d p 0 ≡ 1 → top < c
noting_room c d₀ whole rest top d p ps e l N k one-there =
    let w : queued_by d₀ ps (p ∷ stack c top d) ≡ whole =
    ap (λ (b : Bool). queued_by d₀ ps (keep b p (stack c top d))) (sym (eq-eqb _ _ (sym (N.degrees p l) ∙ one-there))) ∙ sym (noted_cons d₀ p ps _)
    ∙ ap (λ (y : List ℕ). queued_by d₀ y (stack c top d)) (sym e) ∙ N.whole_is in
    omega (arith, noted_longer d₀ ps (p ∷ stack c top d), length_stack c top d, ap length w)

-- all of them
pub noting_end : (c : ℕ) (d₀ whole rest : List ℕ) (top : ℕ) (d : List ℕ) → rest ≡ [] → Noting c d₀ whole rest top d → Queued c whole top d₀ d
noting_end c d₀ whole rest top d e N =
    record {
      waiting = sym (noted_nil d₀ _) ∙ ap (λ (y : List ℕ). queued_by d₀ y (stack c top d)) (sym e) ∙ N.whole_is;
      degrees = N.degrees;
      behind = N.behind;
    }

-- ---- a hash added, a hash taken away

xors_cons : (h : ℕ) (hs : List ℕ) → xors (h ∷ hs) ≡ bit_xor h (xors hs)
unfolding xors
xors_cons h hs = refl

xors_nil : xors [] ≡ 0
unfolding xors
xors_nil = refl

pub xors_one : (h : ℕ) → xors (h ∷ []) ≡ h
xors_one h = xors_cons h [] ∙ ap (bit_xor h) xors_nil ∙ xor_zero_r h

module _ (pos : ℕ → List ℕ) where
  lying_on : (v h : ℕ) (hs : List ℕ) → among v (pos h) ≡ true → lying pos v (h ∷ hs) ≡ h ∷ lying pos v hs
  lying_on v h hs t = rw (lying_cons, t) refl

  lying_off : (v h : ℕ) (hs : List ℕ) → among v (pos h) ≡ false → lying pos v (h ∷ hs) ≡ lying pos v hs
  lying_off v h hs t = rw (lying_cons, t) refl

  xors_on : (v h : ℕ) (hs : List ℕ) → among v (pos h) ≡ true → xors (lying pos v (h ∷ hs)) ≡ bit_xor h (xors (lying pos v hs))
  xors_on v h hs t = ap xors (lying_on v h hs t) ∙ xors_cons h _

  xors_off : (v h : ℕ) (hs : List ℕ) → among v (pos h) ≡ false → xors (lying pos v (h ∷ hs)) ≡ xors (lying pos v hs)
  xors_off v h hs t = ap xors (lying_off v h hs t)

  -- taking a hash away and putting it back in front leaves the xor of a cell
  pub xors_without : (v h : ℕ) (hs : List ℕ) → 1 ≤ occurs h hs → xors (lying pos v (h ∷ without h hs)) ≡ xors (lying pos v hs)
  xors_without v h [] k = absurd (not-suc-le-zero (rw occurs_nil at k))
  xors_without v h (x ∷ hs) k =
      by_test (eqb h x)
      (λ e. rw (without_cons, e, eqb-true h x e) refl)
      (λ e.
      let k' : 1 ≤ occurs h hs = rw (occurs_other h x hs (eqb-false h x e)) at k in
      let i : xors (lying pos v (h ∷ without h hs)) ≡ xors (lying pos v hs) = xors_without v h hs k' in
      rw (without_cons, e)
      (by_test (among v (pos h))
      (λ a. by_test (among v (pos x))
      (λ b.
      xors_on v h _ a ∙ ap (bit_xor h) (xors_on v x _ b) ∙ xor_swap h x _ ∙ ap (bit_xor x) (sym (xors_on v h _ a) ∙ i) ∙ sym (xors_on v x hs b))
      (λ b. xors_on v h _ a ∙ ap (bit_xor h) (xors_off v x _ b) ∙ sym (xors_on v h _ a) ∙ i ∙ sym (xors_off v x hs b)))
      (λ a. by_test (among v (pos x))
      (λ b. xors_off v h _ a ∙ xors_on v x _ b ∙ ap (bit_xor x) (sym (xors_off v h _ a) ∙ i) ∙ sym (xors_on v x hs b))
      (λ b. xors_off v h _ a ∙ xors_off v x _ b ∙ sym (xors_off v h _ a) ∙ i ∙ sym (xors_off v x hs b)))))

  -- no hash: all zero
  pub tables_none : (c : ℕ) (d x : List ℕ) → c ≤ length d → c ≤ length x → ((v : ℕ) → v < c → get_or d v 0 ≡ 0) → ((v : ℕ) → v < c → get_or x v 0 ≡ 0)
      → Tables pos c [] d x
  tables_none c d x ld lx zd zx =
      record {
        degrees = ld;
        mixes = lx;
        degree_at = λ v h. zd v h ∙ sym (degree_nil pos v);
        xor_at_is = λ v h. zx v h ∙ sym (ap xors (lying_nil pos v) ∙ xors_nil);
      }

  -- the tables go by their first c places
  pub tables_same : (c : ℕ) (hs d x d' x' : List ℕ) → Tables pos c hs d x → length d' ≡ length d → length x' ≡ length x
      → ((v : ℕ) → v < c → get_or d' v 0 ≡ get_or d v 0) → ((v : ℕ) → v < c → get_or x' v 0 ≡ get_or x v 0) → Tables pos c hs d' x'
  tables_same c hs d x d' x' t ld lx ed ex =
      record {
        degrees = omega (arith, t.degrees);
        mixes = omega (arith, t.mixes);
        degree_at = λ v h. ed v h ∙ t.degree_at v h;
        xor_at_is = λ v h. ex v h ∙ t.xor_at_is v h;
      }

  pub degree_le : (v : ℕ) (hs : List ℕ) → degree pos v hs ≤ length hs
  degree_le v [] = omega (arith, degree_nil pos v)
  degree_le v (h ∷ hs) =
      by_test (among v (pos h)) (λ e. omega (arith, degree_cons pos v h hs, ap one e, degree_le v hs)) (λ e. omega (arith, degree_cons pos v h hs, ap one e, degree_le v hs))

  -- the cells of a hash change, and the tables with them
  tables_changed : (by c : ℕ) (hs ks d x : List ℕ) (h : ℕ) → Placed c pos h → Tables pos c hs d x
      → ((v : ℕ) → v < c → among v (pos h) ≡ true → (plus by (degree pos v hs) ≡ degree pos v ks) × (bit_xor h (xors (lying pos v hs)) ≡ xors (lying pos v ks)))
      → ((v : ℕ) → among v (pos h) ≡ false → (degree pos v hs ≡ degree pos v ks) × (xors (lying pos v hs) ≡ xors (lying pos v ks)))
      → Tables pos c ks (changed (plus by) (pos h) d) (changed (bit_xor h) (pos h) x)
  tables_changed by c hs ks d x h ok t on off =
      record {
        degrees = omega (arith, length_changed (plus by) (pos h) d, t.degrees);
        mixes = omega (arith, length_changed (bit_xor h) (pos h) x, t.mixes);
        degree_at = λ v l. by_test (among v (pos h))
            (λ a. changed_at (plus by) (pos h) d v (omega (arith, t.degrees)) (named v a) ∙ ap (plus by) (t.degree_at v l) ∙ (on v l a).0)
            (λ a. changed_other (plus by) (pos h) d v (unnamed v a) ∙ t.degree_at v l ∙ (off v a).0);
        xor_at_is = λ v l. by_test (among v (pos h))
            (λ a. changed_at (bit_xor h) (pos h) x v (omega (arith, t.mixes)) (named v a) ∙ ap (bit_xor h) (t.xor_at_is v l) ∙ (on v l a).1)
            (λ a. changed_other (bit_xor h) (pos h) x v (unnamed v a) ∙ t.xor_at_is v l ∙ (off v a).1);
      }
    where
      named : (v : ℕ) → among v (pos h) ≡ true → occurs v (pos h) ≡ 1
      named v a = omega (arith, among_once v (pos h) (ok.apart v), ap one a)

      unnamed : (v : ℕ) → among v (pos h) ≡ false → occurs v (pos h) ≡ 0
      unnamed v a = omega (arith, among_once v (pos h) (ok.apart v), ap one a)

  -- a hash added
  pub tables_add : (c : ℕ) (hs d x : List ℕ) (h : ℕ) → Placed c pos h → length hs + 1 < 2 ^ 32 → Tables pos c hs d x
      → Tables pos c (h ∷ hs) (changed (plus 1) (pos h) d) (changed (bit_xor h) (pos h) x)
  tables_add c hs d x h ok n t =
      tables_changed 1 c hs (h ∷ hs) d x h ok t
      (λ v l a. (omega (arith, degree_le v hs, degree_cons pos v h hs, ap one a), sym (xors_on v h hs a)))
      (λ v a. (omega (arith, degree_cons pos v h hs, ap one a), sym (xors_off v h hs a)))

  -- a hash taken away
  pub tables_remove : (c : ℕ) (hs d x : List ℕ) (h : ℕ) → Placed c pos h → 1 ≤ occurs h hs → ((v : ℕ) → v < c → get_or d v 0 < 2 ^ 32) → Tables pos c hs d x
      → Tables pos c (without h hs) (changed (plus 4294967295) (pos h) d) (changed (bit_xor h) (pos h) x)
  tables_remove c hs d x h ok k small t =
      tables_changed 4294967295 c hs (without h hs) d x h ok t
      (λ v l a. (
        omega (arith, t.degree_at v l, small v l, degree_without pos v h hs k, ap one a),
        xor_comm h _ ∙ ap (λ (y : ℕ). bit_xor y h) (sym (xors_without v h hs k) ∙ xors_on v h _ a ∙ xor_comm h _) ∙ xor_back _ h,
      ))
      (λ v a. (omega (arith, degree_without pos v h hs k, ap one a), sym (xors_without v h hs k) ∙ xors_off v h _ a))

  -- what is noted is what is queued
  pub noted_queued : (c : ℕ) (hs d x : List ℕ) → Tables pos c hs d x → (ps : List ℕ) → Below c ps → (q : List ℕ) → queued_by d ps q ≡ queued pos hs ps q
  noted_queued c hs d x t [] b q = noted_nil d q ∙ sym (queued_nil pos hs q)
  noted_queued c hs d x t (p ∷ ps) b q =
      noted_cons d p ps q ∙ ap (λ (n : ℕ). queued_by d ps (keep (eqb n 1) p q)) (t.degree_at p (below_head c p ps b))
      ∙ noted_queued c hs d x t ps (λ v k. omega (arith, b v k, occurs_cons v p ps)) _ ∙ sym (queued_cons pos hs p ps q)

-- ---- loading

-- the first c places of a list were cleared
pub cleared : (c : ℕ) (xs front : List ℕ) → front ≡ replicate (length (take c xs)) 0 → c ≤ length xs → (v : ℕ) → v < c → get_or (front ++ drop c xs) v 0 ≡ 0
cleared c xs front e l v h =
    let k = length-take-le c xs l in
    let n : v < length front = omega (arith, ap length e, length-replicate {A = ℕ} (length (take c xs)) 0) in
    get_or-append front (drop c xs) 0 v n ∙ ap (λ (z : List ℕ). get_or z v 0) e ∙ get_or-replicate (length (take c xs)) v 0 0 (omega arith)

-- one turn of loading: the hash before the i-th place is added
pub tables_load : (pos : ℕ → List ℕ) (c : ℕ) (hs d x d' x' ps : List ℕ) (h i : ℕ) → 0 < i → i ≤ length hs → h ≡ get_or hs (i - 1) 0 → ps ≡ pos h → Placed c pos h → length hs < 2 ^ 32
    → Tables pos c (drop i hs) d x → d' ≡ changed (plus 1) ps d → x' ≡ changed (bit_xor h) ps x → Tables pos c (drop (i - 1) hs) d' x'
tables_load pos c hs d x d' x' ps h zero l k eh ep ok n t ed ex = absurd (not-suc-le-zero l)
tables_load pos c hs d x d' x' ps h (suc i) l k eh ep ok n t ed ex =
    let e : suc i - 1 ≡ i = omega arith in
    let next : drop (suc i - 1) hs ≡ h ∷ drop (suc i) hs =
    ap (λ (n : ℕ). drop n hs) e ∙ drop-cons hs i 0 (omega arith) ∙ ap (λ (z : ℕ). z ∷ drop (suc i) hs) (sym (eh ∙ ap (λ (n : ℕ). get_or hs n 0) e)) in
    rw (next, ed, ex, ep) (tables_add pos c (drop (suc i) hs) d x h ok (omega (arith, length-drop (suc i) hs)) t)

-- ---- what comes next

pub rising_next : (p c : ℕ) → p < c → rising p (c - p) ≡ p ∷ rising (p + 1) (c - (p + 1))
rising_next p c h =
    let k : c - p ≡ suc (c - (p + 1)) = omega arith in
    rw (k, add-one p) (rising_cons p (c - suc p))

pub rising_over : (p c : ℕ) → c ≤ p → rising p (c - p) ≡ []
rising_over p c h = let k : c - p ≡ 0 = omega arith in rw k (rising_none p)

pub noting_ones : (c : ℕ) (d : List ℕ) → Noting c d (queued_by d (rising 0 c) []) (rising 0 (c - 0)) 0 d
noting_ones c d =
    record { size = refl; whole_is = rw (stack_none, sub-zero) refl; degrees = λ v h. refl; behind = λ v h. refl }
