-- The laws of loops as functions: steps that can fail, the least number that succeeds, tests, sums and the greatest value. Assumes nothing.
use Prim.Native.Nat.{ℕ, zero, suc, ◌+◌, ◌-◌, ◌≤◌, ◌<◌, max}
use mathlib.Core.Path.{◌≡◌, refl, sym, ap, ◌∙◌, subst}
use mathlib.Core.Bool.{Bool, true, false, ◌||◌, false≢true, or-true}
use mathlib.Core.Option.{Option, none, some, bind, bind-eq-some_iff, some-injective, some-ne-none, none-ne-some}
use native.Mathlib.Nat.{zero-add, suc-add, add-zero}
use native.Mathlib.Omega.{arith}
use native.Mathlib.Decide.{ℕ_discrete}
use native.Mathlib.Numerals.{add-one, lt_of_le_of_ne}
use Rattle.laws.specs.Steps.{steps, least, any_below, total, maximum}

module _ {S : Type 0} (f : ℕ → S → Option S) where
  pub steps_none : (s : S) → steps f zero s ≡ some s
  unfolding steps
  steps_none s = refl

  -- one step more
  pub steps_more : (n : ℕ) (s t : S) → steps f n s ≡ some t → steps f (suc n) s ≡ f n t
  unfolding steps bind
  steps_more n s t h = ap (λ (o : Option S). bind o (f n)) h

  -- a failure stays
  pub steps_failed : (n : ℕ) (s : S) → steps f n s ≡ none → (d : ℕ) → steps f (d + n) s ≡ none
  unfolding steps bind
  steps_failed n s h zero = ap (λ (k : ℕ). steps f k s) (zero-add n) ∙ h
  steps_failed n s h (suc d) = ap (λ (k : ℕ). steps f k s) (suc-add d n) ∙ ap (λ (o : Option S). bind o (f (d + n))) (steps_failed n s h d)

  -- what led to n + 1 steps: n steps, and one
  pub steps_last : (n : ℕ) (s u : S) → steps f (suc n) s ≡ some u → (t : S) × (steps f n s ≡ some t) × (f n t ≡ some u)
  unfolding steps
  steps_last n s u h = (bind-eq-some_iff (steps f n s) (f n)).0 h

  -- what failed steps failed at
  pub steps_why : (n : ℕ) (s : S) → steps f n s ≡ none → (i : ℕ) × (t : S) × (i < n) × (steps f i s ≡ some t) × (f i t ≡ none)
  unfolding steps
  steps_why zero s h = absurd (some-ne-none s h)
  steps_why (suc n) s h = go (steps f n s) refl (λ e. steps_why n s e)
    where
      Why : ℕ → Type 0
      Why m = (i : ℕ) × (t : S) × (i < m) × (steps f i s ≡ some t) × (f i t ≡ none)

      go : (o : Option S) → steps f n s ≡ o → (steps f n s ≡ none → Why n) → Why (suc n)
      go none e rest = ((rest e).0, (rest e).1, omega (arith, (rest e).2), (rest e).3, (rest e).4)
      go (some t) e rest = (n, t, omega arith, e, sym (steps_more n s t e) ∙ h)

  -- what holds at first and is kept by each step, holds at last
  pub steps_keep : (P : ℕ → S → Type 0) (s : S) → P zero s → (N : ℕ) → ((n : ℕ) → n < N → (t u : S) → P n t → f n t ≡ some u → P (suc n) u) → (n : ℕ) → n ≤ N → (u : S) → steps f n s ≡ some u → P n u
  unfolding steps
  steps_keep P s base N keep zero l u h = subst (P zero) (some-injective s u h) base
  steps_keep P s base N keep (suc n) l u h =
      let w = steps_last n s u h in
      keep n l w.0 u (steps_keep P s base N keep n (omega arith) w.0 w.1) w.2

module _ {A : Type 0} (try : ℕ → Option A) where
  pub least_nothing : (p : ℕ) → least try zero p ≡ none
  unfolding least
  least_nothing p = refl

  pub least_hit : (count p : ℕ) (a : A) → try p ≡ some a → least try (suc count) p ≡ some (p, a)
  unfolding least
  least_hit count p a h = rw (h, least)

  pub least_miss : (count p : ℕ) → try p ≡ none → least try (suc count) p ≡ least try count (suc p)
  unfolding least
  least_miss count p h = rw (h, least)

  -- k failures in a row are passed over
  pub least_skip : (k count p : ℕ) → ((q : ℕ) → q < k → try (p + q) ≡ none) → least try (k + count) p ≡ least try count (p + k)
  least_skip zero count p h = ap (λ (x : ℕ). least try x p) (zero-add count) ∙ ap (least try count) (sym (add-zero p))
  least_skip (suc k) count p h =
      ap (λ (x : ℕ). least try x p) (suc-add k count)
      ∙ least_miss (k + count) p (rw add-zero at (h 0 (omega arith)))
      ∙ least_skip k count (suc p) (λ q l. ap try (omega arith) ∙ h (suc q) (omega arith))
      ∙ ap (least try count) (omega arith)

  -- the first that succeeds is found; where all fail, none is
  pub least_at : (count p : ℕ) (a : A) → p < count → ((q : ℕ) → q < p → try q ≡ none) → try p ≡ some a → least try count 0 ≡ some (p, a)
  least_at count p a l failed h =
      ap (λ (x : ℕ). least try x 0) (omega arith)
      ∙ least_skip p (suc (count - suc p)) 0 (λ q z. ap try (zero-add q) ∙ failed q z)
      ∙ ap (least try (suc (count - suc p))) (zero-add p)
      ∙ least_hit (count - suc p) p a h

  pub least_of_none : (count : ℕ) → ((q : ℕ) → q < count → try q ≡ none) → least try count 0 ≡ none
  least_of_none count failed = ap (λ (x : ℕ). least try x 0) (sym (add-zero count)) ∙ least_skip count 0 0 (λ q z. ap try (zero-add q) ∙ failed q z) ∙ least_nothing (0 + count)

  -- the found one succeeds, and lies in the range
  pub least_found : (count p q : ℕ) (a : A) → least try count p ≡ some (q, a) → (try q ≡ some a) × (q < p + count)
  unfolding least
  least_found zero p q a h = absurd (none-ne-some (q, a) h)
  least_found (suc count) p q a h = go (try p) refl (λ e. least_found count (suc p) q a (sym (least_miss count p e) ∙ h))
    where
      go : (o : Option A) → try p ≡ o → (try p ≡ none → (try q ≡ some a) × (q < suc p + count)) → (try q ≡ some a) × (q < p + suc count)
      go none e rest = ((rest e).0, omega (arith, (rest e).1))
      go (some x) e rest =
          let z = some-injective (p, x) (q, a) (sym (least_hit count p x e) ∙ h) in
          let zq : p ≡ q = ap (λ (w : ℕ × A). w.0) z in
          let za : x ≡ a = ap (λ (w : ℕ × A). w.1) z in
          (ap try (sym zq) ∙ e ∙ ap some za, omega arith)

  -- where none is found, all fail
  pub least_none : (count p : ℕ) → least try count p ≡ none → (q : ℕ) → p ≤ q → q < p + count → try q ≡ none
  unfolding least
  least_none zero p h q l l' = absurd (omega arith)
  least_none (suc count) p h q l l' = go (try p) refl (ℕ_discrete p q) (λ e lt. least_none count (suc p) (sym (least_miss count p e) ∙ h) q lt (omega arith))
    where
      go : (o : Option A) → try p ≡ o → Dec (p ≡ q) → (try p ≡ none → p < q → try q ≡ none) → try q ≡ none
      go (some x) e d rest = absurd (some-ne-none (p, x) (sym (least_hit count p x e) ∙ h))
      go none e (yes w) rest = ap try (sym w) ∙ e
      go none e (no w) rest = rest e (lt_of_le_of_ne l w)

  -- all before the found one fail
  pub least_before : (count p q : ℕ) (a : A) → least try count p ≡ some (q, a) → (r : ℕ) → p ≤ r → r < q → try r ≡ none
  unfolding least
  least_before zero p q a h r l l' = absurd (none-ne-some (q, a) h)
  least_before (suc count) p q a h r l l' = go (try p) refl (ℕ_discrete p r) (λ e lt. least_before count (suc p) q a (sym (least_miss count p e) ∙ h) r lt l')
    where
      go : (o : Option A) → try p ≡ o → Dec (p ≡ r) → (try p ≡ none → p < r → try r ≡ none) → try r ≡ none
      go (some x) e d rest =
          let z : p ≡ q = ap (λ (w : ℕ × A). w.0) (some-injective (p, x) (q, a) (sym (least_hit count p x e) ∙ h)) in
          absurd (omega arith)
      go none e (yes w) rest = ap try (sym w) ∙ e
      go none e (no w) rest = rest e (lt_of_le_of_ne l w)

-- tests
module _ (test : ℕ → Bool) where
  pub any_more : (n : ℕ) → any_below test n ≡ false → any_below test (suc n) ≡ test n
  unfolding any_below
  any_more n h = ap (λ (x : Bool). x || test n) h

  pub any_none : any_below test 0 ≡ false
  unfolding any_below
  any_none = refl

  -- a number that passes, wherever it is, and the one that did
  pub any_some : (i n : ℕ) → i < n → test i ≡ true → any_below test n ≡ true
  unfolding any_below
  any_some i zero l h = absurd (omega arith)
  any_some i (suc n) l h = go (ℕ_discrete i n) (λ lt. any_some i n lt h)
    where
      go : Dec (i ≡ n) → (i < n → any_below test n ≡ true) → (any_below test n || test n) ≡ true
      go (yes e) rest = ap (λ (x : Bool). any_below test n || x) (ap test (sym e) ∙ h) ∙ or-true (any_below test n)
      go (no e) rest = ap (λ (x : Bool). x || test n) (rest (lt_of_le_of_ne (omega arith) e))

  pub any_why : (n : ℕ) → any_below test n ≡ true → (i : ℕ) × (i < n) × (test i ≡ true)
  unfolding any_below
  any_why zero h = absurd (false≢true h)
  any_why (suc n) h = go (any_below test n) refl (λ e. any_why n e) h
    where
      go : (b : Bool) → any_below test n ≡ b → (any_below test n ≡ true → (i : ℕ) × (i < n) × (test i ≡ true)) → (b || test n) ≡ true → (i : ℕ) × (i < suc n) × (test i ≡ true)
      go true e rest z = ((rest e).0, omega (arith, (rest e).1), (rest e).2)
      go false e rest z = (n, omega arith, z)

  -- where none passes, each fails, and back
  pub any_false : (n i : ℕ) → any_below test n ≡ false → i < n → test i ≡ false
  any_false n i h l = go (test i) refl
    where
      go : (b : Bool) → test i ≡ b → b ≡ false
      go true e = absurd (false≢true (sym h ∙ any_some i n l e))
      go false e = refl

  pub none_passes : (n : ℕ) → ((i : ℕ) → i < n → test i ≡ false) → any_below test n ≡ false
  none_passes n h = go (any_below test n) refl
    where
      go : (b : Bool) → any_below test n ≡ b → b ≡ false
      go true e = let w = any_why n e in absurd (false≢true (sym (h w.0 w.1) ∙ w.2))
      go false e = refl

  pub any_miss : (i : ℕ) → test i ≡ false → any_below test i ≡ false → any_below test (i + 1) ≡ false
  any_miss i h w = ap (any_below test) (add-one i) ∙ any_more i w ∙ h

-- sums
module _ (f g : ℕ → ℕ) where
  -- equal terms, equal sums
  pub total_same : (n : ℕ) → ((i : ℕ) → i < n → f i ≡ g i) → total f n ≡ total g n
  unfolding total
  total_same zero h = refl
  total_same (suc n) h = omega (arith, total_same n (λ i l. h i (omega arith)), h n (omega arith))

  -- terms that are no more, and a sum that is no more
  pub total_mono : (n : ℕ) → ((i : ℕ) → i < n → f i ≤ g i) → total f n ≤ total g n
  unfolding total
  total_mono zero h = omega arith
  total_mono (suc n) h = omega (arith, total_mono n (λ i l. h i (omega arith)), h n (omega arith))

  -- one term is d more, and the sum is
  pub total_bump : (n k d : ℕ) → k < n → g k ≡ f k + d → ((i : ℕ) → (i ≡ k → ⊥) → g i ≡ f i) → total g n ≡ total f n + d
  unfolding total
  total_bump zero k d l e h = absurd (omega arith)
  total_bump (suc n) k d l e h = go (ℕ_discrete k n) (λ lt. total_bump n k d lt e h)
    where
      below : (m : ℕ) → m ≤ k → total g m ≡ total f m
      below zero z = refl
      below (suc m) z = omega (arith, below m (omega arith), h m (λ w. omega arith))

      go : Dec (k ≡ n) → (k < n → total g n ≡ total f n + d) → total g n + g n ≡ total f n + f n + d
      go (yes w) rest = omega (arith, below n (omega arith), ap f w, ap g w)
      go (no w) rest = omega (arith, rest (lt_of_le_of_ne (omega arith) w), h n (λ z. w (sym z)))

pub total_zero : (f : ℕ → ℕ) (n : ℕ) → ((i : ℕ) → i < n → f i ≡ 0) → total f n ≡ 0
unfolding total
total_zero f zero h = refl
total_zero f (suc n) h = omega (arith, total_zero f n (λ i l. h i (omega arith)), h n (omega arith))

-- sums rise
pub total_rises : (f : ℕ → ℕ) (k n : ℕ) → k < n → total f k + f k ≤ total f n
unfolding total
total_rises f k zero l = absurd (omega arith)
total_rises f k (suc n) l = go (ℕ_discrete k n) (λ lt. total_rises f k n lt)
  where
    go : Dec (k ≡ n) → (k < n → total f k + f k ≤ total f n) → total f k + f k ≤ total f n + f n
    go (yes w) rest = omega (arith, ap (total f) w, ap f w)
    go (no w) rest = omega (arith, rest (lt_of_le_of_ne (omega arith) w))

pub maximum_more : (f : ℕ → ℕ) (n : ℕ) → maximum f (n + 1) ≡ max (maximum f n) (f n)
unfolding maximum
maximum_more f n = ap (maximum f) (add-one n)

pub maximum_none : (f : ℕ → ℕ) → maximum f 0 ≡ 0
unfolding maximum
maximum_none f = refl

pub maximum_above : (f : ℕ → ℕ) (n k : ℕ) → k < n → f k ≤ maximum f n
unfolding maximum
maximum_above f zero k l = absurd (omega arith)
maximum_above f (suc n) k l = go (ℕ_discrete k n) (λ lt. maximum_above f n k lt)
  where
    go : Dec (k ≡ n) → (k < n → f k ≤ maximum f n) → f k ≤ max (maximum f n) (f n)
    go (yes w) rest = omega (arith, ap f w)
    go (no w) rest = omega (arith, rest (lt_of_le_of_ne (omega arith) w))
