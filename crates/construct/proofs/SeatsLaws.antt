-- Seating one member after another: one more, one that cannot be, and one taken off again. Assumes nothing.
use Prim.Native.Nat.{ℕ, suc, ◌+◌, ◌-◌, ◌≤◌, ◌<◌}
use mathlib.Core.Path.{◌≡◌, sym, ap, ◌∙◌}
use mathlib.Core.List.{List}
use mathlib.Core.Bool.{Bool, true, false, false≢true}
use mathlib.Core.Option.{none, some, some-injective}
use Rattle.std.specs.Prelude.{Some, None}
use native.Mathlib.Numerals.{add-one, lt_of_le_of_ne}
use native.Mathlib.Omega.{arith}
use lib.ListN.{length, get_or, set}
use lib.Seq.{set-set, set-get_or}
use Rattle.laws.proofs.StepsLaws.{steps_none, steps_more, steps_failed, steps_last, least_at, least_of_none}
use Rattle.construct.specs.Construct.{tries, settle, spot, seat}
use Rattle.construct.specs.Inner.Seating.{SeatedTo, SeatTried, PilotSearched}
use Rattle.construct.proofs.SlotsLaws.{settle_free, settle_taken, settle_some}

module _ (hs ms : List ℕ) (p : ℕ) where
  pub seat_none : (s : List ℕ) → seat hs ms p 0 s ≡ some s
  unfolding seat
  seat_none s = steps_none (λ i. settle (spot hs ms p i) (get_or ms i 0)) s

  -- member j finds its slot `at` free
  pub seat_more : (j at : ℕ) (s t : List ℕ) → at ≡ spot hs ms p j → seat hs ms p j s ≡ some t → get_or t at 0 ≡ 0 → seat hs ms p (j + 1) s ≡ some (set t at (get_or ms j 0 + 1))
  unfolding seat
  seat_more j at s t w h e =
      ap (λ (x : ℕ). seat hs ms p x s) (add-one j)
      ∙ steps_more (λ i. settle (spot hs ms p i) (get_or ms i 0)) j s t h
      ∙ ap (λ (x : ℕ). settle x (get_or ms j 0) t) (sym w)
      ∙ settle_free at (get_or ms j 0) t e
      ∙ ap (λ (x : ℕ). some (set t at x)) (sym (add-one (get_or ms j 0)))

  -- member j finds its slot taken
  pub seat_stuck : (j at : ℕ) (s t : List ℕ) → at ≡ spot hs ms p j → seat hs ms p j s ≡ some t → (get_or t at 0 ≡ 0 → ⊥) → seat hs ms p (suc j) s ≡ none
  unfolding seat
  seat_stuck j at s t w h e = steps_more (λ i. settle (spot hs ms p i) (get_or ms i 0)) j s t h ∙ ap (λ (x : ℕ). settle x (get_or ms j 0) t) (sym w) ∙ settle_taken at (get_or ms j 0) t e

  -- then all of them cannot be seated
  pub seat_fails : (j n : ℕ) (s : List ℕ) → seat hs ms p (suc j) s ≡ none → j < n → seat hs ms p n s ≡ none
  unfolding seat
  seat_fails j n s h l = ap (λ (x : ℕ). seat hs ms p x s) (omega arith) ∙ steps_failed (λ i. settle (spot hs ms p i) (get_or ms i 0)) (suc j) s h (n - suc j)

  -- the last of them taken off its slot
  pub seat_back : (j at : ℕ) (s t : List ℕ) → 0 < j → at ≡ spot hs ms p (j - 1) → seat hs ms p j s ≡ some t → seat hs ms p (j - 1) s ≡ some (set t at 0)
  unfolding seat
  seat_back j at s t l e h =
      let i = j - 1 in
      let w = steps_last (λ i. settle (spot hs ms p i) (get_or ms i 0)) i s t (ap (λ (x : ℕ). seat hs ms p x s) (omega arith) ∙ h) in
      let r = settle_some (spot hs ms p i) (get_or ms i 0) w.0 t w.2 in
      w.1 ∙ ap some (sym (ap (λ (x : ℕ). set t x 0) e ∙ ap (λ (x : List ℕ). set x (spot hs ms p i) 0) (sym r.1) ∙ set-set w.0 (spot hs ms p i) (suc (get_or ms i 0)) 0 ∙ ap (λ (x : ℕ). set w.0 (spot hs ms p i) x) (sym r.0) ∙ set-get_or w.0 (spot hs ms p i) 0))

  -- none of them left
  pub seat_off : (j : ℕ) (s t : List ℕ) → j ≤ 0 → seat hs ms p j s ≡ some t → t ≡ s
  seat_off j s t l h = some-injective t s (sym h ∙ ap (λ (x : ℕ). seat hs ms p x s) (omega arith) ∙ seat_none s)

  -- what a run of seating answers where not all sit: they cannot
  pub sat_few : (r : ℕ) (s t : List ℕ) → SeatedTo hs ms p s t r → (r ≡ length ms → ⊥) → seat hs ms p (length ms) s ≡ none
  sat_few r s t w e =
      let l : r < length ms = lt_of_le_of_ne w.most e in
      seat_fails r (length ms) s (w.stuck l) l

-- what a try answers, of slots s that are s₀
pub tried_yes : (hs ms : List ℕ) (p : ℕ) (s₀ s t : List ℕ) (r : Bool) → s ≡ s₀ → SeatTried (seat hs ms p (length ms) s) s t r → r ≡ true → seat hs ms p (length ms) s₀ ≡ some t
tried_yes hs ms p s₀ s t true w h e = ap (seat hs ms p (length ms)) (sym w) ∙ h
tried_yes hs ms p s₀ s t false w h e = absurd (false≢true e)

-- the least pilot found, after those that failed; and none found
module _ (hs ms s : List ℕ) (p : ℕ) (failed : (q : ℕ) → q < p → seat hs ms q (length ms) s ≡ none) where
  pub search_hit : (t : List ℕ) → p < tries → seat hs ms p (length ms) s ≡ some t → PilotSearched hs ms s t (Some p)
  search_hit t l h = (l, least_at (λ q. seat hs ms q (length ms) s) tries p t l failed h)

  pub search_miss : (t : List ℕ) → t ≡ s → tries ≤ p → PilotSearched hs ms s t None
  search_miss t w e = (least_of_none (λ q. seat hs ms q (length ms) s) tries (λ q l. failed q (omega arith)), w)
