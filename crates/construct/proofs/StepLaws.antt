-- Buckets placed one after another: what a step leads to, and the steps so far. Assumes nothing.
use Prim.Native.Nat.{ℕ, suc, ◌+◌, ◌-◌, ◌≤◌, ◌<◌}
use mathlib.Core.Path.{◌≡◌, refl, sym, ap, ◌∙◌, subst}
use mathlib.Core.List.{List}
use mathlib.Core.Option.{Option as Maybe, none, some, map}
use mathlib.Core.Logic.{◌⊎◌, inl, inr}
use Rattle.std.specs.Prelude.{Option, Some, None, MatchOption}
use Rattle.std.specs.List.{AllWithin, HoldsAt}
use Rattle.laws.proofs.Cases.{lt_or_ge}
use native.Mathlib.Nat.{zero-add}
use native.Mathlib.Numerals.{add-one}
use native.Mathlib.Omega.{arith}
use native.Mathlib.Decide.{ℕ_discrete}
use lib.ListN.{length, get_or, set, take, drop, length-drop}
use lib.Seq.{get_or-set_same, get_or-set_other, get_or-drop, take_all}
use Rattle.laws.specs.Steps.{least, steps}
use Rattle.laws.proofs.StepsLaws.{steps_more, steps_failed, least_at, least_of_none}
use Rattle.construct.specs.Construct.{direct, tries, group, size, seat, settle, Placing, pilot_noted, place_group, place_single, place_of, place_size, place_down}
use Rattle.construct.specs.Inner.Seating.{PilotSearched}
use Rattle.construct.specs.Inner.Layout.{held, FilledBelow, Lowest}
use Rattle.construct.proofs.Placed.{of_one}
use Rattle.construct.proofs.SlotsLaws.{settle_free, settle_taken}

-- so many steps, told in another way
pub steps_at : (f : ℕ → Placing → Maybe Placing) (pl : Placing) (o : Maybe Placing) (i j : ℕ) → i ≡ j → steps f j pl ≡ o → steps f i pl ≡ o
steps_at f pl o i j e s = ap (λ (x : ℕ). steps f x pl) e ∙ s

-- one step more, and one that fails
module _ (f : ℕ → Placing → Maybe Placing) (i : ℕ) (pl mid : Placing) (s : steps f i pl ≡ some mid) where
  pub step_more : (next : Placing) → f i mid ≡ some next → steps f (i + 1) pl ≡ some next
  step_more next g = ap (λ (x : ℕ). steps f x pl) (add-one i) ∙ steps_more f i pl mid s ∙ g

  pub step_fails : (m : ℕ) → i < m → f i mid ≡ none → steps f m pl ≡ none
  step_fails m l g = ap (λ (x : ℕ). steps f x pl) (omega arith) ∙ steps_failed f (suc i) pl (steps_more f i pl mid s ∙ g) (m - suc i)

-- the passes from size top down, with s the next size
module _ (hs : List ℕ) (top s : ℕ) (pl mid : Placing) (l : s ≤ top) (two : 1 < s) (f : steps (place_down hs top) (top - s) pl ≡ some mid) where
  this : place_down hs top (top - s) mid ≡ place_size hs s mid
  unfolding place_down
  this = ap (λ (x : ℕ). place_size hs x mid) (omega arith)

  pub down_more : (next : Placing) → place_size hs s mid ≡ some next → steps (place_down hs top) (top - (s - 1)) pl ≡ some next
  down_more next g = ap (λ (x : ℕ). steps (place_down hs top) x pl) (omega arith) ∙ step_more (place_down hs top) (top - s) pl mid f next (this ∙ g)

  pub down_fails : place_size hs s mid ≡ none → steps (place_down hs top) (top - 1) pl ≡ none
  down_fails g = step_fails (place_down hs top) (top - s) pl mid f (top - 1) (omega arith) (this ∙ g)

-- a search for the pilot of bucket k, over its members ms and the same hashes, that found one, and one that found none
module _ (hs hs' ms pilots slots slots' : List ℕ) (k : ℕ) (eh : hs' ≡ hs) (e : ms ≡ group hs k) where
  searched : (o : Maybe (ℕ × List ℕ)) → least (λ q. seat hs' ms q (length ms) slots) tries 0 ≡ o → least (λ q. seat hs (group hs k) q (size hs k) slots) tries 0 ≡ o
  unfolding size
  searched o f =
      subst (λ (x : List ℕ). least (λ q. seat hs x q (length x) slots) tries 0 ≡ o) e
      (subst (λ (x : List ℕ). least (λ q. seat x ms q (length ms) slots) tries 0 ≡ o) eh f)

  pub group_some : (p : ℕ) → PilotSearched hs' ms slots slots' (Some p) → place_group hs k (held pilots slots) ≡ some (held (set pilots k p) slots')
  unfolding place_group pilot_noted
  group_some p f =
      ap (map (pilot_noted k 0 (held pilots slots))) (searched (some (p, slots')) f.1)
      ∙ ap (λ (x : ℕ). some (held (set pilots k x) slots')) (zero-add p)

  pub group_none : PilotSearched hs' ms slots slots' None → place_group hs k (held pilots slots) ≡ none
  unfolding place_group
  group_none f = ap (map (pilot_noted k 0 (held pilots slots))) (searched none f.0)

-- bucket k has one member, the first of ms
module _ (hs ms pilots slots : List ℕ) (k : ℕ) (e : ms ≡ group hs k) (one : size hs k ≡ 1) (long : length slots ≡ length hs) where
  -- no slot is free
  pub single_none : Lowest slots None → place_of hs 1 k (held pilots slots) ≡ none
  unfolding place_single
  single_none t =
      of_one hs 1 k (held pilots slots) one refl
      ∙ ap (map (pilot_noted k direct (held pilots slots)))
      (least_of_none (λ at. settle at (get_or (group hs k) 0 0) slots) (length hs) (λ q z. settle_taken q (get_or (group hs k) 0 0) slots (t q (omega arith))))

  -- slot `at` is the lowest free one
  module _ (at : ℕ) (low : Lowest slots (Some at)) where
    pub single_some : place_of hs 1 k (held pilots slots) ≡ some (held (set pilots k (direct + at)) (set slots at (get_or ms 0 0 + 1)))
    unfolding place_single pilot_noted
    single_some =
        of_one hs 1 k (held pilots slots) one refl
        ∙ ap (map (pilot_noted k direct (held pilots slots)))
        (least_at (λ a. settle a m slots) (length hs) at (set slots at (suc m)) (omega (arith, low.0)) (λ q z. settle_taken q m slots (low.1 q z)) (settle_free at m slots low.2))
        ∙ ap (λ (x : ℕ). some (held (set pilots k (direct + at)) (set slots at x))) (sym (add-one m) ∙ ap (λ (x : List ℕ). get_or x 0 0 + 1) (sym e))
      where
        m : ℕ
        m = get_or (group hs k) 0 0

-- the lowest free slot taken, those below the next are taken
pub filled_more : (slots : List ℕ) (at m : ℕ) → Lowest slots (Some at) → FilledBelow (set slots at (m + 1)) (at + 1)
filled_more slots at m low x lx e = go (ℕ_discrete x at)
  where
    go : Dec (x ≡ at) → ⊥
    go (yes z) = omega (arith, e, ap (λ (y : ℕ). get_or (set slots at (m + 1)) y 0) z, get_or-set_same slots at (m + 1) 0 low.0)
    go (no z) = low.1 x (omega (arith, z)) (sym (get_or-set_other slots at x (m + 1) 0 z) ∙ e)

-- the slots below `from` are taken, and the others were looked at until a free one was met
module _ (slots : List ℕ) (from : ℕ) (F : (from ≤ length slots) × FilledBelow slots from) where
  taken_to : (i : ℕ) → from + i ≤ length slots → AllWithin (λ x. x ≡ 0 → ⊥) (drop from slots) 0 i → FilledBelow slots (from + i)
  taken_to i b g x l e = go (lt_or_ge x from)
    where
      go : (x < from) ⊎ (from ≤ x) → ⊥
      go (inl m) = F.1 x m e
      go (inr m) = g (x - from) 0 (omega arith) (omega arith) (get_or-drop from slots (x - from) 0 ∙ ap (λ (y : ℕ). get_or slots y 0) (omega arith) ∙ e)

  pub ahead : take (length slots - from) (drop from slots) ≡ drop from slots
  ahead = take_all (length slots - from) (drop from slots) (omega (arith, length-drop from slots))

  pub next_lowest : (r : Option ℕ) → MatchOption r (AllWithin (λ x. x ≡ 0 → ⊥) (drop from slots) 0 (length (drop from slots))) (λ i. (i < length (drop from slots)) × HoldsAt (λ x. x ≡ 0) (drop from slots) i × AllWithin (λ x. x ≡ 0 → ⊥) (drop from slots) 0 i)
      → MatchOption r (Lowest slots None) (λ i. Lowest slots (Some (from + i)))
  next_lowest None g = λ x l e. taken_to (length (drop from slots)) (omega (arith, F.0, length-drop from slots)) g x (omega (arith, F.0, length-drop from slots)) e
  next_lowest (Some i) g = (omega (arith, g.0, length-drop from slots), taken_to i (omega (arith, g.0, length-drop from slots)) g.2, sym (get_or-drop from slots i 0) ∙ g.1 0)
