-- Laws of building: the checks, the plan, the attempts, the closing check and the bytes, as the code goes through them. Assumes nothing.
use mathlib.Core.Path.{◌≡◌, refl, sym, ap, ◌∙◌, subst}
use mathlib.Core.Bool.{Bool, true, false, cond, false≢true}
use mathlib.Core.Logic.{inl, inr}
use mathlib.Core.List.{List}
use mathlib.Core.Option.{Option as Maybe, none, some, some-injective, some-ne-none, none-ne-some}
use Prim.Native.Nat.{ℕ, ◌+◌, ◌-◌, ◌^◌, ◌≤◌, ◌<◌}
use native.Mathlib.Omega.{arith}
use lib.ListN.{length, take, drop, replicate}
use borrow.Author.Tests.{ltb-false}
use borrow.Rule.Slice.PartMut.{put_mid, put_same, mid_len}
use Rattle.std.specs.Prelude.{Option, None, Some, Result, Ok, Err}
use Rattle.numbers.specs.declared.Refusal.{Refusal}
use Rattle.numbers.specs.Numbers.{number, answered}
use Rattle.numbers.proofs.NumberLaws.{answered_refusal}
use Rattle.laws.specs.Refusals.{None as Passing, none_here, none_more, Numbered, numbered_none, numbered_more}
use Rattle.laws.proofs.RefusalLaws.{none_only}
use Rattle.laws.proofs.StepsLaws.{least_at, least_of_none, least_found, least_none, least_before}
use Rattle.laws.proofs.Cases.{eq_or_ne}
use Rattle.words.specs.Field.{splice}
use Rattle.words.proofs.PartLaws.{splice_before, splice_back}
use Rattle.mixing.specs.Mixing.{mix_of}
use Rattle.fuse.specs.declared.Sizes.{Sizes}
use Rattle.fuse.specs.Positions.{cells_in, Usable}
use Rattle.fuse.specs.Asking.{contains_of}
use Rattle.fuse.specs.Layout.{fuse_header}
use Rattle.fuse.proofs.HeaderLaws.{header_length}
use Rattle.sizing.specs.declared.Plan.{Plan}
use Rattle.sizing.specs.declared.Plan.TheVariants as plan
use Rattle.sizing.specs.Sizing.{sizes_of, plan_of}
use Rattle.sizing.proofs.SizedLaws.{plan_zero, plan_least, plan_sizes, plan_usable, plan_some}
use Rattle.sort.specs.Sort.{sorted}
use Rattle.sort.specs.Twins.{repeats_next}
use Rattle.sort.proofs.SortLaws.{length_sorted}
use Rattle.peel.specs.Peel.{succeeds, cells_laid, AttemptPost}
use Rattle.peel.proofs.AttemptLaws.{check_never_fails, cells_length}
use Rattle.filter.specs.declared.Built.{Built}
use Rattle.filter.specs.declared.Built.TheVariants.{Positive, Fuse}
use Rattle.filter.specs.Building.{cells_for, build_causes, build_refusal, peels_by, seed_by, first_attempt, seeded, by_attempt, by_plan, built_of, build_of, out_by, hashes_by, space_by, BuildPost}
use Rattle.filter.specs.Inner.Building.{Roomy, attempt_number, cells_by, Spaced, SearchPost, CellsPost, Missing, made_by, MakePost, LayPost}

-- ---- the plan

pub cells_none : (n : ℕ) → plan_of n ≡ plan.Positive → 0 ≡ cells_for n
unfolding cells_for
cells_none n e = rw e

pub plan_cells_lem : (n : ℕ) (s : Sizes) → plan_of n ≡ plan.Fuse s → cells_in s.segment s.count ≡ cells_for n
unfolding cells_for
plan_cells_lem n s e = rw e

-- the cells for n hashes are counted in 32 bits
pub cells_few : (n : ℕ) → n < 2 ^ 64 → cells_for n < 2 ^ 32
cells_few n l = go (plan_of n) refl
  where
    go : (p : Plan) → plan_of n ≡ p → cells_for n < 2 ^ 32
    go plan.Positive e = omega (arith, cells_none n e)
    go (plan.Fuse s) e = omega (arith, plan_cells_lem n s e, (plan_usable n s e l).small)

-- ---- the checks

module _ (n wide narrow out : ℕ) where
  pub build_numbered : Numbered (build_causes n wide narrow out)
  build_numbered =
      let a : 0 < 12 = omega arith in
      let b : 0 < 9 = omega arith in
      let d : 0 < 6 = omega arith in
      numbered_more a (numbered_more b (numbered_more b (numbered_more d numbered_none)))

  all_pass : Passing (build_causes n wide narrow out) → Roomy n wide narrow out
  all_pass (none_more a (none_more b (none_more c (none_more d none_here)))) =
      record { few = ltb-false _ _ a; wide_room = ltb-false _ _ b; narrow_room = ltb-false _ _ c; out_room = ltb-false _ _ d }

  -- past the checks the lengths are enough
  pub roomy : build_refusal n wide narrow out ≡ 0 → Roomy n wide narrow out
  unfolding build_refusal
  roomy e = all_pass (none_only build_numbered e)

-- ---- the attempts

seed_split : (b : Bool) (x a : ℕ) → cond b (some x) none ≡ some a → (b ≡ true) × (x ≡ a)
seed_split true x a e = (refl, some-injective x a e)
seed_split false x a e = absurd (none-ne-some a e)

seed_fails : (b : Bool) (x : ℕ) → cond b (some x) none ≡ none → b ≡ false
seed_fails true x e = absurd (some-ne-none x e)
seed_fails false x e = refl

module _ (s : Sizes) (hs : List ℕ) where
  seed_by_lem : (i : ℕ) (b : Bool) → peels_by s hs (i + 1) ≡ b → seed_by s hs i ≡ cond b (some (mix_of (i + 1))) none
  seed_by_lem i b t = ap (λ (x : Bool). cond x (some (mix_of (i + 1))) none) t

  -- the attempts before attempt i failed
  abbrev pub Searching : ℕ → Type 0
  Searching i = (j : ℕ) → 1 ≤ j → j < i → peels_by s hs j ≡ false

  failed : (i : ℕ) → Searching i → (q : ℕ) → q + 1 < i → seed_by s hs q ≡ none
  failed i S q l = seed_by_lem q false (S (q + 1) (omega arith) l)

  module _ (i : ℕ) (S : Searching i) where
    pub searching_hit : 1 ≤ i → i ≤ 100 → peels_by s hs i ≡ true → first_attempt s hs ≡ some (i - 1, mix_of i)
    unfolding first_attempt
    searching_hit k l t =
        let e : i - 1 + 1 ≡ i = omega arith in
        least_at (seed_by s hs) 100 (i - 1) (mix_of i) (omega arith) (λ q m. failed i S q (omega arith))
        (seed_by_lem (i - 1) true (ap (peels_by s hs) e ∙ t) ∙ ap (λ (x : ℕ). some (mix_of x)) e)

    pub searching_miss : peels_by s hs i ≡ false → Searching (i + 1)
    searching_miss t j k m = elim (eq_or_ne j i) [ inl e ↦ ap (peels_by s hs) e ∙ t | inr d ↦ S j k (omega arith) ]

  -- none of the attempts 1 to 100 peels every hash
  abbrev pub NonePeels : Type 0
  NonePeels = (i : ℕ) → 1 ≤ i → i ≤ 100 → peels_by s hs i ≡ false

  pub attempt_none : NonePeels → first_attempt s hs ≡ none
  unfolding first_attempt
  attempt_none n = least_of_none (seed_by s hs) 100 (λ q l. seed_by_lem q false (n (q + 1) (omega arith) (omega arith)))

  pub none_attempt : first_attempt s hs ≡ none → NonePeels
  unfolding first_attempt
  none_attempt e i l m =
      let k : i - 1 + 1 ≡ i = omega arith in
      ap (peels_by s hs) (sym k) ∙ seed_fails _ _ (least_none (seed_by s hs) 100 0 e (i - 1) (omega arith) (omega arith))

  -- the attempt found is the first that peels every hash
  pub record FirstPeel (i seed : ℕ) : Type 0 where
    pub below : i < 100
    pub peels : peels_by s hs (i + 1) ≡ true
    pub seed_mixed : mix_of (i + 1) ≡ seed
    pub first : (j : ℕ) → 1 ≤ j → j < i + 1 → peels_by s hs j ≡ false

  pub attempt_some : (i seed : ℕ) → first_attempt s hs ≡ some (i, seed) → FirstPeel i seed
  unfolding first_attempt
  attempt_some i seed e =
      let f = least_found (seed_by s hs) 100 0 i seed e in
      let p = seed_split _ _ _ f.0 in
      record {
        below = omega (arith, f.1);
        peels = p.0;
        seed_mixed = p.1;
        first = λ j l m.
            let k : j - 1 + 1 ≡ j = omega arith in
            ap (peels_by s hs) (sym k) ∙ seed_fails _ _ (least_before (seed_by s hs) 100 0 i seed e (j - 1) (omega arith) (omega arith));
      }

module _ (s : Sizes) (hs before after : List ℕ) (seed i : ℕ) (r : Bool) (T : AttemptPost s.segment s.count seed hs before after r) (e : seed ≡ mix_of i) where
  tried_peels : r ≡ peels_by s hs i
  tried_peels = T.answer ∙ ap (λ (x : ℕ). succeeds s.segment s.count x hs) e

  pub tried_hit : Searching s hs i → 1 ≤ i → i ≤ 100 → r ≡ true → (cells : List ℕ) → SearchPost s hs cells after (Some i)
  tried_hit S k l t cells =
      let h = searching_hit s hs i S k l (sym tried_peels ∙ t) in
      let n : i ≡ i - 1 + 1 = omega arith in
      record {
        first = ap Some n ∙ ap attempt_number (sym h);
        cells =
            T.cells ∙ ap (λ (b : Bool). cond b (cells_laid s.segment s.count seed hs) before) (sym T.answer ∙ t)
            ∙ ap (λ (x : ℕ). cells_laid s.segment s.count x hs) e
            ∙ ap (λ (o : Maybe (ℕ × ℕ)). cells_by (by_attempt s o) hs cells) (sym h);
      }

  pub tried_miss : Searching s hs i → r ≡ false → Searching s hs (i + 1) × (after ≡ before)
  tried_miss S f = (
    searching_miss s hs i S (sym tried_peels ∙ f),
    T.cells ∙ ap (λ (b : Bool). cond b (cells_laid s.segment s.count seed hs) before) (sym T.answer ∙ f),
  )

-- ---- built over the cells

-- all attempts failed
pub tried_none : (s : Sizes) (hs before after : List ℕ) (i : ℕ) → Searching s hs i → 100 < i → after ≡ before → SearchPost s hs before after None
tried_none s hs before after i S l e =
    let n = attempt_none s hs (λ j k m. S j k (omega arith)) in
    record { first = ap attempt_number (sym n); cells = e ∙ ap (λ (o : Maybe (ℕ × ℕ)). cells_by (by_attempt s o) hs before) (sym n) }

-- the attempt found gives its seed
module _ (s : Sizes) (hs before after : List ℕ) (r : Option ℕ) (S : SearchPost s hs before after r) (i : ℕ) (is : r ≡ Some i) (seed : ℕ) (e : seed ≡ mix_of i) where
  found : (j : ℕ) × (first_attempt s hs ≡ some (j, seed)) × (peels_by s hs i ≡ true)
  found = go (first_attempt s hs) refl
    where
      go : (o : Maybe (ℕ × ℕ)) → first_attempt s hs ≡ o → (j : ℕ) × (first_attempt s hs ≡ some (j, seed)) × (peels_by s hs i ≡ true)
      go none q = let z : Some i ≡ None = sym is ∙ S.first ∙ ap attempt_number q in cc
      go (some (j, a)) q =
          let F = attempt_some s hs j a q in
          let z : Some i ≡ Some (j + 1) = sym is ∙ S.first ∙ ap attempt_number q in
          let k : i ≡ j + 1 = cc in
          (j, q ∙ ap (λ (x : ℕ). some (j, x)) (sym F.seed_mixed ∙ ap mix_of (sym k) ∙ sym e), ap (peels_by s hs) k ∙ F.peels)

  cells_are : after ≡ cells_laid s.segment s.count seed hs
  cells_are = S.cells ∙ ap (λ (o : Maybe (ℕ × ℕ)). cells_by (by_attempt s o) hs before) found.1

  pub construct_some : CellsPost s hs before after (Fuse (seeded s seed))
  construct_some = record { answer = ap (by_attempt s) (sym found.1); cells = cells_are }

  -- the closing check never fails
  pub construct_check : Usable s.segment s.count → Missing after (seeded s seed) hs → ⊥
  construct_check u m =
      let t : succeeds s.segment s.count seed hs ≡ true =
      ap (λ (x : ℕ). succeeds s.segment s.count x hs) e ∙ found.2 in
      let y : contains_of after (seeded s seed) m.hash ≡ true =
      ap (λ (c : List ℕ). contains_of c (seeded s seed) m.hash) cells_are ∙ check_never_fails (seeded s seed) u hs t m.hash m.given in
      false≢true (sym m.absent ∙ y)

-- ---- the output

pub made_part : (b : Built) (hs out cells : List ℕ) (k : ℕ) → length cells ≡ k → cells ≡ cells_by b hs (take k (drop 48 out))
    → put_mid 48 k out cells ≡ made_by b hs out
made_part Positive hs out cells k l e = ap (put_mid 48 k out) e ∙ put_same 48 k out
made_part (Fuse s) hs out cells k l e = splice_back 48 k out cells l ∙ ap (splice out 48) e

pub made_some : (hs out : List ℕ) (s : Sizes) → plan_of (length hs) ≡ plan.Fuse s → repeats_next hs ≡ false → (c : ℕ) → c ≡ cells_for (length hs)
    → (cells : List ℕ) (r : Built) → length cells ≡ length (take (48 + c - 48) (drop 48 out)) → 48 + cells_for (length hs) ≤ length out
    → CellsPost s hs (take (48 + c - 48) (drop 48 out)) cells r → MakePost hs out (put_mid 48 (48 + c - 48) out cells) r
unfolding by_plan
made_some hs out s e f c ec cells r l room C = record {
  answer =
      C.answer ∙ sym (ap (λ (b : Bool). cond b Positive (by_attempt s (first_attempt s hs))) f)
      ∙ ap (λ (p : Plan). by_plan p hs) (sym e);
  output = made_part r hs out cells (48 + c - 48) (l ∙ mid_len 48 (48 + c) out (omega arith)) C.cells;
}

-- the attempts work on the part of the output where the cells go
pub make_spaced : (n : ℕ) (s : Sizes) → plan_of n ≡ plan.Fuse s → (wide narrow c : ℕ) (out : List ℕ) → c ≡ cells_for n → Roomy n wide narrow (length out)
    → n < 2 ^ 64 → Spaced s n wide narrow (length (take (48 + c - 48) (drop 48 out)))
make_spaced n s e wide narrow c out ec R l =
    let m : length (take (48 + c - 48) (drop 48 out)) ≡ 48 + c - 48 = mid_len 48 (48 + c) out (omega (arith, R.out_room)) in
    let k = plan_cells_lem n s e in
    record {
      fits = record { usable = plan_usable n s e l; whole = omega arith };
      few = omega (arith, R.few);
      wide_room = omega (arith, R.wide_room);
      narrow_room = omega (arith, R.narrow_room);
    }

-- ---- what is built, by the way it goes

-- of n hashes: there are none, two are equal, or the attempts decide
pub data Way (n : ℕ) (hs : List ℕ) : Built → Type 0 where
  empty : n ≡ 0 → Way n hs Positive
  double : repeats_next hs ≡ true → Way n hs Positive
  tried : 1 ≤ n → repeats_next hs ≡ false → Way n hs (by_attempt (sizes_of n) (first_attempt (sizes_of n) hs))

pub way : (n : ℕ) (hs : List ℕ) → Way n hs (by_plan (plan_of n) hs)
unfolding by_plan
way n hs = go (plan_of n) refl
  where
    by_twins : (b : Bool) → repeats_next hs ≡ b → 1 ≤ n → Way n hs (cond b Positive (by_attempt (sizes_of n) (first_attempt (sizes_of n) hs)))
    by_twins true t l = double t
    by_twins false t l = tried l t

    go : (p : Plan) → plan_of n ≡ p → Way n hs (by_plan p hs)
    go plan.Positive e = empty (plan_zero n e)
    go (plan.Fuse s) e =
        subst (λ (x : Sizes). Way n hs (cond (repeats_next hs) Positive (by_attempt x (first_attempt x hs)))) (plan_sizes n s e) (by_twins (repeats_next hs) refl (plan_least n s e))

-- and a filter has the sizes of the plan
sizes_of_lem : (n : ℕ) (hs : List ℕ) (b : Built) → Way n hs b → (f : Sizes) → b ≡ Fuse f → n < 2 ^ 64
    → Usable f.segment f.count × (cells_in f.segment f.count ≡ cells_for n)
unfolding sizes_of
sizes_of_lem n hs b (empty z) f e l = cc
sizes_of_lem n hs b (double t) f e l = cc
sizes_of_lem n hs b (tried k t) f e l = go (first_attempt (sizes_of n) hs) e
  where
    p : plan_of n ≡ plan.Fuse (sizes_of n)
    p = sym (plan_some n (sizes_of n).segment (sizes_of n).count (λ z. omega arith) refl refl)

    go : (o : Maybe (ℕ × ℕ)) → by_attempt (sizes_of n) o ≡ Fuse f → Usable f.segment f.count × (cells_in f.segment f.count ≡ cells_for n)
    go none q = cc
    go (some (i, a)) q =
        let r : seeded (sizes_of n) a ≡ f = cc in
        subst (λ (x : Sizes). Usable x.segment x.count × (cells_in x.segment x.count ≡ cells_for n)) r (plan_usable n (sizes_of n) p l, plan_cells_lem n (sizes_of n) p)

module _ (hs out mid : List ℕ) (b : Built) (M : MakePost hs out mid b) (s : Sizes) (e : b ≡ Fuse s) (l : length hs < 2 ^ 64) where
  pub lay_usable : Usable s.segment s.count
  lay_usable = (sizes_of_lem (length hs) hs _ (way (length hs) hs) s (sym M.answer ∙ e) l).0

  lay_cells : cells_in s.segment s.count ≡ cells_for (length hs)
  lay_cells = (sizes_of_lem (length hs) hs _ (way (length hs) hs) s (sym M.answer ∙ e) l).1

  pub lay_fuse : 48 + cells_for (length hs) ≤ length out → (after : List ℕ) → after ≡ splice mid 0 (fuse_header s) → LayPost hs out after (Fuse s)
  lay_fuse room after p = record {
    answer = sym e ∙ M.answer;
    output =
        p ∙ ap (λ (t : List ℕ). splice t 0 (fuse_header s)) (M.output ∙ ap (λ (x : Built). made_by x hs out) e)
        ∙ splice_before out (fuse_header s) 48 (cells_laid s.segment s.count s.seed hs) (header_length s)
        (omega (arith, cells_length s.segment s.count s.seed hs, lay_cells));
  }

-- ---- the call

module _ (hashes wide narrow out : List ℕ) where
  pub build_stopped : (r : Refusal) → number r ≡ build_refusal (length hashes) (length wide) (length narrow) (length out)
      → BuildPost hashes wide narrow out (Err r) hashes wide narrow out
  unfolding build_of
  build_stopped r e =
      let a : Err r ≡ answered (build_refusal (length hashes) (length wide) (length narrow) (length out)) (built_of hashes) =
      sym (answered_refusal r _ (built_of hashes) e) in
      record {
        answer = a;
        hashes_after = ap (λ (b : Result Built Refusal). hashes_by b hashes) a;
        wide_after = ap (λ (b : Result Built Refusal). space_by b wide) a;
        narrow_after = ap (λ (b : Result Built Refusal). space_by b narrow) a;
        out_after_is = ap (λ (b : Result Built Refusal). out_by b (sorted hashes) out) a;
      }

  kept : (b : Built) → (sorted hashes ≡ hashes_by (Ok b) hashes) × ((space : List ℕ) → replicate (length space) 0 ≡ space_by (Ok b) space)
  kept Positive = (refl, λ space. refl)
  kept (Fuse s) = (refl, λ space. refl)

  pub build_done : build_refusal (length hashes) (length wide) (length narrow) (length out) ≡ 0
      → (r : Built) (hashes' wide' narrow' out' : List ℕ) → hashes' ≡ sorted hashes → LayPost hashes' out out' r
      → wide' ≡ replicate (length wide) 0 → narrow' ≡ replicate (length narrow) 0
      → BuildPost hashes wide narrow out (Ok r) hashes' wide' narrow' out'
  unfolding build_of built_of
  build_done z r hashes' wide' narrow' out' es L ew en =
      let b : r ≡ by_plan (plan_of (length hashes)) (sorted hashes) =
      L.answer ∙ ap (λ (xs : List ℕ). by_plan (plan_of (length xs)) xs) es
      ∙ ap (λ (n : ℕ). by_plan (plan_of n) (sorted hashes)) (length_sorted hashes) in
      let a : Ok r ≡ build_of hashes (length wide) (length narrow) (length out) =
      ap Ok b ∙ ap (λ (k : ℕ). answered k (by_plan (plan_of (length hashes)) (sorted hashes))) (sym z) in
      let k = kept r in
      record {
        answer = a;
        hashes_after = es ∙ k.0 ∙ ap (λ (x : Result Built Refusal). hashes_by x hashes) a;
        wide_after = ew ∙ k.1 wide ∙ ap (λ (x : Result Built Refusal). space_by x wide) a;
        narrow_after = en ∙ k.1 narrow ∙ ap (λ (x : Result Built Refusal). space_by x narrow) a;
        out_after_is =
            L.output ∙ ap (λ (x : Result Built Refusal). out_by x hashes' out) a
            ∙ ap (λ (xs : List ℕ). out_by (build_of hashes (length wide) (length narrow) (length out)) xs out) es;
      }
