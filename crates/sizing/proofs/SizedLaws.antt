-- Laws of the table of segment counts: its rule, tested once over the whole table, carried to each n; the sizes and the plan for n hashes.
-- Assumes nothing.
use mathlib.Core.Path.{◌≡◌, refl, sym, ap, subst}
use mathlib.Core.Bool.{Bool, true, false, cond, ◌&&◌, and-eq-true_iff}
use mathlib.Core.List.{List, ◌∷◌}
use Prim.Native.Nat.{ℕ, suc, ◌+◌, ◌-◌, ◌*◌, ◌^◌, ◌≤◌, ◌<◌}
use native.Mathlib.Nat.{lt_of_le_of_lt, mul-le-mul}
use native.Mathlib.Omega.{arith}
use lib.Dec.{leb, eqb}
use lib.ListN.{length, get_or, drop}
use borrow.Author.Tests.{leb-true, eqb-true, eqb-false, ne_eqb}
use Rattle.fuse.specs.declared.Sizes.{Sizes}
use Rattle.fuse.specs.Positions.{cells_in, Usable}
use Rattle.fuse.specs.Layout.{Accepted}
use Rattle.sizing.specs.declared.Plan.TheVariants.{Positive, Fuse}
use Rattle.sizing.specs.Table.{most_hashes, firsts, segments}
use Rattle.sizing.specs.Sizing.{rule, exponent_up_to, exponent_of, segment_of, up_to, segments_of, cells_of, sizes_of, plan_of, last_of_row, RowRule, rises_strictly, rises_from}
use Rattle.sizing.proofs.SearchLaws.{up_to_yes}
use Rattle.sizing.proofs.RowLaws.{walk, walk_row, row}
use Rattle.sizing.proofs.ExponentLaws.{exponent_mono, segment_most, segment_power}

-- ---- the rule, over the whole table

-- the first counts rise strictly
pub firsts_rise : rises_strictly firsts ≡ true
unfolding rises_strictly rises_from firsts
firsts_rise = refl

-- from 1
pub firsts_from : firsts ≡ 1 ∷ drop 1 firsts
unfolding firsts
firsts_from = refl

pub same_length : length firsts ≡ length segments
unfolding firsts segments
same_length = refl

-- a row has at least 4 segments, and not too many
count_test : ℕ → ℕ → ℕ → ℕ → Bool
count_test i f g s = leb 4 s && leb s 16383

counts_right : walk count_test (2 ^ 64) 0 1 (drop 1 firsts) segments ≡ true
unfolding walk count_test firsts segments
counts_right = refl

-- a row starts where the segment changes, so it has one exponent; and at its last n, 40 × cells ≥ 43 × n
row_test : ℕ → ℕ → ℕ → ℕ → Bool
row_test i f g s = eqb (exponent_of f) (exponent_of (g - 1)) && leb (43 * (g - 1)) (40 * (s * 2 ^ exponent_of f))

rows_right : walk row_test (most_hashes + 1) 0 1 (drop 1 firsts) segments ≡ true
unfolding walk row_test firsts segments exponent_of exponent_up_to rule
rows_right = refl

-- THEOREM: the rule holds at each row
pub row_rule : (j : ℕ) → j < length firsts → RowRule j
unfolding last_of_row segment_of count_test row_test
row_rule j l =
    let f : ℕ = get_or firsts j 0 in
    let g : ℕ = get_or firsts (suc j) (most_hashes + 1) in
    let s : ℕ = get_or segments j 0 in
    let low : j < length (1 ∷ drop 1 firsts) = subst (λ (x : List ℕ). j < length x) firsts_from l in
    let t : row_test j f g s ≡ true =
    subst (λ (x : List ℕ). row_test j (get_or x j 0) (get_or x (suc j) (most_hashes + 1)) s ≡ true) (sym firsts_from)
    (walk_row row_test (most_hashes + 1) 0 1 (drop 1 firsts) segments rows_right j low) in
    let c : count_test j f (get_or firsts (suc j) (2 ^ 64)) s ≡ true =
    subst (λ (x : List ℕ). count_test j (get_or x j 0) (get_or x (suc j) (2 ^ 64)) s ≡ true) (sym firsts_from)
    (walk_row count_test (2 ^ 64) 0 1 (drop 1 firsts) segments counts_right j low) in
    let p = (and-eq-true_iff (eqb (exponent_of f) (exponent_of (g - 1))) (leb (43 * (g - 1)) (40 * (s * 2 ^ exponent_of f)))).0 t in
    let e : exponent_of f ≡ exponent_of (g - 1) = eqb-true _ _ p.0 in
    let room : 43 * (g - 1) ≤ 40 * (s * 2 ^ exponent_of f) = leb-true _ _ p.1 in
    record {
      one = ap (λ (k : ℕ). 2 ^ k) e;
      four = leb-true 4 s ((and-eq-true_iff (leb 4 s) (leb s 16383)).0 c).0;
      enough = rw e at room;
    }

-- ---- carried to each n

-- the row of n
pub row_of : (n : ℕ) → 1 ≤ n → up_to firsts n ≡ suc (up_to (drop 1 firsts) n)
row_of n l = subst (λ (x : List ℕ). up_to x n ≡ suc (up_to (drop 1 firsts) n)) (sym firsts_from) (up_to_yes 1 (drop 1 firsts) n l)

row_segments : (n : ℕ) → 1 ≤ n → segments_of n ≡ get_or segments (up_to (drop 1 firsts) n) 0
unfolding segments_of
row_segments n l = ap (λ (j : ℕ). get_or segments j 0) {x = up_to firsts n - 1} (omega (arith, row_of n l))

module _ (n : ℕ) (l : 1 ≤ n) (h : n < 2 ^ 64) where
  -- how many segments there are
  pub segments_within : (4 ≤ segments_of n) × (segments_of n ≤ 16383)
  unfolding count_test
  segments_within =
      let r = row count_test (2 ^ 64) 0 1 (drop 1 firsts) segments counts_right n l h in
      let s : ℕ = get_or segments (up_to (drop 1 firsts) n) 0 in
      let p = (and-eq-true_iff (leb 4 s) (leb s 16383)).0 r.passes in
      let e = row_segments n l in
      (omega (arith, leb-true 4 s p.0), omega (arith, leb-true s 16383 p.1))

  pub cells_of_lem : cells_in (segment_of n) (segments_of n - 3) ≡ cells_of n
  unfolding cells_of
  cells_of_lem = ap (λ (k : ℕ). k * segment_of n) {x = segments_of n - 3 + 3} (omega (arith, segments_within.0))

  cells_small : cells_of n < 2 ^ 32
  unfolding cells_of
  cells_small =
      lt_of_le_of_lt (mul-le-mul {n₁ = segments_of n} {m₁ = segment_of n} {n₂ = 16383} {m₂ = 262144} segments_within.1 (segment_most n)) (omega arith)

  -- the sizes for n hashes can be used
  pub usable : Usable (segment_of n) (segments_of n - 3)
  usable =
      record {
        power = segment_power n;
        most = segment_most n;
        counted = omega (arith, segments_within.0);
        small = subst (λ (x : ℕ). x < 2 ^ 32) (sym cells_of_lem) cells_small;
      }

-- the cells of n, in a row that has its exponent and room at its last number
row_room : (n f g s : ℕ) → f ≤ n → n < g → s ≡ segments_of n → exponent_of f ≡ exponent_of (g - 1) → 43 * (g - 1) ≤ 40 * (s * 2 ^ exponent_of f) → 43 * n ≤ 40 * cells_of n
unfolding cells_of segment_of
row_room n f g s a b es one room =
    let x = exponent_mono f n a in
    let y = exponent_mono n (g - 1) (omega arith) in
    let e : exponent_of f ≡ exponent_of n = omega arith in
    let q : 43 * (g - 1) ≤ 40 * (segments_of n * 2 ^ exponent_of n) = rw (es, e) at room in
    omega arith

module _ (n : ℕ) (l : 1 ≤ n) (h : n ≤ most_hashes) where
  -- THEOREM: 40 × cells ≥ 43 × n, and the sizes for n hashes have so many cells
  pub cells_enough : 43 * n ≤ 40 * cells_of n
  unfolding row_test
  cells_enough =
      let s : ℕ = get_or segments (up_to (drop 1 firsts) n) 0 in
      let r = row row_test (most_hashes + 1) 0 1 (drop 1 firsts) segments rows_right n l (omega arith) in
      let f : ℕ = r.first in
      let g : ℕ = r.next in
      let p = (and-eq-true_iff (eqb (exponent_of f) (exponent_of (g - 1))) (leb (43 * (g - 1)) (40 * (s * 2 ^ exponent_of f)))).0 r.passes in
      row_room n f g s r.from r.below (sym (row_segments n l)) (eqb-true _ _ p.0) (leb-true _ _ p.1)

  pub sizes_enough : 43 * n ≤ 40 * cells_in (segment_of n) (segments_of n - 3)
  sizes_enough = omega (arith, cells_enough, cells_of_lem n l (omega arith))

-- the sizes for n hashes are accepted beside their cells, whatever the seed
pub sizes_accepted : (n seed : ℕ) → 1 ≤ n → n < 2 ^ 32
    → Accepted (record { keys = n; seed = seed; segment = segment_of n; count = segments_of n - 3 }) (cells_in (segment_of n) (segments_of n - 3))
sizes_accepted n seed l h = record { some_key = l; few_keys = h; fits = record { usable = usable n l (omega arith); whole = refl } }

-- ---- the plan

split_plan : (t : Bool) (x s : Sizes) → cond t Positive (Fuse x) ≡ Fuse s → (t ≡ false) × (x ≡ s)
split_plan true x s e = (cc, cc)
split_plan false x s e = (refl, cc)

split_none : (t : Bool) (x : Sizes) → cond t Positive (Fuse x) ≡ Positive → t ≡ true
split_none true x e = refl
split_none false x e = cc

-- only for no hashes is the plan Positive
pub plan_zero : (n : ℕ) → plan_of n ≡ Positive → n ≡ 0
unfolding plan_of
plan_zero n e = eqb-true n 0 (split_none (eqb n 0) (sizes_of n) e)

-- a plan with sizes has those for n hashes
module _ (n : ℕ) (s : Sizes) (e : plan_of n ≡ Fuse s) where
  plan_split : (eqb n 0 ≡ false) × (sizes_of n ≡ s)
  unfolding plan_of
  plan_split = split_plan (eqb n 0) (sizes_of n) s e

  pub plan_least : 1 ≤ n
  plan_least = let d = eqb-false n 0 plan_split.0 in omega arith

  pub plan_sizes : sizes_of n ≡ s
  plan_sizes = plan_split.1

  pub plan_usable : n < 2 ^ 64 → Usable s.segment s.count
  unfolding sizes_of
  plan_usable l = subst (λ (x : Sizes). Usable x.segment x.count) plan_sizes (usable n plan_least l)

-- as the code makes it

pub plan_none : (n : ℕ) → n ≡ 0 → Positive ≡ plan_of n
unfolding plan_of
plan_none n e = rw e

pub plan_some : (n segment count : ℕ) → (n ≡ 0 → ⊥) → segment ≡ segment_of n → count ≡ segments_of n - 3
    → Fuse (record { keys = n; seed = 0; segment = segment; count = count }) ≡ plan_of n
unfolding plan_of sizes_of
plan_some n segment count z es ec = rw (ne_eqb n 0 z, es, ec)
