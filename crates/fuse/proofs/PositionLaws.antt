-- Laws of the four positions: each lies in a segment of its own, so they are below the cells and pairwise apart. Assumes nothing.
use Rattle.std.proofs.Common.{◌≡◌, ℕ, zero, suc, ◌+◌, ◌-◌, ◌*◌, ◌/◌, ◌%◌, ◌^◌, ◌<◌, [], ◌∷◌, length, get_or, sym, refl, ap, ◌∙◌, subst, ap₂, add-zero, mod-lt, mul_comm, div-lt_iff_lt-mul, mul-pos, add_left_cancel, arith, pow_pos}
use native.Mathlib.Nat.{div-eq_of_lt, add-mul-div_right, mul-lt-mul_of_pos_left}
use lib.Bits.{bit_xor, bit_and, and_mask, xor_shr, xor_zero_r}
use Rattle.laws.specs.Power.{PowerOfTwo}
use Rattle.fuse.specs.Positions.{cells_in, Usable, first_cell, cell_of, positions_of}

-- position i lies in the segment i behind that of a: xor with a number below the segment stays in it
block : (k count h i : ℕ) → cell_of (2 ^ k) count h i / 2 ^ k ≡ first_cell (2 ^ k) count h / 2 ^ k + i
unfolding cell_of
block k count h zero = sym (add-zero (first_cell (2 ^ k) count h / 2 ^ k))
block k count h (suc i) =
    let a : ℕ = first_cell (2 ^ k) count h in
    let w : ℕ = h / 2 ^ (16 * i) in
    xor_shr (a + suc i * 2 ^ k) (w % 2 ^ k) k
    ∙ ap₂ bit_xor (add-mul-div_right a (suc i) (pow_pos k)) (div-eq_of_lt (mod-lt w (pow_pos k)))
    ∙ xor_zero_r (a / 2 ^ k + suc i)

-- a is below count × segment
first_below : (segment count h : ℕ) → 0 < count * segment → h < 2 ^ 64 → first_cell segment count h < count * segment
unfolding first_cell
first_below segment count h l b =
    (div-lt_iff_lt-mul (pow_pos 64)).1
    (subst (λ (x : ℕ). x < count * segment * 2 ^ 64) (mul_comm (count * segment) h) (mul-lt-mul_of_pos_left b l))

below_at : (k count h : ℕ) → 0 < count → h < 2 ^ 64 → (i : ℕ) → i < 4 → cell_of (2 ^ k) count h i < cells_in (2 ^ k) count
below_at k count h l b i li =
    let f : first_cell (2 ^ k) count h / 2 ^ k < count = (div-lt_iff_lt-mul (pow_pos k)).1 (first_below (2 ^ k) count h (mul-pos l (pow_pos k)) b) in
    (div-lt_iff_lt-mul (pow_pos k)).0 (omega (arith, block k count h i))

apart_at : (k count h i j : ℕ) → cell_of (2 ^ k) count h i ≡ cell_of (2 ^ k) count h j → i ≡ j
apart_at k count h i j e =
    add_left_cancel (first_cell (2 ^ k) count h / 2 ^ k)
    (sym (block k count h i) ∙ ap (λ (x : ℕ). x / 2 ^ k) e ∙ block k count h j)

module _ (segment count : ℕ) (u : Usable segment count) (h : ℕ) where
  -- every position is below the number of cells
  pub cell_below : h < 2 ^ 64 → (i : ℕ) → i < 4 → cell_of segment count h i < cells_in segment count
  cell_below b i l =
      subst (λ (s : ℕ). cell_of s count h i < cells_in s count) (sym u.power.1) (below_at u.power.0 count h u.counted b i l)

  -- two positions that are equal are the same one
  pub cell_apart : (i j : ℕ) → cell_of segment count h i ≡ cell_of segment count h j → i ≡ j
  cell_apart i j =
      subst (λ (s : ℕ). cell_of s count h i ≡ cell_of s count h j → i ≡ j) (sym u.power.1) (apart_at u.power.0 count h i j)

-- the list of the positions, by its places
pub position_at : (segment count h i : ℕ) → i < 4 → get_or (positions_of segment count h) i 0 ≡ cell_of segment count h i
unfolding positions_of
position_at segment count h zero l = refl
position_at segment count h (suc zero) l = refl
position_at segment count h (suc (suc zero)) l = refl
position_at segment count h (suc (suc (suc zero))) l = refl
position_at segment count h (suc (suc (suc (suc i)))) l = absurd (omega arith)

pub positions_are : (segment count h a b c d : ℕ) → a ≡ cell_of segment count h 0 → b ≡ cell_of segment count h 1 → c ≡ cell_of segment count h 2 → d ≡ cell_of segment count h 3
    → a ∷ b ∷ c ∷ d ∷ [] ≡ positions_of segment count h
unfolding positions_of
positions_are segment count h a b c d ea eb ec ed = rw (ea, eb, ec, ed) refl

pub positions_length : (segment count h : ℕ) → length (positions_of segment count h) ≡ 4
unfolding positions_of
positions_length segment count h = refl

-- ---- as the code computes them

pub cell_first : (segment count h i : ℕ) → i ≡ 0 → first_cell segment count h ≡ cell_of segment count h i
unfolding cell_of
cell_first segment count h i e = rw e

masked : (k count h i : ℕ) → bit_xor (first_cell (2 ^ k) count h + suc i * 2 ^ k) (bit_and (h / 2 ^ (16 * i)) (2 ^ k - 1)) ≡ cell_of (2 ^ k) count h (suc i)
unfolding cell_of
masked k count h i = simp (and_mask)

suc_sub_one : (i : ℕ) → suc i - 1 ≡ i
suc_sub_one i = omega arith

-- with a mask for the remainder
pub cell_other : (segment count h i a : ℕ) → PowerOfTwo segment → (i ≡ 0 → ⊥) → a ≡ first_cell segment count h
    → bit_xor (a + i * segment) (bit_and (h / 2 ^ (16 * (i - 1))) (segment - 1)) ≡ cell_of segment count h i
cell_other segment count h zero a (k, e) z f = absurd (z refl)
cell_other segment count h (suc i) a (k, e) z f = rw (f, e, suc_sub_one i) (masked k count h i)
