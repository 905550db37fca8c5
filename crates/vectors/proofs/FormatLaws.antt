-- A field that stands in its bytes; after a case fewer are left. Assumes nothing.
use Rattle.std.proofs.Common.{◌≡◌, ℕ, zero, suc, ◌+◌, ◌*◌, ◌-◌, ◌^◌, ◌<◌, ◌≤◌, Bool, true, false, cond, eqb, leb, List, length, get_or, drop, refl, sym, ◌∙◌, arith, mul_comm, le-leb, length-drop, length-take-le}
use borrow.Author.Tests.{eqb-false}
use Rattle.std.specs.Int.{sum_through, byte_worth}
use Rattle.words.specs.Field.{le}
use Rattle.words.proofs.Laws.{le_one, le_join, le_take}
use Rattle.vectors.specs.Format.{IsFieldAt, field_of, next_of}
use Rattle.vectors.specs.declared.Cursor.{Cursor}
use Rattle.vectors.specs.declared.Next.TheVariants.{Case, End, Damaged}

-- std's reading of bytes, the first counting least, spells them
number_through : (bytes : List ℕ) (k : ℕ) → k < length bytes → sum_through (λ i. byte_worth i (get_or bytes i 0)) k ≡ le (suc k) bytes 0
number_through bytes zero h = sym (le_one bytes 0 h)
number_through bytes (suc k) h =
    let low : sum_through (λ i. byte_worth i (get_or bytes i 0)) k ≡ le (suc k) bytes 0 = number_through bytes k (omega (arith, h)) in
    let start : 0 + suc k ≡ suc k = omega arith in
    let size : suc k + 1 ≡ suc (suc k) = omega arith in
    let join : le (suc (suc k)) bytes 0 ≡ le (suc k) bytes 0 + 256 ^ suc k * le 1 bytes (suc k) = rw (start, size) at (le_join (suc k) 1 bytes 0 (omega (arith, h))) in
    let one : le 1 bytes (suc k) ≡ get_or bytes (suc k) 0 = le_one bytes (suc k) h in
    rw (low, mul_comm (get_or bytes (suc k) 0), ← one) (sym join)

-- the bytes of a field spell its number
pub field_spelled : (k : ℕ) (raw bytes : List ℕ) (at : ℕ) → IsFieldAt raw at (suc k) bytes → sum_through (λ i. byte_worth i (get_or bytes i 0)) k ≡ field_of (suc k) raw at
unfolding le
field_spelled k raw bytes at (fits, is) =
    let there : suc k ≤ length (drop at raw) = simp length-drop (omega arith) in
    let long : k < length bytes = rw is (rw (length-take-le (suc k) (drop at raw) there) (omega arith)) in
    let whole : le (suc k) bytes 0 ≡ le (suc k) raw at = rw is (le_take (suc k) (drop at raw) 0 (suc k) (omega arith)) in
    number_through bytes k long ∙ whole ∙ sym (simp (le-leb _ _ fits))

-- of the answers of `next_of`, over its four tests, the case leaves one fewer
module _ (left op place byte put after : ℕ) (next : Cursor) where
  one_less : (none ended headed whole : Bool) → eqb left 0 ≡ none → cond none (cond ended End Damaged) (cond headed (cond whole (Case byte put (record { at = after; left = left - 1 })) Damaged) Damaged) ≡ Case op place next → next.left < left
  one_less true true headed whole z e = let n : ◌≡◌ {A = ℕ} 0 1 = cc in absurd (omega arith)
  one_less true false headed whole z e = let n : ◌≡◌ {A = ℕ} 0 1 = cc in absurd (omega arith)
  one_less false ended false whole z e = let n : ◌≡◌ {A = ℕ} 0 1 = cc in absurd (omega arith)
  one_less false ended true false z e = let n : ◌≡◌ {A = ℕ} 0 1 = cc in absurd (omega arith)
  one_less false ended true true z e = let l : left - 1 ≡ next.left = cc in omega (arith, eqb-false left 0 z)

-- after a case fewer are left, so a replay ends
pub next_less : (file : List ℕ) (at left op place : ℕ) (next : Cursor) → next_of file at left ≡ Case op place next → next.left < left
next_less file at left op place next e =
    one_less left op place (get_or file at 0) (at + 1) (at + 5 + le 4 file (at + 1)) next (eqb left 0) (eqb at (length file)) (leb (at + 5) (length file)) (leb (at + 5 + le 4 file (at + 1)) (length file)) refl e
