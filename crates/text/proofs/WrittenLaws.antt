-- The laws of what writers leave: pieces one after the other are one piece, and a piece that fits is put in its place. Assumes nothing.
use Prim.Native.Nat.{ℕ, zero, suc, ◌+◌, ◌/◌, ◌%◌, ◌<◌}
use native.Mathlib.Nat.{add-zero, add-suc, suc-add, add_assoc}
use native.Mathlib.Omega.{arith}
use mathlib.Core.Path.{◌≡◌, refl, sym, ◌∙◌}
use mathlib.Core.List.{List, [], ◌∷◌, ◌++◌}
use lib.ListN.{length, get_or, take, length-append}
use lib.Seq.{sets}
use Rattle.text.specs.declared.Writer.{Writer}
use Rattle.text.specs.Text.{hex_digit, hex_of}
use Rattle.text.specs.Inner.Written.{Ends, Wrote}

sets_append : (before : List ℕ) (at : ℕ) (s t : List ℕ) → sets before at (s ++ t) ≡ sets (sets before at s) (at + length s) t
sets_append before at [] t = rw add-zero
sets_append before at (x ∷ s) t = sets_append _ (suc at) s t ∙ rw (suc-add, add-suc)

-- where nothing was put
pub wrote_none : {w : Writer} → Wrote w [] w
wrote_none {w} = record { same = refl; buffer = refl; place = sym (add-zero w.at) }

module _ {before middle after : Writer} {s t : List ℕ} where
  -- a text and then another
  pub wrote_then : Wrote before s middle → Wrote middle t after → Wrote before (s ++ t) after
  wrote_then v w =
      record {
        same = w.same ∙ v.same;
        buffer = w.buffer ∙ rw (v.buffer, v.place) (sym (sets_append before.out.now before.at s t));
        place = w.place ∙ rw (v.place, length-append) (add_assoc before.at (length s) (length t));
      }

-- where a text of two parts ends at a place that can be named, so does its first part, and so does its second behind the first
pub ends_first : {at : ℕ} {s : List ℕ} (t : List ℕ) → Ends at (s ++ t) → Ends at s
ends_first t h = record { inside = omega (arith, rw length-append at h.inside) }

pub ends_second : {before middle : Writer} {s t : List ℕ} → Wrote before s middle → Ends before.at (s ++ t) → Ends middle.at t
ends_second w h = record { inside = omega (arith, rw length-append at h.inside, w.place) }

-- a byte more, in hex
pub hex_more : (bytes : List ℕ) (i x y : ℕ) → i < length bytes → x ≡ hex_digit (get_or bytes i 0 / 16) → y ≡ hex_digit (get_or bytes i 0 % 16) → hex_of (take (suc i) bytes) ≡ hex_of (take i bytes) ++ (x ∷ []) ++ (y ∷ [])
unfolding hex_of
hex_more [] i x y h ex ey = absurd (omega arith)
hex_more (b ∷ bs) zero x y h ex ey = rw (ex, ey)
hex_more (b ∷ bs) (suc i) x y h ex ey = rw (hex_more bs i x y (omega arith) ex ey)
