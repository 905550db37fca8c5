-- A list put into another, one element more at a time: what the loops that copy keep. Assumes nothing.
use Rattle.std.proofs.Common.{◌≡◌, ℕ, ◌+◌, ◌<◌, ◌≤◌, List, length, get_or, set, ap, ◌∙◌, add-one, arith}
use lib.Seq.{paste, paste-zero, paste-suc, length-paste}
use Rattle.words.specs.Field.{splice}
use Rattle.words.proofs.Laws.{splice_paste}

-- xs with the first i elements of ys put at a place is zs
pub record Pasting (xs : List ℕ) (at : ℕ) (ys : List ℕ) (i : ℕ) (zs : List ℕ) : Type 0 where
  pub room : at + length ys ≤ length xs
  pub most : i ≤ length ys
  pub now : zs ≡ paste xs at ys i

pub pasting_none : (xs : List ℕ) (at : ℕ) (ys : List ℕ) → at + length ys ≤ length xs → Pasting xs at ys 0 xs
pasting_none xs at ys h = record { room = h; most = omega arith; now = paste-zero xs at ys }

module _ {xs : List ℕ} {at : ℕ} {ys : List ℕ} {i : ℕ} {zs : List ℕ} (p : Pasting xs at ys i zs) where
  pub pasting_length : length zs ≡ length xs
  pasting_length = ap length p.now ∙ length-paste xs at ys i (omega (arith, p.room, p.most)) p.most

  pub pasting_more : (d j v : ℕ) → i < length ys → j ≡ at + i → v ≡ get_or ys i d → Pasting xs at ys (i + 1) (set zs j v)
  pasting_more d j v h e w = record {
    room = p.room;
    most = omega arith;
    now = rw (e, w) (ap (λ (l : List ℕ). set l (at + i) (get_or ys i d)) p.now ∙ rw add-one (paste-suc xs at ys i d (omega (arith, p.room)) (omega arith)));
  }

  pub pasting_done : length ys ≤ i → zs ≡ splice xs at ys
  pasting_done h = let e : i ≡ length ys = omega (arith, p.most) in p.now ∙ ap (paste xs at ys) e ∙ splice_paste xs at ys
