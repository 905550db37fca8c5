-- `read_whole` goes on behind what it has read: each part follows the one before. Assumes nothing.
use Rattle.std.proofs.Common.{◌≡◌, ℕ, ◌+◌, ◌≤◌, List, ◌++◌, length, take, sym, ap, ap₂, ◌∙◌, subst, le_refl, rules, drop_at, length-take-le}
use Rattle.std.proofs.lemmas.Slice.{take-put_mid_below}
use Rattle.std.proofs.lemmas.List.{take-append-le}
use Rattle.std.specs.Io.KnownBytes.{Consumes}
use Rattle.std.proofs.KnownBytes.{Consumes-trans}
use borrow.Rule.Slice.PartMut.{put_mid, post_of}
use lib.Seq.{take-add}
use Rattle.input.proofs.read_whole.Goals as goal

-- the front with n bytes more, once they are read behind it
front_more : (at room n : ℕ) (xs ys : List ℕ) → at ≤ length xs → n ≤ length ys → take at xs ++ take n ys ≡ take (at + n) (put_mid at room xs ys)
front_more at room n xs ys within fits =
    let front = take-put_mid_below at room xs ys at (le_refl at) within in
    let behind = drop_at (take at xs) (ys ++ post_of at room xs) at (length-take-le at xs within) in
    let part = ap (take n) behind ∙ take-append-le n ys (post_of at room xs) fits in
    sym (take-add at n (put_mid at room xs ys) ∙ ap₂ (λ a b. a ++ b) front part)

pub loop-size-preserved : goal.loop-size-preserved
loop-size-preserved g c =
    let here = c.loop-size.invariant in
    let ours = c.in_ok-more.ensures in
    record {
      within = search rules;
      same = search rules;
      read = subst (Consumes _ _) (front_more _ _ _ _ _ here.within ours.bound.0) (Consumes-trans _ _ _ _ _ here.read ours.bytes.0);
    }
