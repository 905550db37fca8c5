-- `index` is the slot that the pilot of the hash's bucket gives it. Assumes nothing.
use mathlib.Core.Path.{ap, ◌∙◌}
use Prim.Native.Nat.{ℕ}
use lib.ListN.{get_or}
use Rattle.construct.specs.Construct.{slot_by, index_of}
use Rattle.construct.proofs.pilot.index.Goals as goal

pub returns : goal.returns
unfolding index_of
returns c = let a = c.args in
    c.slot_by.ensures ∙ ap (λ (k : ℕ). slot_by a.h (get_or a.pilots.now k 0) a.n) c.bucket_of-k.ensures.0
