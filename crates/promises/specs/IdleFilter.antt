-- An idle filter is shut out: for one hash, whatever it is, no call that meets build's contract answers Positive, since the first attempt
-- peels it.
use Rattle.std.specs.Prelude.{Ok, ℕ, ◌≡◌, true, List, [], ◌∷◌}
use Rattle.fuse.specs.Positions.{Usable}
use Rattle.peel.specs.Peel.{succeeds}
use Rattle.filter.specs.declared.Built.TheVariants.{Positive}
use Rattle.filter.specs.Building.{BuildPost}

pub record IdleFilter : Type 0 where
  -- an attempt over one hash succeeds, with any seed
  pub one_hash_peels : (segment count seed hash : ℕ) → Usable segment count → succeeds segment count seed (hash ∷ []) ≡ true
  -- a filter that is always Positive is shut out: for one hash no call that meets build's contract answers Positive
  pub never_positive : {hash : ℕ} {wide narrow out hashes' wide' narrow' out' : List ℕ} → BuildPost (hash ∷ []) wide narrow out (Ok Positive) hashes' wide' narrow' out' → ⊥
