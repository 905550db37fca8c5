-- `Members::spot` is the position of the member's hash, with the bound of `mixing`. Assumes nothing.
use Prim.Native.Nat.{ℕ, ◌<◌}
use mathlib.Core.Path.{sym, ap, ◌∙◌, subst}
use lib.ListN.{length}
use Rattle.mixing.specs.Mixing.{position_of, position_of_lt}
use Rattle.construct.specs.Construct.{spot}
use Rattle.construct.proofs.members.Members.spot.Goals as goal

pub returns : goal.returns
unfolding spot
returns c = let of = c.args.self in
    record {
      value = c.position.ensures ∙ ap (λ (x : ℕ). position_of x c.args.pilot (length of.hashes.now)) c.hash.ensures;
      upper_bound = subst (λ (x : ℕ). x < length of.hashes.now) (sym c.position.ensures) (position_of_lt _ _ _ of.known.any);
    }
