-- `construct::construct` meets its contract. The loop's invariant: every attempt before i failed. Assumes nothing.
use Prim.Native.Nat.{ℕ, ◌<◌}
use mathlib.Core.Path.{◌≡◌}
use mathlib.Core.Option.{none}
use Rattle.construct.specs.Construct.{attempt_of}
use Rattle.construct.specs.Keys.{attempt_hashes}
use Rattle.construct.proofs.construct.Given as goal

abbrev pub invariant-loop-i : goal.invariant-loop-i
invariant-loop-i l = (q : ℕ) → q < l.i → attempt_of (attempt_hashes l.arena l.n q) ≡ none
