-- `hash` takes the words in one by one, and the state so far is the invariant; then the rest. Assumes nothing.
use Rattle.std.proofs.Common.{◌≡◌}
use Rattle.mixing.specs.Mixing.{absorbed}
use Rattle.mixing.proofs.hash.Given as goal

abbrev pub invariant-loop-i : goal.invariant-loop-i
invariant-loop-i l = l.h ≡ absorbed l.seed l.key l.i
