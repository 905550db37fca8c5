-- `first_within` is `first_within`: the search from here on, up to the limit's number, finds what the whole one finds. Assumes nothing.
use Rattle.std.specs.Prelude.{Some}
use Prim.Native.Nat.{◌-◌}
use mathlib.Core.Path.{◌≡◌}
use Rattle.records.specs.Within.{first_within}
use Rattle.records.proofs.search.first_within.Given as goal

abbrev pub invariant-loop : goal.invariant-loop
invariant-loop l = first_within l.bytes (Some l.most) l.at (l.count - l.counter) ≡ first_within l.bytes (Some l.most) l.p l.count
