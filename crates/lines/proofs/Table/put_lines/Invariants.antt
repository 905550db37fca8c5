-- `put_lines` writes the lines of the table. The loop's invariant: the lines from here on, with those written, are the whole.
-- Assumes nothing.
use Prim.Native.Nat.{◌-◌}
use Rattle.lines.specs.Shown.{newest_tombstone}
use Rattle.lines.proofs.LinesLaws.{Going}
use Rattle.lines.proofs.Table.put_lines.Given as goal

abbrev pub invariant-loop : goal.invariant-loop
invariant-loop l = Going newest_tombstone l.self.limit l.initial.out l.self.body l.out l.shown l.p (l.n - l.counter)
