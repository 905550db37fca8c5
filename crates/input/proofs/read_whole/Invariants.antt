-- `read_whole` fills the front of the buffer with what the input gives, and each turn of its loop fills more. Assumes nothing.
use Rattle.std.proofs.Common.{◌≡◌, ◌-◌, ◌≤◌, length, take}
use Rattle.std.specs.Io.KnownBytes.{Consumes}
use Rattle.input.proofs.read_whole.Given as goal

abbrev pub invariant-loop-size : goal.invariant-loop-size
invariant-loop-size g l = record {
  within : l.size ≤ length l.buf;
  same : length l.buf ≡ length l.initial.buf;
  read : Consumes (g.R.Read.remaining l.initial.from) (g.R.Read.remaining l.from) (take l.size l.buf);
}

abbrev pub decreases-loop-size : goal.decreases-loop-size
decreases-loop-size g l = length l.buf - l.size
