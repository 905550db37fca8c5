-- `put_decimal` lays the digits down from the array's end. The loop's invariant: the digits of what is left, with those laid, are the number's. Assumes nothing.
use Rattle.std.proofs.Common.{◌≡◌, ◌+◌, ◌<◌, ◌++◌, length, drop}
use Rattle.text.specs.Text.{decimal}
use Rattle.text.proofs.Writer.put_decimal.Given as goal

abbrev pub invariant-loop-rest : goal.invariant-loop-rest
invariant-loop-rest l = record {
  whole : length l.digits ≡ 20;
  here : l.from < 20;
  laid : decimal l.rest ++ drop (l.from + 1) l.digits ≡ decimal l.n;
}

abbrev pub decreases-loop-rest : goal.decreases-loop-rest
decreases-loop-rest l = l.rest
