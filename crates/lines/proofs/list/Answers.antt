-- `list` lists each text that is put: the writer that measures it, and the one that writes it, tell where it ends. Assumes nothing.
use Rattle.std.proofs.Common.{rules}
use Rattle.lines.proofs.TextLaws.{lists_short, lists_fit}
use Rattle.lines.proofs.list.Goals as goal

pub returns-then-out-size : goal.returns-then-out-size
returns-then-out-size g c = λ text p. lists_short (p.puts _ _ c.put.ensures) c.if-out-size.true

pub returns : goal.returns
returns g c = λ text p. let w = p.puts _ _ c.put-2.ensures in
    let l = lists_fit (p.puts _ _ c.put.ensures) c.if-out-size.false w in
    search rules
