-- `filter::read` meets its contract.
use mathlib.Core.Path.{sym, ◌∙◌}
use mathlib.Core.Bool.{false}
use Rattle.fuse.specs.Layout.{sizes_in}
use Rattle.filter.proofs.ReadLaws.{read_other, short_none}
use Rattle.filter.proofs.read.Goals as goal

pub returns-then-bytes-lt-HEADER : goal.returns-then-bytes-lt-HEADER
returns-then-bytes-lt-HEADER c = let bytes = c.args.bytes.now in
    read_other bytes false (sym c.is_positive.ensures ∙ c.if-is_positive.false)
    (short_none bytes (sizes_in bytes) c.if-bytes-lt-HEADER.true)
