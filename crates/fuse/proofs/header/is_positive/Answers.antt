-- `fuse::header::is_positive` meets its contract.
use Rattle.fuse.specs.Layout.{positive_bytes}
use Rattle.fuse.proofs.header.is_positive.Goals as goal

pub returns : goal.returns
unfolding positive_bytes
returns c = c.same.ensures
