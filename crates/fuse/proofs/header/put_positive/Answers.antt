-- `fuse::header::put_positive` meets its contract.
use Rattle.fuse.specs.Layout.{positive_bytes}
use Rattle.fuse.proofs.header.put_positive.Goals as goal

pub returns : goal.returns
unfolding positive_bytes
returns c = c.copy_at.ensures
