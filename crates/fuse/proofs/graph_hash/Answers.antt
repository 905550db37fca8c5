-- `fuse::graph_hash` meets its contract.
use Rattle.fuse.specs.Asking.{graph_hash}
use Rattle.fuse.proofs.graph_hash.Goals as goal

pub returns : goal.returns
unfolding graph_hash
returns c = c.mix.ensures
