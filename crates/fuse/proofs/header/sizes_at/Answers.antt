-- `fuse::header::sizes_at` meets its contract.
use Rattle.fuse.specs.Layout.{sizes_in}
use Rattle.fuse.proofs.header.sizes_at.Goals as goal

pub returns : goal.returns
unfolding sizes_in
returns c = λ i. record {
  keys = c.u64_at.ensures i;
  seed = c.u64_at-2.ensures i;
  segment = c.u32_at.ensures i;
  count = c.u32_at-2.ensures i;
}
