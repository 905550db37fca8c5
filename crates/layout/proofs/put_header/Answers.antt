-- `put_header` meets its contract: its five fields one after another. Assumes nothing.
use Rattle.mixing.specs.Slots.{buckets_of}
use Rattle.layout.proofs.HeaderLaws.{header_written}
use borrow.Author.Rules.{rules}
use Rattle.layout.proofs.put_header.Goals as goal

pub overflow_cast-b : goal.overflow_cast-b
unfolding buckets_of
overflow_cast-b c = search rules

pub returns : goal.returns
returns c =
    header_written _ _ _ _ _ _ _ _ _ _ c.requires.1 c.buckets-b.ensures c.arena_start-start.ensures c.copy_at.ensures c.put_u64.ensures
    c.put_u32.ensures c.put_u32-2.ensures c.put_u64-2.ensures
