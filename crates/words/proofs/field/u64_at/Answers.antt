-- `u64_at` reads the 8 bytes of the field. Assumes nothing.
use Rattle.std.proofs.Common.{◌∙◌}
use Rattle.words.proofs.Laws.{le_read}
use Rattle.words.proofs.field.u64_at.Goals as goal

pub returns : goal.returns
returns c = let read = rw c.unwrap.ensures at c.try_into.ensures.1 in
    c.from_le_bytes.ensures ∙ le_read 7 _ _ _ c.requires read.same
