-- `replay` ends: each case leaves fewer. Assumes nothing.
use Rattle.std.proofs.Common.{sym}
use Rattle.vectors.proofs.FormatLaws.{next_less}
use Rattle.replay.proofs.replay.Goals as goal

pub loop-op-smaller : goal.loop-op-smaller
loop-op-smaller c = next_less _ _ _ _ _ _ (sym c.in-Case.ensures)
