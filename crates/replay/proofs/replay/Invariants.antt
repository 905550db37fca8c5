-- `replay` ends: each case leaves fewer. Assumes nothing.
use Rattle.replay.proofs.replay.Given as goal

abbrev pub decreases-loop-op : goal.decreases-loop-op
decreases-loop-op l = l.cursor.left
