-- The four cells of a hash. Assumes nothing.
use Rattle.fuse.proofs.PositionLaws.{positions_are}
use Rattle.fuse.proofs.Segments.positions.Goals as goal

pub returns : goal.returns
returns c = positions_are _ _ _ _ _ _ _ c.cell.ensures c.cell-2.ensures c.cell-3.ensures c.cell-4.ensures
