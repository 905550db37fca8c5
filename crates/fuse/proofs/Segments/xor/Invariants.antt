-- `Segments::xor` meets its contract. The loop's invariant: x, with the cells of the positions to come, is the xor of all four.
use Rattle.std.proofs.Common.{◌≡◌, drop}
use lib.Bits.{bit_xor}
use Rattle.fuse.specs.Positions.{positions_of}
use Rattle.fuse.specs.Asking.{xor_at}
use Rattle.fuse.proofs.Segments.xor.Given as goal

abbrev pub invariant-loop-p : goal.invariant-loop-p
invariant-loop-p l = bit_xor l.x (xor_at l.cells (drop l.p-index l.p-items)) ≡ xor_at l.cells (positions_of l.fn.self.segment l.fn.self.count l.h)
