-- `print` prints a part of the buffer: a text that is listed lies in it. Assumes nothing.
use Rattle.std.proofs.Common.{arith, sym, length-take-le}
use Rattle.lines.proofs.TextLaws.{listed_fits}
use Rattle.listing.proofs.print.Goals as goal

pub slice_bounds-write_all-end : goal.slice_bounds-write_all-end
slice_bounds-write_all-end g c = omega (arith, listed_fits _ _ _ c.in-Ok.ensures.answer)

pub slice_bounds-write_all-end-in-Ok : goal.slice_bounds-write_all-end-in-Ok
slice_bounds-write_all-end-in-Ok g c = sym (length-take-le _ _ (omega (arith, listed_fits _ _ _ c.in-Ok.ensures.answer)))
