-- `position_agrees` asks for the segments of sizes that fit. Assumes nothing.
use Rattle.std.proofs.Common.{sym}
use Rattle.fuse.proofs.FitLaws.{fitting_accepted}
use Rattle.fuse_vectors.proofs.position_agrees.Goals as goal

pub segments-requires : goal.segments-requires
segments-requires c = (fitting_accepted c.args.s c.args.cells (sym c.if-not-fits.ensures)).fits.usable
