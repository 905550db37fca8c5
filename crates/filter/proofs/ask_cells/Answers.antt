-- `filter::ask_cells` meets its contract.
use mathlib.Core.Path.{sym, ◌∙◌}
use Rattle.fuse.proofs.FitLaws.{fitting_accepted}
use Rattle.filter.proofs.ask_cells.Goals as goal

pub contains-requires : goal.contains-requires
contains-requires c = (fitting_accepted c.in-Fuse.s _ (sym c.fits.ensures ∙ c.if-fits.true)).fits
