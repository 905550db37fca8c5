-- `filter::put_front` meets its contract.
use mathlib.Core.Path.{◌≡◌, subst}
use mathlib.Core.Bool.{true}
use native.Mathlib.Omega.{arith}
use Rattle.fuse.proofs.FitLaws.{fitting_accepted}
use Rattle.filter.specs.declared.SstFilter.{SstFilter}
use Rattle.filter.specs.Reading.{acceptable}
use Rattle.filter.proofs.put_front.Goals as goal

pub put_header-requires : goal.put_header-requires
unfolding acceptable
put_header-requires c =
    let e = subst (λ (f : SstFilter). acceptable f c.args.cells ≡ true) c.in-Fuse.is c.requires.0 in
    (omega arith, (fitting_accepted c.in-Fuse.s c.args.cells e).fits.usable.small)
