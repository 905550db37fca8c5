-- `fuse::header::is_fuse` meets its contract.
use Rattle.std.proofs.Common.{ℕ, ◌-◌, Bool, ◌&&◌, List, length, take, sym, ap, ◌∙◌}
use Rattle.words.specs.Part.{same_as}
use Rattle.fuse.specs.Layout.{fuse_header, fuse_laid}
use Rattle.fuse.proofs.FitLaws.{fitting_accepted}
use Rattle.fuse.proofs.header.is_fuse.Goals as goal

pub header-requires : goal.header-requires
header-requires c = let a = c.args in
    (fitting_accepted a.s (length a.bytes.now - 48) (sym c.fits.ensures ∙ c.if-fits.true)).fits.usable.small

pub returns-then-fits : goal.returns-then-fits
unfolding fuse_laid
returns-then-fits c = let t = c in
    let a = t.args in
    c.same.ensures ∙ ap (λ (h : List ℕ). same_as (take 48 a.bytes.now) h) c.header.ensures
    ∙ ap (λ (b : Bool). b && same_as (take 48 a.bytes.now) (fuse_header a.s)) (sym c.if-fits.true ∙ t.fits.ensures)

pub returns-else-fits : goal.returns-else-fits
unfolding fuse_laid
returns-else-fits c = let a = c.args in
    c.if-fits.false ∙ ap (λ (b : Bool). b && same_as (take 48 a.bytes.now) (fuse_header a.s)) (sym c.if-fits.false ∙ c.fits.ensures)
