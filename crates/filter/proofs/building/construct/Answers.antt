-- A filter over its cells: the closing check never fails, so its last branch is absurd. Assumes nothing.
use Rattle.filter.proofs.BuildingLaws.{construct_some, construct_check}
use Rattle.filter.proofs.building.construct.Goals as goal

pub returns-then-all_present : goal.returns-then-all_present
returns-then-all_present c = let a = c.args in
    let h = c.search in
    construct_some a.s a.hashes.now a.cells.now h.new.cells h.result h.ensures _ c.in-Some.is c.mix.result c.mix.ensures

pub returns : goal.returns
returns c = let s = c in
    let a = s.args in
    let h = c.search in
    absurd (construct_check a.s a.hashes.now a.cells.now h.new.cells h.result h.ensures _ c.in-Some.is c.mix.result c.mix.ensures
    s.requires.fits.usable (c.all_present.ensures c.if-all_present.false))
