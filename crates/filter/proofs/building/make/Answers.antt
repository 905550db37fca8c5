-- What is built of sorted hashes, with the cells in their place. Assumes nothing.
use mathlib.Core.Path.{sym, ◌∙◌}
use native.Mathlib.Omega.{arith}
use Rattle.filter.proofs.BuildingLaws.{make_spaced, made_some}
use borrow.Author.Rules.{rules}
use Rattle.filter.proofs.building.make.Goals as goal

pub construct-requires : goal.construct-requires
construct-requires c = let s = c in
    let e = sym c.of.ensures ∙ c.in-Fuse.is in
    make_spaced _ c.in-Fuse.s e _ _ c.cells_for-end.result s.args.out.now c.cells_for-end.ensures s.requires (omega arith)

pub returns-in-Fuse : goal.returns-in-Fuse
returns-in-Fuse c = let a = c.args in
    let k = c.construct in
    made_some a.hashes.now a.out.now c.in-Fuse.s (sym c.of.ensures ∙ c.in-Fuse.is) (sym c.has_twins.ensures ∙ c.if-has_twins.false)
    c.cells_for-end.result c.cells_for-end.ensures k.new.cells k.result (search rules) c.requires.out_room k.ensures
