-- Those of the cells that have degree 1 are queued. Assumes nothing.
use Rattle.std.proofs.Common.{ℕ, ◌<◌, List, length, get_or, arith, drop_of_length-le, rules}
use Rattle.laws.proofs.Lists.{drop_next}
use Rattle.peel.proofs.TableLaws.{cell_at_below, noting_turn, noting_room, noting_end}
use Rattle.peel.proofs.queue_cells.Goals as goal

pub note-t-requires : goal.note-t-requires
note-t-requires c = let l = c.loop-p in
    let g = c in
    let ps : List ℕ = g.args.cells.now in
    let hi : l.p-index < length ps = omega arith in
    let h : get_or ps l.p-index 0 < g.args.c = cell_at_below g.args.c ps g.requires.2 l.p-index hi in (
      h,
      g.requires.0,
      omega (arith, l.invariant.size),
      noting_room _ _ _ _ l.t _ _ _ (drop_next ps l.p-index hi) h l.invariant g.requires.3,
    )

pub loop-p-preserved : goal.loop-p-preserved
loop-p-preserved c = let l = c.loop-p in
    let g = c in
    let ps : List ℕ = g.args.cells.now in
    let hi : l.p-index < length ps = omega arith in
    let h : get_or ps l.p-index 0 < g.args.c = cell_at_below g.args.c ps g.requires.2 l.p-index hi in
    noting_turn _ _ _ _ l.t _ _ _ (drop_next ps l.p-index hi) h l.invariant _ _ (search rules) c.note-t.ensures

pub returns : goal.returns
returns c = let l = c.loop-p in noting_end _ _ _ _ _ _ (drop_of_length-le c.args.cells.now {i = l.p-index} (omega arith)) l.invariant
