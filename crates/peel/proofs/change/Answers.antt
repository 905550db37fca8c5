-- Hash h joins the cells, or leaves them. Assumes nothing.
use Rattle.std.proofs.Common.{arith}
use Rattle.peel.proofs.TableLaws.{changing_in, changing_turn, changing_end}
use Rattle.peel.proofs.change.Goals as goal

pub offset_bounds-narrow-p : goal.offset_bounds-narrow-p
offset_bounds-narrow-p c =
    omega (arith, changing_in _ c.args.cells.now _ c.loop-p.p-index c.loop-p.narrow (omega arith) c.requires.0 c.loop-p.invariant.0)

pub bounds-narrow-p : goal.bounds-narrow-p
bounds-narrow-p c = changing_in _ c.args.cells.now _ c.loop-p.p-index c.loop-p.narrow (omega arith) c.requires.0 c.loop-p.invariant.0

pub offset_bounds-narrow-p-in-loop-p : goal.offset_bounds-narrow-p-in-loop-p
offset_bounds-narrow-p-in-loop-p c =
    omega (arith, changing_in _ c.args.cells.now _ c.loop-p.p-index c.loop-p.narrow (omega arith) c.requires.0 c.loop-p.invariant.0)

pub bounds-narrow-p-in-loop-p : goal.bounds-narrow-p-in-loop-p
bounds-narrow-p-in-loop-p c = changing_in _ c.args.cells.now _ c.loop-p.p-index c.loop-p.narrow (omega arith) c.requires.0 c.loop-p.invariant.0

pub offset_bounds-wide-p : goal.offset_bounds-wide-p
offset_bounds-wide-p c =
    omega (arith, changing_in _ c.args.cells.now _ c.loop-p.p-index c.loop-p.wide (omega arith) c.requires.1 c.loop-p.invariant.1)

pub bounds-wide-p : goal.bounds-wide-p
bounds-wide-p c = changing_in _ c.args.cells.now _ c.loop-p.p-index c.loop-p.wide (omega arith) c.requires.1 c.loop-p.invariant.1

pub offset_bounds-wide-p-in-loop-p : goal.offset_bounds-wide-p-in-loop-p
offset_bounds-wide-p-in-loop-p c =
    omega (arith, changing_in _ c.args.cells.now _ c.loop-p.p-index c.loop-p.wide (omega arith) c.requires.1 c.loop-p.invariant.1)

pub bounds-wide-p-in-loop-p : goal.bounds-wide-p-in-loop-p
bounds-wide-p-in-loop-p c = changing_in _ c.args.cells.now _ c.loop-p.p-index c.loop-p.wide (omega arith) c.requires.1 c.loop-p.invariant.1

pub loop-p-preserved : goal.loop-p-preserved
loop-p-preserved c = let l = c.loop-p in
    let g = c in
    let ps = g.args.cells.now in (
      (changing_turn _ ps _ l.p-index l.narrow (omega arith) l.invariant.0),
      changing_turn _ ps _ l.p-index l.wide (omega arith) l.invariant.1,
    )

pub returns : goal.returns
returns c = let l = c.loop-p in
    (changing_end _ _ _ l.p-index _ (omega arith) l.invariant.0, changing_end _ _ _ l.p-index _ (omega arith) l.invariant.1)
