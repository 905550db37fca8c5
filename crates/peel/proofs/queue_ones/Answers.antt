-- The cells of degree 1 are queued in rising order. Assumes nothing.
use Rattle.std.proofs.Common.{◌+◌, ◌<◌, ◌≤◌, length, arith, length-set}
use Rattle.peel.proofs.TableLaws.{noting_ones, noting_turn, noting_end, queued_stays, queued_goes, rising_next, rising_over}
use Rattle.peel.proofs.queue_ones.Goals as goal
use Rattle.peel.proofs.queue_ones.Goals.{then-narrow-p-eq1, else-narrow-p-eq1}

pub loop-p-init : goal.loop-p-init
loop-p-init c = (omega arith, noting_ones _ _)

pub loop-p-preserved : goal.loop-p-preserved
loop-p-preserved c = let l = c.loop-p in
    let g = c in
    let h : l.p < g.args.c = omega arith in
    let top : l.top < g.args.c = omega arith in
    let room : g.args.c + g.args.c ≤ length l.narrow = omega (arith, l.invariant.1.size) in
    elim c.if-narrow-p-eq1.branch [
      | then-narrow-p-eq1 w ↦ (
        omega (arith, w.top-is),
        noting_turn _ _ _ _ l.top _ l.p _ (rising_next l.p g.args.c h) h l.invariant.1 _ _ (length-set l.narrow _ _)
            (queued_stays _ l.top l.p _ l.narrow top room h w.if-narrow-p-eq1.true w.top-is),
      )
      | else-narrow-p-eq1 w ↦ (
        omega (arith, w.top-is),
        noting_turn _ _ _ _ l.top _ l.p _ (rising_next l.p g.args.c h) h l.invariant.1 _ _ (length-set l.narrow _ _)
            (queued_goes _ l.top l.p _ l.narrow top room h w.if-narrow-p-eq1.false w.top-is),
      )
    ]

pub returns : goal.returns
returns c = let l = c.loop-p in noting_end _ _ _ _ _ _ (rising_over l.p _ (omega arith)) l.invariant.1
