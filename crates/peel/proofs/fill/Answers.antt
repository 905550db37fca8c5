-- The cells are filled in reverse order of peeling. Assumes nothing.
use Rattle.std.proofs.Common.{arith, length-set}
use Rattle.peel.proofs.StepLaws.{fill_turn, fill_end}
use Rattle.peel.proofs.fill.Goals as goal

pub loop-i-preserved : goal.loop-i-preserved
loop-i-preserved c = let s = c in
    let l = c.loop-i in (
      simp length-set l.invariant.0,
      fill_turn _ s.args.g.cells s.args.wide.now s.args.narrow.now l.cells _ l.i _ (omega arith) c.xor-x.ensures l.invariant.1,
    )

pub returns : goal.returns
returns c = let s = c in
    let l = c.loop-i in
    fill_end _ s.args.g.cells s.args.wide.now s.args.narrow.now l.cells _ l.i (omega arith) l.invariant.1
