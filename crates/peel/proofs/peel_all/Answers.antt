-- All steps of an attempt. Assumes nothing.
use Rattle.std.proofs.Common.{◌≡◌, refl, arith, rules}
use Rattle.peel.proofs.StepLaws.{run_step, run_none, attempt_is}
use Rattle.peel.proofs.peel_all.Goals as goal

pub loop-init : goal.loop-init
loop-init c = (refl, refl, λ hs R. rw run_none R)

pub loop-preserved : goal.loop-preserved
loop-preserved c = let l = c.loop in
    (search rules, search rules, λ hs R. rw run_step (c.step-at.ensures hs _ (l.invariant.2 hs R)))

pub returns : goal.returns
returns c = λ hs R.
    let l = c.loop in
    let e : l.counter ≡ c.args.g.cells = omega arith in
    (l.at.top, rw attempt_is (rw e at (l.invariant.2 hs R)))
