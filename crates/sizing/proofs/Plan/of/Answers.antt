-- `sizing::Plan::of` meets its contract.
use Rattle.sizing.proofs.SizedLaws.{plan_none, plan_some}
use Rattle.sizing.proofs.Plan.of.Goals as goal

pub returns-then-n-eq0 : goal.returns-then-n-eq0
returns-then-n-eq0 c = plan_none c.args.n c.if-n-eq0.true

pub returns : goal.returns
returns c = plan_some c.args.n c.segment.result c.count.result c.if-n-eq0.false
    c.segment.ensures c.count.ensures
