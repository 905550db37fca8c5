-- `construct::construct` meets its contract. The loop's invariant: every attempt before i failed. Assumes nothing.
use native.Mathlib.Omega.{arith}
use Rattle.construct.specs.Construct.{attempts}
use Rattle.construct.proofs.ConstructLaws.{built_none, built_placed, failed_more}
use Rattle.construct.proofs.construct.Goals as goal

pub returns-then-attempt : goal.returns-then-attempt
unfolding attempts
returns-then-attempt c = let a = c.attempt in
    built_placed _ _ _ c.loop-i.invariant _ _ a.new.wide a.new.narrow a.result c.buckets-b.ensures c.seed.ensures a.ensures
    (omega arith) c.if-attempt.true

pub loop-i-preserved : goal.loop-i-preserved
loop-i-preserved c = let a = c.attempt in
    failed_more _ _ _ c.loop-i.invariant _ _ a.new.wide a.new.narrow a.result c.buckets-b.ensures c.seed.ensures a.ensures c.if-attempt.false

pub returns : goal.returns
unfolding attempts
returns c = built_none _ _ _ c.loop-i.invariant (omega arith) _ _
