-- The attempts, one after another: the loop's invariant is that those before failed, and that the cells are as they were. Assumes nothing.
use mathlib.Core.Path.{◌∙◌}
use native.Mathlib.Omega.{arith}
use Rattle.filter.proofs.BuildingLaws.{tried_hit, tried_miss, tried_none}
use borrow.Author.Rules.{rules}
use Rattle.filter.proofs.building.search.Goals as goal

pub returns-then-attempt : goal.returns-then-attempt
returns-then-attempt c = let s = c in
    let l = c.loop-i in
    tried_hit s.args.s s.args.hashes.now l.cells c.attempt.new.cells c.mix.result l.i c.attempt.result
    (rw (c.segments.ensures.0, c.segments.ensures.1) at c.attempt.ensures)
    c.mix.ensures l.invariant.0 (omega arith) (omega arith) c.if-attempt.true s.args.cells.now

pub loop-i-preserved : goal.loop-i-preserved
loop-i-preserved c = let s = c in
    let l = c.loop-i in
    let m = tried_miss s.args.s s.args.hashes.now l.cells c.attempt.new.cells c.mix.result l.i c.attempt.result
    (rw (c.segments.ensures.0, c.segments.ensures.1) at c.attempt.ensures)
    c.mix.ensures l.invariant.0 c.if-attempt.false in
    (m.0, search rules, search rules, search rules, m.1 ∙ l.invariant.4)

pub returns : goal.returns
returns c = let l = c.loop-i in
    tried_none _ _ _ _ l.i l.invariant.0 (omega arith) l.invariant.4
