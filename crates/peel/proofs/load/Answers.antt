-- Degrees and xors of the mixed hashes. Assumes nothing.
use Rattle.std.proofs.Common.{◌-◌, sym, ◌∙◌, arith, rules}
use lib.ListN.{length-map}
use Rattle.laws.proofs.Lists.{map_at}
use Rattle.peel.proofs.TableLaws.{tables_load}
use Rattle.fuse.specs.Asking.{graph_hash}
use Rattle.peel.specs.Peel.{mixed}
use Rattle.peel.proofs.PlaceLaws.{graph_placed}
use Rattle.peel.proofs.load.Goals as goal

pub change-requires : goal.change-requires
change-requires c = let s = c in
    let l = c.loop-i in
    let a = s.args in
    let ps = c.positions-four.ensures in
    let k = graph_placed a.g _ _ _ c.graph_hash-h.ensures in
    rw ps ((λ v z. k.below v (omega (arith, l.invariant.2.degrees))), λ v z. k.below v (omega (arith, l.invariant.2.mixes)))

pub loop-i-preserved : goal.loop-i-preserved
loop-i-preserved c = let s = c in
    let l = c.loop-i in
    let a = s.args in
    let k = c.graph_hash-h.ensures in
    let m = length-map a.hashes.now (graph_hash a.g.seed) in (
      search rules,
      search rules,
      tables_load _ a.g.cells (mixed a.g.seed a.hashes.now) _ _ _ _ _ _ l.i (omega arith) (omega arith)
          (k ∙ sym (map_at (graph_hash a.g.seed) a.hashes.now (l.i - 1) (omega arith)))
          c.positions-four.ensures (graph_placed a.g _ _ _ k) (omega arith) l.invariant.2 c.change.ensures.0
          c.change.ensures.1,
    )
