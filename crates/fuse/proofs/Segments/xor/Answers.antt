-- `Segments::xor` meets its contract.
use Rattle.std.proofs.Common.{ℕ, List, get_or, ap, arith}
use Rattle.fuse.proofs.Props.{usable_known}
use Rattle.fuse.proofs.PositionLaws.{cell_below, position_at}
use Rattle.fuse.proofs.AskLaws.{xor_turn, xor_end}
use Rattle.fuse.proofs.Segments.xor.Goals as goal

pub bounds-cells-p : goal.bounds-cells-p
bounds-cells-p c = let a = c.args in
    let i : ℕ = c.loop-p.p-index in
    omega (
      arith,
      c.requires,
      ap (λ (ps : List ℕ). get_or ps i 0) c.positions-p-items.ensures,
      position_at a.self.segment a.self.count a.h i (omega arith),
      cell_below a.self.segment a.self.count (usable_known _ _ a.self.usable) a.h c.ranges.h.fits i (omega arith),
    )

pub loop-p-preserved : goal.loop-p-preserved
loop-p-preserved c = let l = c.loop-p in
    xor_turn c.args.cells.now _ l.p-index l.x _ (omega arith) l.invariant

pub returns : goal.returns
returns c = let l = c.loop-p in
    xor_end c.args.cells.now _ l.p-index l.x _ (omega arith) l.invariant
