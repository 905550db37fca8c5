-- `Segments::cell` meets its contract.
use Rattle.std.proofs.Common.{◌≡◌, ℕ, ◌*◌, ◌/◌, ◌^◌, ◌∙◌}
use Rattle.fuse.specs.Positions.{first_cell}
use Rattle.laws.proofs.PowerLaws.{power_pos}
use Rattle.fuse.proofs.Props.{usable_known}
use Rattle.fuse.proofs.PositionLaws.{cell_first, cell_other}
use Rattle.fuse.proofs.Segments.cell.Goals as goal

-- the first position
first : (segment count h a : ℕ) → a ≡ h * (count * segment) / 2 ^ 64 → a ≡ first_cell segment count h
unfolding first_cell
first segment count h a e = e

pub overflow_sub-result : goal.overflow_sub-result
overflow_sub-result c = power_pos _ (usable_known _ _ c.args.self.usable).power

pub returns-then-i-eq0 : goal.returns-then-i-eq0
returns-then-i-eq0 c = let a = c.args in
    first _ _ _ _ c.mul_high-a.ensures ∙ cell_first a.self.segment a.self.count a.h a.i c.if-i-eq0.true

pub returns : goal.returns
returns c = let s = c in
    let a = s.args in
    cell_other a.self.segment a.self.count a.h a.i c.mul_high-a.result (usable_known _ _ a.self.usable).power c.if-i-eq0.false (first _ _ _ _ c.mul_high-a.ensures)
