-- `short` joins the first bytes of a short key and its last, at both widths by one law. Assumes nothing.
use Rattle.std.proofs.Common.{arith}
use Rattle.mixing.proofs.RestLaws.{rest_ends, rest_byte}
use Rattle.mixing.proofs.short.Goals as goal

pub returns-then-n-ge4 : goal.returns-then-n-ge4
returns-then-n-ge4 c = let s = c in
    rest_ends s.args.key.now 4 (λ i. (s.type_inv.key i).fits) (omega arith) (omega arith) c.u32_at-first.ensures c.u32_at-last.ensures c.shift_down.ensures

pub returns-then-n-ge2 : goal.returns-then-n-ge2
returns-then-n-ge2 c = let s = c in
    rest_ends s.args.key.now 2 (λ i. (s.type_inv.key i).fits) (omega arith) (omega arith) c.u16_at-first.ensures c.u16_at-last.ensures c.shift_down-then-n-ge2.ensures

pub returns : goal.returns
returns c = rest_byte c.args.key.now (omega arith)
