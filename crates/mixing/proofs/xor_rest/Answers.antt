-- `xor_rest` xors in nothing, a short key, or the last eight bytes without those that the last whole word has. Assumes nothing.
use Rattle.std.proofs.Common.{ℕ, ◌-◌, ◌/◌, ◌%◌, ◌^◌, length, sym, ap, ◌∙◌, arith}
use lib.Bits.{bit_xor, xor_zero_r}
use Rattle.mixing.proofs.RestLaws.{rest_none, rest_last}
use Rattle.mixing.proofs.xor_rest.Goals as goal

pub returns-then-n-eq0 : goal.returns-then-n-eq0
returns-then-n-eq0 c = let s = c.args in
    sym (ap (bit_xor s.h) (rest_none s.key.now c.if-n-eq0.true) ∙ xor_zero_r s.h)

pub returns : goal.returns
returns c = let s = c.args in
    ap (bit_xor s.h)
    (c.shift_down.ensures ∙ ap (λ (w : ℕ). w / 256 ^ (8 - length s.key.now % 8)) c.u64_at.ensures
    ∙ rest_last s.key.now (λ i. (c.type_inv.key i).fits) (omega arith))
