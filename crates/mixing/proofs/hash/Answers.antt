-- `hash` takes the words in one by one, and the state so far is the invariant; then the rest. Assumes nothing.
use Rattle.std.proofs.Common.{◌≡◌, ℕ, ◌*◌, ◌/◌, length, drop, sym, ap, ◌∙◌, add-one, arith}
use Rattle.words.specs.Field.{le}
use lib.Bits.{bit_xor}
use Rattle.mixing.specs.Mixing.{mix_of, taken, filled, absorbed}
use Rattle.mixrule.specs.Mixing.Opened.{absorbed_none, absorbed_more, hash_is}
use Rattle.mixing.proofs.hash.Goals as goal

pub loop-i-init : goal.loop-i-init
loop-i-init c = c.mix-h.ensures ∙ sym (absorbed_none c.args.seed c.args.key.now)

pub loop-i-preserved : goal.loop-i-preserved
loop-i-preserved c = let s = c.args in
    let l = c.loop-i in
    rw add-one
    (c.take_in-h.ensures
    ∙ ap (taken l.h) c.u64_at.ensures
    ∙ ap (λ (x : ℕ). taken x (le 8 s.key.now (8 * l.i))) l.invariant
    ∙ sym (absorbed_more s.seed s.key.now l.i))

pub returns : goal.returns
returns c = let s = c.args in
    let l = c.loop-i in
    let e : l.i ≡ length s.key.now / 8 = omega arith in
    c.mix.ensures
    ∙ ap mix_of c.xor_rest.ensures
    ∙ ap (λ (x : ℕ). mix_of (bit_xor x (filled (drop (8 * (length s.key.now / 8)) s.key.now)))) (l.invariant ∙ ap (absorbed s.seed s.key.now) e)
    ∙ sym (hash_is s.seed s.key.now)
