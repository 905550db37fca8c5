-- `position` mixes the hash with the pilot's multiple of STEP and takes the remainder. Assumes nothing.
use Rattle.std.proofs.Common.{ℕ, ◌%◌, sym, ap, ◌∙◌}
use Rattle.mixrule.specs.Mixing.Opened.{position_is}
use Rattle.mixing.proofs.position.Goals as goal

pub returns : goal.returns
returns c = let s = c.args in
    c.remainder.ensures ∙ ap (λ (x : ℕ). x % s.n) c.mix.ensures ∙ sym (position_is s.h s.pilot s.n)
