-- Laws of asking: the filter's h is a word, and the xor of cells goes from the first position to the last. Assumes nothing.
use Rattle.std.proofs.Common.{◌≡◌, ℕ, suc, ◌^◌, ◌<◌, ◌≤◌, List, [], ◌∷◌, ◌+◌, add-one, sym, length, get_or, drop, ◌∙◌, drop-cons}
use lib.Bits.{bit_xor, xor_zero_r}
use Rattle.laws.proofs.XorLaws.{xor_assoc}
use lib.ListN.{drop_of_length-le}
use Rattle.mixing.specs.Mixing.{mix_of_lt}
use Rattle.fuse.specs.Asking.{graph_hash, xor_at}

pub graph_lt : (seed hash : ℕ) → graph_hash seed hash < 2 ^ 64
unfolding graph_hash
graph_lt seed hash = mix_of_lt _

-- one cell more
pub xor_turn : (cells ps : List ℕ) (i x whole : ℕ) → i < length ps → bit_xor x (xor_at cells (drop i ps)) ≡ whole
    → bit_xor (bit_xor x (get_or cells (get_or ps i 0) 0)) (xor_at cells (drop (i + 1) ps)) ≡ whole
unfolding xor_at
xor_turn cells ps i x whole l e =
    let f : bit_xor x (xor_at cells (get_or ps i 0 ∷ drop (suc i) ps)) ≡ whole = rw (drop-cons ps i 0 l) at e in
    rw add-one (xor_assoc x (get_or cells (get_or ps i 0) 0) (xor_at cells (drop (suc i) ps)) ∙ f)

-- past the last position
pub xor_end : (cells ps : List ℕ) (i x whole : ℕ) → length ps ≤ i → bit_xor x (xor_at cells (drop i ps)) ≡ whole → x ≡ whole
unfolding xor_at
xor_end cells ps i x whole l e =
    let f : bit_xor x (xor_at cells []) ≡ whole = rw (drop_of_length-le ps l) at e in
    sym (xor_zero_r x) ∙ f
