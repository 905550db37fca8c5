-- A factor counts in a wrapping product only by its remainder. Assumes nothing.
use Rattle.std.proofs.Common.{◌≡◌, ℕ, ◌+◌, ◌*◌, ◌/◌, ◌%◌, sym, ap, ◌∙◌, mul_assoc, div-add-mod', mul-add}
use native.Mathlib.Nat.{mul-add-mod_self_right}

pub wrapped : (a b m : ℕ) → a * (b % m) % m ≡ a * b % m
wrapped a b m =
    sym (mul-add-mod_self_right (a * (b / m)) m (a * (b % m)))
    ∙ ap (λ (n : ℕ). (n + a * (b % m)) % m) (mul_assoc a (b / m) m)
    ∙ ap (λ (n : ℕ). n % m) (sym (mul-add a (b / m * m) (b % m)) ∙ ap (λ (n : ℕ). a * n) (div-add-mod' b m))
