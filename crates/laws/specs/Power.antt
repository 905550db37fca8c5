-- Powers of two.
use Rattle.std.specs.Prelude.{◌≡◌, ℕ, ◌^◌}

-- s is 2 to some whole power
abbrev pub PowerOfTwo : ℕ → Type 0
PowerOfTwo s = (k : ℕ) × (s ≡ 2 ^ k)
