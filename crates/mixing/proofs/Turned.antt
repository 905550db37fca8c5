-- A rotation as the library has it: its two parts share no bit. Assumes nothing.
use Rattle.std.proofs.Common.{◌≡◌, ℕ, ◌+◌, ◌*◌, ◌/◌, ◌%◌, ◌^◌, ◌<◌, ◌∙◌, add-zero, shr_lt, w64}
use Rattle.std.specs.Int.{rotate_left}
use native.Mathlib.Nat.{mul-mod_left}
use lib.Pow.{mod-pow-add, shl-shr}
use lib.Bits.{bit_or, or_shifted}
use Rattle.words.specs.Wide.{rotated}

-- what a shift to the left by k keeps of a word of j + k bits
shifted : (j k x : ℕ) → x * 2 ^ k % 2 ^ (j + k) ≡ x % 2 ^ j * 2 ^ k
shifted j k x = mod-pow-add (x * 2 ^ k) j k ∙ simp (shl-shr, mul-mod_left, add-zero)

parts : (j k x : ℕ) → x < 2 ^ (k + j) → bit_or (x * 2 ^ k % 2 ^ (j + k)) (x / 2 ^ j) ≡ x * 2 ^ k % 2 ^ (j + k) + x / 2 ^ j
parts j k x h = rw shifted (or_shifted (x % 2 ^ j) k (x / 2 ^ j) (shr_lt k j h))

pub turned : (x : ℕ) → x < 2 ^ 64 → rotate_left w64 x 27 ≡ rotated 27 x
unfolding rotated
turned x h = parts 37 27 x h
