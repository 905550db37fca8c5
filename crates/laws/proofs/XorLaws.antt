-- Exclusive or is associative, and undoes itself. Assumes nothing.
use mathlib.Core.Path.{◌≡◌, refl, sym, ap, ap₂, ◌∙◌}
use Prim.Native.Nat.{ℕ, zero, suc, ◌+◌, ◌*◌, ◌/◌, ◌%◌, ◌<◌}
use native.Mathlib.Nat.{mod-lt}
use native.Mathlib.Omega.{arith}
use lib.Arith.{bin_ind, digits_mod}
use lib.Dec.{lit<}
use lib.Bits.{bit_xor, differ, xor_step, xor_zero_l, xor_zero_r, xor_self, xor_comm, xor_shr}

differ_assoc : (a b c : ℕ) → a < 2 → b < 2 → c < 2 → differ (differ a b) c ≡ differ a (differ b c)
differ_assoc zero b c ha hb hc = refl
differ_assoc (suc zero) zero c ha hb hc = refl
differ_assoc (suc zero) (suc zero) zero ha hb hc = refl
differ_assoc (suc zero) (suc zero) (suc zero) ha hb hc = refl
differ_assoc (suc zero) (suc zero) (suc (suc c)) ha hb hc = omega arith
differ_assoc (suc zero) (suc (suc b)) c ha hb hc = omega arith
differ_assoc (suc (suc a)) b c ha hb hc = omega arith

differ_lt : (a b : ℕ) → a < 2 → b < 2 → differ a b < 2
differ_lt zero b ha hb = hb
differ_lt (suc zero) zero ha hb = ha
differ_lt (suc zero) (suc zero) ha hb = omega arith
differ_lt (suc zero) (suc (suc b)) ha hb = omega arith
differ_lt (suc (suc a)) b ha hb = omega arith

half : (a b : ℕ) → bit_xor a b / 2 ≡ bit_xor (a / 2) (b / 2)
half a b = xor_shr a b 1

odd : (a b : ℕ) → bit_xor a b % 2 ≡ differ (a % 2) (b % 2)
odd a b = ap (λ (x : ℕ). x % 2) (xor_step a b) ∙ digits_mod (bit_xor (a / 2) (b / 2)) (differ_lt (a % 2) (b % 2) (mod-lt a (lit< tt)) (mod-lt b (lit< tt)))

pub xor_assoc : (a b c : ℕ) → bit_xor (bit_xor a b) c ≡ bit_xor a (bit_xor b c)
xor_assoc =
    bin_ind (λ (n : ℕ). (b c : ℕ) → bit_xor (bit_xor n b) c ≡ bit_xor n (bit_xor b c))
    (λ b c. ap (λ (x : ℕ). bit_xor x c) (xor_zero_l b) ∙ sym (xor_zero_l (bit_xor b c)))
    (λ n ih b c.
    xor_step (bit_xor n b) c
    ∙ ap₂ (λ (x y : ℕ). x * 2 + y)
    (ap (λ (x : ℕ). bit_xor x (c / 2)) (half n b) ∙ ih (b / 2) (c / 2) ∙ ap (bit_xor (n / 2)) (sym (half b c)))
    (ap (λ (x : ℕ). differ x (c % 2)) (odd n b) ∙ differ_assoc (n % 2) (b % 2) (c % 2) (mod-lt n (lit< tt)) (mod-lt b (lit< tt)) (mod-lt c (lit< tt)) ∙ ap (differ (n % 2)) (sym (odd b c)))
    ∙ sym (xor_step n (bit_xor b c)))

-- two numbers change places
pub xor_swap : (a b c : ℕ) → bit_xor a (bit_xor b c) ≡ bit_xor b (bit_xor a c)
xor_swap a b c = sym (xor_assoc a b c) ∙ ap (λ (x : ℕ). bit_xor x c) (xor_comm a b) ∙ xor_assoc b a c

-- the same number twice is nothing
pub xor_back : (a b : ℕ) → bit_xor (bit_xor a b) b ≡ a
xor_back a b = xor_assoc a b b ∙ ap (bit_xor a) (xor_self b) ∙ xor_zero_r a
