-- Loops as functions: steps that can fail, taken one after another; the least number that succeeds; whether a number below a bound passes a test; sums and the greatest value.
use Rattle.std.specs.Prelude.{ℕ, zero, suc, ◌+◌, max, Bool, false, ◌||◌}
use Rattle.std.proofs.Math.Option.{Option, none, some, bind}

-- the first n steps of f from s, each told its number; a step that fails, fails the whole
unfoldable pub steps : {S : Type 0} → (ℕ → S → Option S) → ℕ → S → Option S
steps f zero s = some s
steps f (suc n) s = bind (steps f n s) (f n)

-- the least of the numbers p, p + 1, .., `count` of them, at which `try` succeeds, with its answer
unfoldable pub least : {A : Type 0} → (ℕ → Option A) → ℕ → ℕ → Option (ℕ × A)
least try zero p = none
least try (suc count) p = elim (try p) [ none ↦ least try count (suc p) | some a ↦ some (p, a) ]

-- whether a number below n passes the test
unfoldable pub any_below : (ℕ → Bool) → ℕ → Bool
any_below test zero = false
any_below test (suc n) = any_below test n || test n

-- f 0 + f 1 + .., n terms
unfoldable pub total : (ℕ → ℕ) → ℕ → ℕ
total f zero = 0
total f (suc n) = total f n + f n

-- the greatest of f 0, f 1, .., n values; 0 of none
unfoldable pub maximum : (ℕ → ℕ) → ℕ → ℕ
maximum f zero = 0
maximum f (suc n) = max (maximum f n) (f n)
