-- Counting in a list.
use Rattle.std.specs.Prelude.{Bool, cond, List, [], ◌∷◌, ℕ, zero, suc, ◌+◌, eqb, ltb}

-- 1 for a test that passes, 0 for one that fails
abbrev pub one : Bool → ℕ
one b = cond b 1 0

-- how often v stands in the list
unfoldable pub occurs : ℕ → List ℕ → ℕ
occurs v [] = 0
occurs v (x ∷ xs) = one (eqb v x) + occurs v xs

-- v stands in the list
abbrev pub among : ℕ → List ℕ → Bool
among v xs = ltb 0 (occurs v xs)

-- x in front if the test passes
abbrev pub keep : Bool → ℕ → List ℕ → List ℕ
keep b x xs = cond b (x ∷ xs) xs

-- the list without the first v
unfoldable pub without : ℕ → List ℕ → List ℕ
without v [] = []
without v (x ∷ xs) = cond (eqb v x) xs (x ∷ without v xs)

-- the n numbers from i on, rising
unfoldable pub rising : ℕ → ℕ → List ℕ
rising i zero = []
rising i (suc n) = i ∷ rising (suc i) n
