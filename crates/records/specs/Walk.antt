-- The walk over an arena: how far the rules hold.
use Rattle.std.specs.Prelude.{ℕ, zero, suc, cond, List, ◌≡◌, eqb, length}
use Rattle.records.specs.Limits.{DataLength}
use Rattle.numbers.specs.Numbers.{number_of}
use Rattle.records.specs.declared.Walked.{Walked}
use Rattle.records.specs.Places.{next_entry}
use Rattle.records.specs.Rules.{entry_refusal}

-- a walk: the keys that passed, the place after the last whole one, and the number of the rule that stopped it (0: none)
pub record Walk : Type 0 where
  pub keys : ℕ
  pub end : ℕ
  pub rule : ℕ

-- one key more has passed
abbrev pub passed : Walk → Walk
passed w = record { keys = suc w.keys; end = w.end; rule = w.rule }

-- 30 bytes left over, where a walk ends at p
abbrev pub end_refusal : List ℕ → ℕ → ℕ
end_refusal bytes p = cond (eqb p (length bytes)) 0 30

-- at most k keys from p on: how many passed, the place after the last whole one, and the rule that stopped the walk
-- (30 bytes left over after k keys, 0 none)
unfoldable pub walk_from : (slots : ℕ → ℕ) → List ℕ → DataLength → (prev p : ℕ) → ℕ → Walk
walk_from slots bytes test prev p zero = record { keys = 0; end = p; rule = end_refusal bytes p }
walk_from slots bytes test prev p (suc k) =
    cond (eqb (entry_refusal slots bytes test prev p) 0)
    (passed (walk_from slots bytes test p (next_entry bytes p) k))
    (record { keys = 0; end = p; rule = entry_refusal slots bytes test prev p })

-- what a walk found, with its rule as a refusal
pub record Finds (found : Walked) (walk : Walk) : Type 0 where
  pub keys : found.keys ≡ walk.keys
  pub end : found.end ≡ walk.end
  pub rule : number_of found.rule ≡ walk.rule
