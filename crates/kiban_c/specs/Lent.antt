-- What the boundary checks before a call's own checks, and what that leaves of the call: its number, and each list lent to it.
use Rattle.std.specs.Prelude.{ℕ, ◌<◌, ◌≤◌, ◌≡◌, cond, List, ltb, eqb, length}
use Rattle.laws.specs.Refusals.{Cause, cause, first_of, or_else}
use Rattle.records.specs.Rules.{bad_kind}

-- the list lent for the answer is shorter than said, 6
abbrev pub answer_short : (answer : List ℕ) (said : ℕ) → Cause
answer_short answer said = cause (ltb (length answer) said) 6

-- the state is under three words, 1
abbrev pub state_short : (state : List ℕ) → Cause
state_short state = cause (ltb (length state) 3) 1

-- the kind is neither 1 (put) nor 2 (tombstone), 28
abbrev pub kind_other : (kind : ℕ) → Cause
kind_other kind = cause (bad_kind kind) 28

-- the number that a call returns: that of the first check that holds, else the call's own
unfoldable pub number_by : (checks : List Cause) (own : ℕ) → ℕ
number_by checks own = or_else (first_of checks) own

-- a lent list after it: as it was where a check holds, else as the call itself leaves it
unfoldable pub left_by : (checks : List Cause) (before after : List ℕ) → List ℕ
left_by checks before after = cond (eqb (first_of checks) 0) after before

-- 6 for an answer shorter than said, before all else; with as much as said, the call's own number
pub record SixFirst (answer : List ℕ) (said own r : ℕ) : Type 0 where
  pub shorter : length answer < said → r ≡ 6
  pub enough_lent : said ≤ length answer → r ≡ own
