-- Between the steps: what the functions that seat a bucket's members ask and promise.
use Rattle.std.specs.Prelude.{ℕ, suc, ◌≤◌, ◌<◌, ◌≡◌, Bool, true, false, List, length, get_or, Option, Some, None}
use Rattle.std.proofs.Math.Option.{Option as Maybe, none, some}
use Rattle.laws.specs.Steps.{least}
use Rattle.construct.specs.Construct.{direct, tries, seat}

-- hashes of some keys, fewer than 2^31, and members that are such keys
pub record Keys (hs ms : List ℕ) : Type 0 where
  pub any : 0 < length hs
  pub most : length hs < direct
  pub keys : (j : ℕ) → j < length ms → get_or ms j 0 < length hs

-- r members were seated, and the next, if there is one, cannot be
pub record SeatedTo (hs ms : List ℕ) (p : ℕ) (before after : List ℕ) (r : ℕ) : Type 0 where
  pub most : r ≤ length ms
  pub seats : seat hs ms p r before ≡ some after
  pub stuck : r < length ms → seat hs ms p (suc r) before ≡ none

-- a try that answers whether it succeeded, and changes nothing where it did not
abbrev pub SeatTried : Maybe (List ℕ) → List ℕ → List ℕ → Bool → Type 0
SeatTried o before after true = o ≡ some after
SeatTried o before after false = (o ≡ none) × (after ≡ before)

-- the least pilot, and the slots after it; or that there is none, and the slots as they were
abbrev pub PilotSearched : (hs ms before after : List ℕ) → Option ℕ → Type 0
PilotSearched hs ms before after (Some p) = (p < tries) × (least (λ q. seat hs ms q (length ms) before) tries 0 ≡ some (p, after))
PilotSearched hs ms before after None = (least (λ q. seat hs ms q (length ms) before) tries 0 ≡ none) × (after ≡ before)
