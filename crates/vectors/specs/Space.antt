-- Space that a call is lent.
use Rattle.std.specs.Prelude.{ℕ, Bool, ◌&&◌, List, length, take, drop, ◌==◌, nat_le}
use Rattle.std.specs.List.{list_all}
use Rattle.words.specs.Part.{same_as}

-- whether every number is v
abbrev pub all_of : ℕ → List ℕ → Bool
all_of v xs = list_all (λ x. x == v) xs

-- whether output begins with these bytes, and holds A5 behind them
abbrev pub written_as : List ℕ → List ℕ → Bool
written_as want out = nat_le (length want) (length out) && (same_as (take (length want) out) want && all_of 0xa5 (drop (length want) out))
