-- Between the steps: what is left by writing a record behind the used bytes.
use Rattle.std.specs.Prelude.{ℕ, ◌-◌, ◌≡◌, List}
use Rattle.builder.specs.declared.PointBuilder.{PointBuilder}

-- what an append commits to: the next state with its patch place, and the buffer
pub record AppendPost (next : PointBuilder) (buffer : List ℕ) (r : PointBuilder × ℕ) (after : List ℕ) : Type 0 where
  pub answer : r ≡ (next, next.used - 8)
  pub left : after ≡ buffer
