-- What is listed.
use Rattle.std.specs.Prelude.{ℕ, List}

-- a body, and the limit that it is listed under
pub record Limited : Type 0 where
  pub limit : ℕ
  pub body : List ℕ
