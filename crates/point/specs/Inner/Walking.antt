-- Between the steps: what validation, of a body that passed 20 to 22, knows of the place that it is at.
use Rattle.std.specs.Prelude.{ℕ, ◌≤◌, List, length}
use Rattle.layout.specs.Layout.{arena_in}
use Rattle.records.specs.Inner.Walking.{Walking}
use Rattle.records.specs.Places.{first_version}

-- the key at p stands in the arena
pub record Reached (body : List ℕ) (p : ℕ) : Type 0 where
  pub here : arena_in body ≤ p
  pub whole : first_version body p ≤ length body

-- a walk over the arena has come to p, from the entry at prev
pub record Stepping (body : List ℕ) (prev p : ℕ) : Type 0 where
  pub here : arena_in body ≤ p
  pub walking : Walking body prev p
