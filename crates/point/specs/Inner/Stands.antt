-- Between the steps: what a reader of every entry knows of an accepted body.
use Rattle.std.specs.Prelude.{ℕ, ◌≤◌, List, length}
use Rattle.layout.specs.Layout.{keys_in, arena_in}
use Rattle.records.specs.Inner.Stands.{EntriesStand}

-- the header and the arena's start lie in the body, and all entries that the header counts stand
pub record TableStands (body : List ℕ) : Type 0 where
  pub long : 32 ≤ length body
  pub arena : arena_in body ≤ length body
  pub all : EntriesStand body (arena_in body) (keys_in body)
