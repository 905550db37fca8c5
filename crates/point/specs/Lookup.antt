-- What a lookup in a table means: a record of the key within the limit that no other passes.
use Rattle.std.specs.Prelude.{◌≤◌, ◌≡◌, true, false}
use mathlib.Core.List.{List, Memᴰ}
use Rattle.records.specs.declared.Record.{Record}
use Rattle.records.specs.Limits.{Limit}
use Rattle.records.specs.Model.{within}

-- a record among these, within the limit, and none of these within the limit has a greater sequence
pub record Newest (limit : Limit) (rs : List Record) (r : Record) : Type 0 where
  pub among : Memᴰ r rs
  pub allowed : within limit r.sequence ≡ true
  pub most : (s : Record) → Memᴰ s rs → within limit s.sequence ≡ true → s.sequence ≤ r.sequence

-- none of these is within the limit
pub record NoneWithin (limit : Limit) (rs : List Record) : Type 0 where
  pub outside : (s : Record) → Memᴰ s rs → within limit s.sequence ≡ false
