-- The figures at the edges of document 01, P1 to P9, as one table over the written rules.
use Rattle.std.specs.Prelude.{Ok, ℕ, ◌-◌, ◌^◌, ◌≡◌, List, [], ◌∷◌, length}
use Rattle.layout.specs.Layout.{arena_in}
use Rattle.records.specs.Example.{example_arena}
use Rattle.construct.specs.Construct.{buckets_of}
use Rattle.point.specs.Table.{key_place}
use Rattle.finish.specs.Body.{arena_start}
use Rattle.finish.specs.Finish.{keys_of, finish_of}
use Rattle.fuse.specs.Positions.{positions_of}
use Rattle.sizing.specs.Sizing.{segment_of, segments_of, cells_of}
use Rattle.promises.specs.Example.{example_body}

-- where the record of a body's i-th key begins, counted from the arena start
abbrev pub record_place : List ℕ → ℕ → ℕ
record_place body i = key_place body i - arena_in body

-- those of three keys
abbrev pub record_places : List ℕ → List ℕ
record_places body = record_place body 0 ∷ record_place body 1 ∷ record_place body 2 ∷ []

-- the segment, the number of segments and the cells for n hashes
unfoldable pub filter_size : ℕ → List ℕ
filter_size n = segment_of n ∷ segments_of n ∷ cells_of n ∷ []

pub record Figures : Type 0 where
  pub P1 : buckets_of 1 ∷ buckets_of 3 ∷ buckets_of 4 ∷ [] ≡ 1 ∷ 1 ∷ 2 ∷ []
  pub P2 : arena_start 1 ∷ arena_start 3 ∷ [] ≡ 48 ∷ 72 ∷ []
  pub P3_keys : keys_of example_arena ≡ 3
  pub P3_finished : finish_of example_arena 204 6 32 ≡ Ok 204
  pub P3_body : length example_body ≡ 204
  pub P3_records : record_places example_body ≡ 0 ∷ 51 ∷ 102 ∷ []
  pub P4_one : filter_size 1 ≡ 1 ∷ 14 ∷ 14 ∷ []
  pub P4_two : filter_size 2 ≡ 1 ∷ 14 ∷ 14 ∷ []
  pub P4_three : filter_size 3 ≡ 1 ∷ 14 ∷ 14 ∷ []
  pub P5 : filter_size 4 ≡ 1 ∷ 15 ∷ 15 ∷ []
  pub P6 : filter_size 5 ≡ 2 ∷ 9 ∷ 18 ∷ []
  pub P7 : filter_size 65536 ≡ 512 ∷ 146 ∷ 74752 ∷ []
  pub P8 : positions_of 1 11 0 ≡ 0 ∷ 1 ∷ 2 ∷ 3 ∷ []
  pub P9 : positions_of 2 6 (2 ^ 64 - 1) ≡ 11 ∷ 12 ∷ 14 ∷ 16 ∷ []
