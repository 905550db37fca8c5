-- The figures at the edges of document 01, computed. Assumes nothing.
use mathlib.Core.Path.{refl}
use Rattle.words.specs.Field.{spelled, le}
use Rattle.records.specs.Places.{entry_place}
use Rattle.construct.specs.Construct.{buckets_of}
use Rattle.point.specs.Table.{key_place}
use Rattle.finish.specs.Body.{arena_start}
use Rattle.fuse.specs.Positions.{first_cell, cell_of, positions_of}
use Rattle.sizing.specs.Table.{firsts, segments}
use Rattle.sizing.specs.Sizing.{rule, exponent_up_to, exponent_of, segment_of, up_to, segments_of, cells_of}
use Rattle.promises.specs.Example.{example_body}
use Rattle.promises.specs.Figures.{filter_size, Figures}
use Rattle.promises.proofs.Example.{example}

-- THEOREM: all of them hold
pub figures : Figures
unfolding buckets_of arena_start example_body le spelled key_place entry_place filter_size segment_of segments_of cells_of exponent_of exponent_up_to rule up_to firsts segments positions_of cell_of first_cell
figures = record {
  P1 = refl;
  P2 = refl;
  P3_keys = example.example_keys;
  P3_finished = example.example_fits;
  P3_body = refl;
  P3_records = refl;
  P4_one = refl;
  P4_two = refl;
  P4_three = refl;
  P5 = refl;
  P6 = refl;
  P7 = refl;
  P8 = refl;
  P9 = refl;
}
