-- All that is promised holds. Assumes nothing.
use Rattle.promises.specs.Promised.{Promised}
use Rattle.promises.proofs.Refused.{demand_1}
use Rattle.promises.proofs.Boundary.{boundary_refusals}
use Rattle.promises.proofs.Answers.{answers}
use Rattle.promises.proofs.Accepted.{on_accepted}
use Rattle.promises.proofs.Taken.{taken_lists, never_oldest_first}
use Rattle.promises.proofs.Finished.{on_finished}
use Rattle.promises.proofs.Filter.{on_filter, filter_rules}
use Rattle.promises.proofs.Listed.{on_listing}
use Rattle.promises.proofs.Unique.{unique, boundary_unique}
use Rattle.promises.proofs.Example.{example}
use Rattle.promises.proofs.Unplaced.{unplaced}
use Rattle.promises.proofs.Figures.{figures}
use Rattle.promises.proofs.IdleAdd.{idle_add}
use Rattle.promises.proofs.IdleIndex.{idle_index}
use Rattle.promises.proofs.IdleFilter.{idle_filter}

-- THEOREM: every page holds
pub promised : Promised
promised = record {
  demand_1 = demand_1;
  demand_1_boundary = boundary_refusals;
  demand_3 = record { on_finished = on_finished; on_accepted = on_accepted; on_filter = on_filter };
  taken_lists = taken_lists;
  never_oldest_first = never_oldest_first;
  answers = answers;
  unique = unique;
  boundary_unique = boundary_unique;
  on_listing = on_listing;
  filter_rules = filter_rules;
  figures = figures;
  example = example;
  unplaced = unplaced;
  idle_add = idle_add;
  idle_index = idle_index;
  idle_filter = idle_filter;
}
