-- All that is promised: a field for each page of this crate. `promises/proofs/Promised.antt` has the theorem `promised` that it holds.
-- Demand 2, that bytes and answers equal the Rust's, is shown by runs (docs/COMPARISON.md); the layouts and steps of document 01 are what the
-- contracts cited here say.
use Rattle.promises.specs.Refused.{Demand1}
use Rattle.promises.specs.Boundary.{BoundaryRefusals}
use Rattle.promises.specs.Answers.{Answers}
use Rattle.promises.specs.Accepted.{OnAccepted}
use Rattle.promises.specs.Taken.{TakenLists, NeverOldestFirst}
use Rattle.promises.specs.Finished.{OnFinished}
use Rattle.promises.specs.Filter.{OnFilter, FilterRules}
use Rattle.promises.specs.Listed.{OnListing}
use Rattle.promises.specs.Unique.{Unique, BoundaryUnique}
use Rattle.promises.specs.Example.{Example}
use Rattle.promises.specs.Unplaced.{Unplaced}
use Rattle.promises.specs.Figures.{Figures}
use Rattle.promises.specs.IdleAdd.{IdleAdd}
use Rattle.promises.specs.IdleIndex.{IdleIndex}
use Rattle.promises.specs.IdleFilter.{IdleFilter}

-- demand 3, in its three sentences
pub record Demand3 : Type 0 where
  -- a list that was taken and finished
  pub on_finished : OnFinished
  -- any bytes that validation accepts
  pub on_accepted : OnAccepted
  -- a filter built from a set of hashes
  pub on_filter : OnFilter

pub record Promised : Type 0 where
  -- the demands, at each call and at the C boundary
  pub demand_1 : Demand1
  pub demand_1_boundary : BoundaryRefusals
  pub demand_3 : Demand3
  -- taken lists, and the error that started this project
  pub taken_lists : TakenLists
  pub never_oldest_first : NeverOldestFirst
  -- the number and values of each answer, and that results are fixed
  pub answers : Answers
  pub unique : Unique
  pub boundary_unique : BoundaryUnique
  -- what the desk reads
  pub on_listing : OnListing
  -- the filter's bound and rule, the figures P1 to P9
  pub filter_rules : FilterRules
  pub figures : Figures
  -- the example, finished, accepted and listed, byte for byte; a list that finish answers 10 to
  pub example : Example
  pub unplaced : Unplaced
  -- the idle programs, each shut out on a concrete input
  pub idle_add : IdleAdd
  pub idle_index : IdleIndex
  pub idle_filter : IdleFilter
