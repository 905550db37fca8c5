-- Demand 1 holds at the C boundary, from the laws of kiban_c. Assumes nothing.
use Rattle.kiban_c.proofs.ExactLaws as exact
use Rattle.promises.specs.Boundary.{BoundaryRefusals}

-- THEOREM: demand 1, of each function of the C boundary
pub boundary_refusals : BoundaryRefusals
boundary_refusals = record {
  sort_refuses_nothing = exact.sort_refuses_nothing;
  add = λ P. record {
    add_answer_short = exact.add_answer_short P;
    add_state_short = exact.add_state_short P;
    add_kind_other = exact.add_kind_other P;
    add_kind_only = exact.add_kind_only P;
    add_own = exact.add_own P;
    add_refused_leaves = exact.add_refused_leaves P;
  };
  set_offset = λ P. record {
    set_offset_state_short = exact.set_offset_state_short P;
    set_offset_own = exact.set_offset_own P;
    set_offset_refused_leaves = exact.set_offset_refused_leaves P;
  };
  finish = λ P. record { finish_answer_short = exact.finish_answer_short P; finish_refused_leaves = exact.finish_refused_leaves P };
  get = λ P. record {
    get_answer_short = exact.get_answer_short P;
    get_answer_only = exact.get_answer_only P;
    get_refused_leaves = exact.get_refused_leaves P;
  };
  filter_build = λ P. record { filter_build_answer_short = exact.filter_build_answer_short P; filter_build_refused_leaves = exact.filter_build_refused_leaves P };
  filter_read = λ P. record {
    filter_read_answer_short = exact.filter_read_answer_short P;
    filter_read_answer_only = exact.filter_read_answer_only P;
    filter_read_refused_leaves = exact.filter_read_refused_leaves P;
  };
  filter_ask_all = λ P. record {
    filter_ask_all_answer_short = exact.filter_ask_all_answer_short P;
    filter_ask_all_answer_only = exact.filter_ask_all_answer_only P;
    filter_ask_all_refused_leaves = exact.filter_ask_all_refused_leaves P;
  };
  listing = λ P. record { listing_answer_short = exact.listing_answer_short P; listing_refused_leaves = exact.listing_refused_leaves P };
}
