-- Two results that meet a contract coincide: each is what the contract names. Assumes nothing.
use mathlib.Core.Path.{◌≡◌, sym, ◌∙◌}
use Rattle.point.proofs.Theorems.{value_one}
use Rattle.promises.specs.Unique.{OneValue, Unique, BoundaryUnique}

same : {A : Type 0} {a r q : A} → r ≡ a → q ≡ a → r ≡ q
same p t = p ∙ sym t

one_value : {A : Type 0} (a : A) → OneValue a
one_value a r q = same

-- THEOREM: every call of builder, finish, point, filter and lines
pub unique : Unique
unique = record {
  empty_unique = one_value _;
  add_unique = λ p t. (same p.answer t.answer, same p.buffer t.buffer);
  set_unique = λ p t. (same p.answer t.answer, same p.buffer t.buffer);
  finish_unique = λ p t. (same p.answer t.answer, same p.out_after_is t.out_after_is, same p.wide_after t.wide_after, same p.narrow_after t.narrow_after);
  validate_unique = λ body size. one_value _;
  locate_unique = λ body key. one_value _;
  open_record_unique = λ body place key. one_value _;
  open_unique = λ body key. one_value _;
  get_unique = λ body size key limit. one_value _;
  value_unique = value_one;
  read_unique = λ bytes. one_value _;
  ask_unique = λ bytes hash. one_value _;
  ask_cells_unique = λ f cells hash. one_value _;
  write_unique = λ p t. (same p.answer t.answer, same p.output t.output);
  build_unique = λ p t. (
    same p.answer t.answer,
    same p.hashes_after t.hashes_after,
    same p.wide_after t.wide_after,
    same p.narrow_after t.narrow_after,
    same p.out_after_is t.out_after_is,
  );
  listing_unique = λ p t. (same p.answer t.answer, same p.buffer t.buffer);
}

-- THEOREM: every function of the C boundary
pub boundary_unique : BoundaryUnique
boundary_unique = record {
  mix_call_unique = λ h. one_value _;
  hash_call_unique = λ key seed. one_value _;
  sort_call_unique = λ p t. (same p.number t.number, same p.hashes_after t.hashes_after);
  add_call_unique = λ p t. (
    same p.number t.number,
    same p.buffer_after t.buffer_after,
    same p.state_after t.state_after,
    same p.answer_after t.answer_after,
  );
  set_offset_call_unique = λ p t. (same p.number t.number, same p.buffer_after t.buffer_after);
  finish_call_unique = λ p t. (
    same p.number t.number,
    same p.out_after_is t.out_after_is,
    same p.wide_after t.wide_after,
    same p.narrow_after t.narrow_after,
    same p.answer_after t.answer_after,
  );
  validate_call_unique = λ body size. one_value _;
  get_call_unique = λ p t. (same p.number t.number, same p.answer_after t.answer_after);
  filter_build_call_unique = λ p t. (
    same p.number t.number,
    same p.hashes_after t.hashes_after,
    same p.wide_after t.wide_after,
    same p.narrow_after t.narrow_after,
    same p.out_after_is t.out_after_is,
    same p.answer_after t.answer_after,
  );
  filter_read_call_unique = λ p t. (same p.number t.number, same p.answer_after t.answer_after);
  filter_ask_call_unique = λ bytes hash. one_value _;
  filter_ask_all_call_unique = λ p t. (same p.number t.number, same p.answers_after t.answers_after);
  listing_call_unique = λ p t. (same p.number t.number, same p.out_after_is t.out_after_is, same p.answer_after t.answer_after);
}
