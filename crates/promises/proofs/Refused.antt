-- Demand 1 holds: the causes of each call's numbers, from the laws of its crate. Assumes nothing.
use Rattle.std.specs.Prelude.{Result}
use Rattle.numbers.specs.Numbers.{number_of}
use Rattle.numbers.specs.declared.Refusal.{Refusal}
use Prim.Native.Nat.{ℕ}
use mathlib.Core.Path.{◌≡◌, sym, ap, ◌∙◌}
use mathlib.Core.Bool.{Bool, cond}
use mathlib.Core.List.{List}
use native.Mathlib.Omega.{arith}
use borrow.Author.Tests.{eq-eqb, ne_eqb}
use lib.ListN.{length, replicate}
use Rattle.builder.specs.declared.PointBuilder.{PointBuilder}
use Rattle.builder.specs.Add.{Added}
use Rattle.builder.specs.Add.{Call, AddPost}
use Rattle.builder.specs.SetOffset.{SetPost}
use Rattle.builder.proofs.Answers.{add_refuses, add_cause, cause_add, set_refuses, set_cause, cause_set}
use Rattle.finish.specs.Finish.{finish_refusal, out_after, space_after, FinishPost}
use Rattle.finish.proofs.Answers.{finish_number, cause_first, cause_given, ten_attempts, attempts_ten, never_eleven}
use Rattle.point.proofs.CauseLaws.{validate_cause, cause_validate, stops_between}
use Rattle.point.proofs.AnswerLaws.{locate_cause, cause_locate, record_cause, cause_record, open_cause, cause_open, get_cause, cause_get, locate_open, open_get}
use Rattle.filter.specs.declared.Built.{Built}
use Rattle.filter.specs.Building.{out_by, hashes_by, space_by, BuildPost}
use Rattle.filter.proofs.ExactLaws.{refused_none, none_refused, ask_refuses, ask_answers}
use Rattle.filter.proofs.WrittenLaws.{fifteen_cause, cause_fifteen, six_cause, cause_six}
use Rattle.filter.proofs.BuiltLaws.{refused_cause, cause_refused, number_refuses}
use Rattle.sort.specs.Sort.{sorted}
use Rattle.lines.proofs.Theorems.{listing_cause, cause_listing}
use Rattle.promises.specs.Refused.{AddRefused, SetRefused, SpaceLeft, FinishRefused, GetRefused, BuildRefused, Demand1}

pub add_refusals : {s : PointBuilder} {before : List ℕ} {call : Call} {r : Added} {after : List ℕ}
    → AddPost s before call r after → AddRefused s before call r after
add_refusals {s} {before} {call} P = record {
  add_refused = λ n l e.
      let f = add_cause s before call n l (ap number_of (sym P.answer) ∙ e) in
      (f, P.buffer ∙ (add_refuses s before call f).1);
  refused_add = λ n f. ap number_of P.answer ∙ cause_add s before call n f;
}

set_refusals : {s : PointBuilder} {before : List ℕ} {place offset : ℕ} {r : Result (Unit {0}) Refusal} {after : List ℕ} → SetPost s before place offset r after → SetRefused s before place r after
set_refusals {s} {before} {place} {offset} P = record {
  set_refused = λ n l e.
      let f = set_cause s before place offset n l (ap number_of (sym P.answer) ∙ e) in
      (f, P.buffer ∙ (set_refuses s before place offset f).1);
  refused_set = λ n f. ap number_of P.answer ∙ cause_set s before place offset n f;
}

space_left : (refusal : ℕ) (space after : List ℕ) → after ≡ space_after refusal space → SpaceLeft refusal space after
space_left refusal space after e = record {
  kept = λ n. e ∙ ap (λ (b : Bool). cond b (replicate (length space) 0) space) (ne_eqb refusal 0 n);
  zeroed = λ z. e ∙ ap (λ (b : Bool). cond b (replicate (length space) 0) space) (eq-eqb refusal 0 z);
}

module _ {arena out wide narrow : List ℕ} {r : Result ℕ Refusal} {out' wide' narrow' : List ℕ} (P : FinishPost arena out wide narrow r out' wide' narrow') where
  number_is : number_of r ≡ finish_refusal arena (length out) (length wide) (length narrow)
  number_is = ap number_of P.answer ∙ finish_number arena (length out) (length wide) (length narrow)

  out_kept : (finish_refusal arena (length out) (length wide) (length narrow) ≡ 0 → ⊥) → out' ≡ out
  unfolding out_after
  out_kept n = P.out_after_is ∙ rw (ne_eqb (finish_refusal arena (length out) (length wide) (length narrow)) 0 n)

  pub finish_refusals : FinishRefused arena out wide narrow r out' wide' narrow'
  finish_refusals =
      let given = ap number_of P.answer in
      record {
        finish_refused = λ n l e. (cause_first arena (length out) (length wide) (length narrow) n l (sym given ∙ e), out_kept (λ z. omega (arith, number_is)));
        refused_finish = λ n f. given ∙ cause_given arena (length out) (length wide) (length narrow) n f;
        ten_cause = λ e. ten_attempts arena (length out) (length wide) (length narrow) (sym given ∙ e);
        cause_ten = λ z f. given ∙ attempts_ten arena (length out) (length wide) (length narrow) z f;
        never_eleven = λ e. never_eleven arena (length out) (length wide) (length narrow) (sym given ∙ e);
        wide_space = space_left _ wide wide' P.wide_after;
        narrow_space = space_left _ narrow narrow' P.narrow_after;
      }

get_refusals : (body key : List ℕ) → GetRefused body key
get_refusals body key = record {
  get_refused = λ size limit. get_cause body size key limit;
  refused_get = λ size limit. cause_get body size key limit;
  open_refused = open_cause body key;
  refused_open = cause_open body key;
  open_record_refused = λ place. record_cause body key place;
  refused_open_record = λ place. cause_record body key place;
  locate_refused = locate_cause body key;
  refused_locate = cause_locate body key;
  unlocated_unopened = locate_open body key;
  unopened_unfound = λ size limit. open_get body size key limit;
}

build_refusals : {hashes wide narrow out : List ℕ} {r : Result Built Refusal} {hashes' wide' narrow' out' : List ℕ}
    → BuildPost hashes wide narrow out r hashes' wide' narrow' out' → BuildRefused hashes wide narrow out r hashes' wide' narrow' out'
build_refusals {hashes} {wide} {narrow} {out} {r} P = record {
  build_refused = λ n l e.
      let a = sym P.answer ∙ number_refuses r n l e in (
        refused_cause P n l e,
        P.hashes_after ∙ ap (λ (b : Result Built Refusal). hashes_by b hashes) a,
        P.wide_after ∙ ap (λ (b : Result Built Refusal). space_by b wide) a,
        P.narrow_after ∙ ap (λ (b : Result Built Refusal). space_by b narrow) a,
        P.out_after_is ∙ ap (λ (b : Result Built Refusal). out_by b (sorted hashes) out) a,
      );
  refused_build = cause_refused P;
}

-- THEOREM: demand 1
pub demand_1 : Demand1
demand_1 = record {
  add = add_refusals;
  set_offset = set_refusals;
  finish = finish_refusals;
  validate = λ body size. record {
    validate_refused = validate_cause body size;
    refused_validate = cause_validate body size;
    validate_numbers = λ n. stops_between;
  };
  get = get_refusals;
  read = λ bytes. record {
    read_refused = refused_none bytes;
    refused_read = none_refused bytes;
    ask_refused = ask_answers bytes;
    refused_ask = ask_refuses bytes;
  };
  write = λ P. record {
    write_unaccepted = fifteen_cause P;
    unaccepted_write = cause_fifteen P;
    write_short = six_cause P;
    short_write = cause_six P;
  };
  build = build_refusals;
  listing = λ P. record { listing_refused = listing_cause P; refused_listing = cause_listing P };
}
