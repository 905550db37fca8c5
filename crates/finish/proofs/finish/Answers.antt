-- `finish` refuses by the lengths, or builds and clears the workspace, as its post says. Assumes nothing.
use Prim.Native.Nat.{ℕ, ◌+◌}
use native.Mathlib.Omega.{arith}
use mathlib.Core.Path.{sym, ap, ◌∙◌}
use lib.ListN.{replicate}
use lib.Seq.{length_front}
use Rattle.std.proofs.lemmas.Result.{err_from_is_err_and}
use Rattle.finish.proofs.FinishLaws.{post_early, length_facts, space_long, post_room, post_late}
use Rattle.finish.proofs.finish.Goals as goal

pub returns-in_err-check_lengths : goal.returns-in_err-check_lengths
returns-in_err-check_lengths c =
    let p = err_from_is_err_and c.from_residual.result c.from_residual.ensures.1 in
    rw (p.1, p.2) (post_early _ _ _ _ _ c.walk-walked.ensures _ c.in_err-check_lengths.ensures)

pub overflow_add-n : goal.overflow_add-n
overflow_add-n c = let few = (length_facts _ _ _ _ _ c.walk-walked.ensures (sym c.in_ok-check_lengths.ensures)).few in
    omega arith

pub slice_bounds-build-end : goal.slice_bounds-build-end
slice_bounds-build-end c = let long = (length_facts _ _ _ _ _ c.walk-walked.ensures (sym c.in_ok-check_lengths.ensures)).wide_long in
    omega arith

pub slice_bounds-build-end-2 : goal.slice_bounds-build-end-2
slice_bounds-build-end-2 c = sym (space_long _ _ _ _ _ c.walk-walked.ensures (sym c.in_ok-check_lengths.ensures))

pub build-built-requires : goal.build-built-requires
build-built-requires c = post_room _ _ _ _ _ c.walk-walked.ensures (sym c.in_ok-check_lengths.ensures)

pub returns : goal.returns
returns c = let built = c.build-built in
    let n = c.walk-walked.result.keys in
    post_late _ _ _ _ _ c.walk-walked.ensures (sym c.in_ok-check_lengths.ensures) _ _ _ _ built.ensures
    (c.fill.ensures.after (λ y e. e) ∙ ap (λ (x : ℕ). replicate x 0) (length_front c.args.wide.now built.new.wide (n + n) built.auto.wide))
    (c.fill-2.ensures.after (λ y e. e) ∙ ap (λ (x : ℕ). replicate x 0) built.auto.narrow)
