-- `filter::build` meets its contract. Assumes nothing.
use mathlib.Core.Path.{◌≡◌, sym, ap, ◌∙◌, subst}
use Prim.Native.Nat.{ℕ}
use lib.ListN.{length, replicate}
use Rattle.std.proofs.lemmas.Result.{err_from_is_err_and}
use Rattle.filter.specs.Inner.Building.{Roomy}
use Rattle.filter.proofs.BuildingLaws.{roomy, build_stopped, build_done}
use borrow.Author.Rules.{rules}
use Rattle.filter.proofs.build.Goals as goal

pub returns-in_err-check_lengths : goal.returns-in_err-check_lengths
returns-in_err-check_lengths c = let a = c.args in
    let p = err_from_is_err_and c.from_residual.result c.from_residual.ensures.1 in
    rw (p.1, p.2) (build_stopped a.hashes.now a.wide.now a.narrow.now a.out.now _ c.in_err-check_lengths.ensures)

pub lay-built-requires : goal.lay-built-requires
lay-built-requires c = let a = c.args in
    let r = roomy (length a.hashes.now) (length a.wide.now) (length a.narrow.now) (length a.out.now)
    (sym c.in_ok-check_lengths.ensures) in
    let n : length c.sort.new.hashes ≡ length a.hashes.now = search rules in
    subst (λ (k : ℕ). Roomy k (length a.wide.now) (length a.narrow.now) (length a.out.now)) (sym n) r

pub returns : goal.returns
returns c = let a = c.args in
    let lw : length c.lay-built.new.wide ≡ length a.wide.now = search rules in
    let ln : length c.lay-built.new.narrow ≡ length a.narrow.now = search rules in
    build_done a.hashes.now a.wide.now a.narrow.now a.out.now (sym c.in_ok-check_lengths.ensures)
    c.lay-built.result _ _ _ _ c.sort.ensures c.lay-built.ensures
    (c.fill.ensures.after (λ y e. e) ∙ ap (λ (k : ℕ). replicate k 0) lw) (c.fill-2.ensures.after (λ y e. e) ∙ ap (λ (k : ℕ). replicate k 0) ln)
