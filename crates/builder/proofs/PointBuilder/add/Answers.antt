-- `PointBuilder::add` answers its refusal and leaves the buffer, or appends a record with offset 0. Assumes nothing.
use mathlib.Core.Path.{sym}
use native.Mathlib.Omega.{arith}
use Rattle.std.proofs.lemmas.Result.{err_from_is_err_and}
use Rattle.builder.proofs.AddLaws.{sized_passed, new_ready, continued_ready, add_stopped, add_appended}
use Rattle.builder.proofs.PointBuilder.add.Goals as goal

pub returns-in_err-check_add : goal.returns-in_err-check_add
returns-in_err-check_add c =
    let p = err_from_is_err_and c.from_residual.result c.from_residual.ensures.1 in
    rw (p.1, p.2) (add_stopped c.in_err-check_add.ensures)

pub overflow_cast-version : goal.overflow_cast-version
overflow_cast-version c = omega (arith, (sized_passed _ _ _ (sym c.in_ok-check_add.ensures)).0.small)

pub append_new-requires : goal.append_new-requires
append_new-requires c = new_ready _ _ _ (sym c.in_ok-check_add.ensures) c.if-new_key.true

pub returns-then-new_key : goal.returns-then-new_key
returns-then-new_key c = add_appended (sym c.in_ok-check_add.ensures) (rw c.if-new_key.true c.append_new.ensures)

pub append_version-requires : goal.append_version-requires
append_version-requires c = continued_ready _ _ _ (sym c.in_ok-check_add.ensures) c.if-new_key.false

pub returns : goal.returns
returns c = add_appended (sym c.in_ok-check_add.ensures) (rw c.if-new_key.false c.append_version.ensures)
