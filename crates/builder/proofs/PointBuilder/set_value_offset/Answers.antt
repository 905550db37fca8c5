-- `PointBuilder::set_value_offset` answers its refusal and leaves the buffer, or puts the offset at the place. Assumes nothing.
use native.Mathlib.Omega.{arith}
use borrow.Author.Tests.{eq-eqb, ne_eqb}
use Rattle.std.proofs.lemmas.Result.{err_from_is_err_and}
use Rattle.builder.specs.SetOffset.{set_causes, set_of, buffer_after_set}
use Rattle.builder.proofs.StateLaws.{fits_known, fit_passed, fit_refused}
use Rattle.builder.proofs.PointBuilder.set_value_offset.Goals.{then-self-eq0-via-then-self-eq0, then-self-eq0-via-else-self-eq0+then-place-self}
use Rattle.builder.proofs.PointBuilder.set_value_offset.Goals as goal

pub returns-in_err-open : goal.returns-in_err-open
unfolding set_of buffer_after_set set_causes
returns-in_err-open c =
    let p = err_from_is_err_and c.from_residual.result c.from_residual.ensures.1 in
    let e = fit_refused _ _ c.in_err-open.ensures.refuses in
    rw (p.1, p.2) (record { answer = rw (e.0, e.1); buffer = rw e.0 })

pub overflow_sub-self : goal.overflow_sub-self
overflow_sub-self c = let s = c.args in
    let f = fits_known s.self s.buffer.now c.if-self-eq0.false (fit_passed _ c.in_ok-open.ensures.refuses) in
    omega arith

pub returns-then-self-eq0 : goal.returns-then-self-eq0
unfolding set_of buffer_after_set set_causes
returns-then-self-eq0 c = let e = fit_passed _ c.in_ok-open.ensures.refuses in
    elim c.then-self-eq0.branch [
      | then-self-eq0-via-then-self-eq0 w ↦
          let k = eq-eqb _ _ w.if-self-eq0.true in
          record { answer = rw (e, k); buffer = rw (e, k) }
      | then-self-eq0-via-else-self-eq0+then-place-self w ↦
          let k = ne_eqb _ _ w.if-self-eq0.false in
          let p = ne_eqb _ _ w.if-place-self.true in
          record { answer = rw (e, k, p); buffer = rw (e, k, p) }
    ]

pub put_u64-requires : goal.put_u64-requires
put_u64-requires c = let s = c.args in
    let f = fits_known s.self s.buffer.now c.if-self-eq0.false (fit_passed _ c.in_ok-open.ensures.refuses) in
    omega arith

pub returns : goal.returns
unfolding set_of buffer_after_set set_causes
returns c = let e = fit_passed _ c.in_ok-open.ensures.refuses in
    let k = ne_eqb _ _ c.if-self-eq0.false in
    let p = eq-eqb _ _ c.if-place-self.false in
    record { answer = rw (e, k, p); buffer = rw (e, k, p) c.put_u64.ensures }
