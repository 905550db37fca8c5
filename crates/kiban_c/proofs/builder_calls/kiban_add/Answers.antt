-- `kiban_add` answers its own three checks, and then what add answers. Assumes nothing.
use Rattle.std.specs.Prelude.{Err, Ok}
use native.Mathlib.Omega.{arith}
use mathlib.Core.Path.{refl, sym}
use Rattle.words.proofs.Laws.{splice_sets}
use Rattle.records.proofs.KindLaws.{kind_unknown, kind_known}
use Rattle.builder.specs.Add.{added_values}
use Rattle.finish.proofs.RowLaws.{splice_none}
use Rattle.kiban_c.proofs.BuilderCallLaws.{add_short, add_stateless, add_kindless, add_passed, add_refused, add_made}
use Rattle.kiban_c.proofs.builder_calls.kiban_add.Goals as goal

pub returns-then-answer-lt1 : goal.returns-then-answer-lt1
returns-then-answer-lt1 c = let a = c.args in
    rw c.number.ensures (add_refused (add_short a.state.now a.kind a.answer.now c.if-answer-lt1.true) (omega arith))

pub returns-then-state-lt3 : goal.returns-then-state-lt3
returns-then-state-lt3 c = let a = c.args in
    rw c.number-then-state-lt3.ensures (add_refused (add_stateless a.state.now a.kind a.answer.now c.if-answer-lt1.false c.if-state-lt3.true) (omega arith))

pub returns-in_default : goal.returns-in_default
returns-in_default c = let a = c.args in
    let k = kind_unknown a.kind (sym c.in_default.ensures) in
    rw c.number-in_default.ensures (add_refused (add_kindless a.state.now a.kind a.answer.now c.if-answer-lt1.false c.if-state-lt3.false k) (omega arith))

pub returns-in-Ok : goal.returns-in-Ok
returns-in-Ok c = let a = c.args in
    let some = c.if-answer-lt1.false in
    let k = kind_known a.kind c.in-Some.known (sym c.in-Some.ensures) in
    let n = c.in-Ok in
    add_made {r = Ok (n.next, n.place)} (add_passed a.state.now a.kind a.answer.now some c.if-state-lt3.false k.0) c.state_of-from.ensures (sym k.1) n.ensures refl c.put_words.ensures
    (splice_sets a.answer.now 0 (added_values (Ok (n.next, n.place))) (omega arith))

pub returns-in-Err : goal.returns-in-Err
returns-in-Err c = let a = c.args in
    let k = kind_known a.kind c.in-Some.known (sym c.in-Some.ensures) in
    let n = c.in-Err in
    rw c.number-in-Err.ensures (add_made {r = Err n.refusal} (add_passed a.state.now a.kind a.answer.now c.if-answer-lt1.false c.if-state-lt3.false k.0) c.state_of-from.ensures (sym k.1) n.ensures refl (sym (splice_none _ 0)) (sym (splice_none _ 0)))
