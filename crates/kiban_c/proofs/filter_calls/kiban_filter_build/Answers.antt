-- `kiban_filter_build` answers its own check, and then what build answers. Assumes nothing.
use Rattle.std.specs.Prelude.{Err, Ok}
use Prim.Native.Nat.{◌<◌, ◌^◌}
use native.Mathlib.Omega.{arith}
use Rattle.fuse.specs.Positions.{cells_in}
use mathlib.Core.Path.{refl, sym, ap}
use Rattle.words.proofs.Laws.{splice_sets}
use Rattle.filter.specs.declared.Built.TheVariants.{Positive, Fuse}
use Rattle.filter.specs.Building.{built_values}
use Rattle.finish.proofs.RowLaws.{splice_none}
use Rattle.kiban_c.proofs.FilterCallLaws.{build_refused, build_made, cells_small}
use Rattle.kiban_c.proofs.filter_calls.kiban_filter_build.Goals as goal

pub returns-then-answer-lt1 : goal.returns-then-answer-lt1
returns-then-answer-lt1 c = rw c.number.ensures (build_refused c.if-answer-lt1.true)

pub cells-requires : goal.cells-requires
cells-requires c = let z = c.in-Ok-Fuse in
    let small : cells_in z.s.segment z.s.count < 2 ^ 32 = cells_small z.ensures z.s (ap Ok z.field-0-is) in
    omega (arith, small)

pub overflow_add-answer : goal.overflow_add-answer
overflow_add-answer c = let z = c.in-Ok-Fuse in
    let small : cells_in z.s.segment z.s.count < 2 ^ 32 = cells_small z.ensures z.s (ap Ok z.field-0-is) in
    omega (arith, c.cells.ensures, small)

pub returns-in-Ok-Positive : goal.returns-in-Ok-Positive
returns-in-Ok-Positive c = let some = c.if-answer-lt1.false in
    build_made {r = Ok Positive} some c.in-Ok-Positive.ensures (ap Ok c.in-Ok-Positive.field-0-is) (splice_sets c.args.answer.now 0 (built_values (Ok Positive)) (omega arith))

pub returns-in-Ok-Fuse : goal.returns-in-Ok-Fuse
returns-in-Ok-Fuse c = let some = c.if-answer-lt1.false in
    let z = c.in-Ok-Fuse in
    rw c.cells.ensures (build_made {r = Ok (Fuse z.s)} some z.ensures (ap Ok z.field-0-is) (splice_sets c.args.answer.now 0 (built_values (Ok (Fuse z.s))) (omega arith)))

pub returns-in-Err : goal.returns-in-Err
returns-in-Err c = let n = c.in-Err in
    rw c.number-in-Err.ensures (build_made {r = Err n.refusal} c.if-answer-lt1.false n.ensures refl (sym (splice_none _ 0)))
