-- `checked` meets its contract: the self-check, and the body. Assumes nothing.
use native.Mathlib.Omega.{arith}
use mathlib.Core.Path.{sym, ◌∙◌}
use mathlib.Core.Bool.{true, false}
use lib.Seq.{length-take-le}
use Rattle.mixing.proofs.SlotLaws.{some_buckets}
use Rattle.finish.proofs.FinishLaws.{chosen_refusal, chosen_out, chosen_written, built_eleven, built_body}
use Rattle.finish.proofs.checked.Goals as goal

pub mismatch-requires : goal.mismatch-requires
mismatch-requires c = let a = c.args in
    let pre = c.requires in
    let long = pre.0.long in
    let l = length-take-le a.n a.wide.now (omega arith) in
    (omega (arith, pre.1.pilots_long, some_buckets a.n pre.0.any), omega (arith, pre.1.slots_long, l))

pub returns-then-mismatch : goal.returns-then-mismatch
returns-then-mismatch c = built_eleven _ _ _ (chosen_refusal _ _ _ _ _ _ c.requires.1 true (sym c.mismatch.ensures ∙ c.if-mismatch.true))

pub write_body-requires : goal.write_body-requires
write_body-requires c = let pre = c.requires in
    (pre.0, chosen_written _ _ _ _ _ _ pre.1 _ c.seed.ensures (sym c.mismatch.ensures ∙ c.if-mismatch.false))

pub returns : goal.returns
returns c = let C = c.requires.1 in
    built_body _ _ _ _ _ (chosen_refusal _ _ _ _ _ _ C false (sym c.mismatch.ensures ∙ c.if-mismatch.false)) c.arena_start.ensures
    (chosen_out _ _ _ _ _ _ C _ _ _ c.seed.ensures c.write_body.ensures)
