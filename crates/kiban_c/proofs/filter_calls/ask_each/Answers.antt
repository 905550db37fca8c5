-- `ask_each` stores number by number. The invariant: the first i numbers are put. Assumes nothing.
use mathlib.Core.Path.{ap, ◌∙◌}
use native.Mathlib.Omega.{arith}
use lib.ListN.{length-map}
use Rattle.words.proofs.Pasted.{pasting_done}
use Rattle.filter.specs.Asking.{ask_number}
use Rattle.kiban_c.specs.Inner.Asking.{cells_ask_of}
use Rattle.kiban_c.proofs.FilterCallLaws.{each_more}
use Rattle.kiban_c.proofs.filter_calls.ask_each.Goals as goal

pub loop-i-preserved : goal.loop-i-preserved
loop-i-preserved c = let a = c.args in
    each_more (cells_ask_of a.s a.cells.now) a.hashes.now c.loop-i.invariant _ c.loop-i-test.true
    (c.number.ensures ∙ ap ask_number c.ask_cells.ensures)

pub returns : goal.returns
returns c = let a = c.args in
    pasting_done c.loop-i.invariant (omega (arith, length-map a.hashes.now (cells_ask_of a.s a.cells.now)))
