-- Hash h joins the cells, or leaves them. Assumes nothing.
use lib.Bits.{bit_xor}
use Rattle.peel.specs.Inner.Table.{plus}
use Rattle.peel.proofs.TableLaws.{Changing}
use Rattle.peel.proofs.change.Given as goal

abbrev pub invariant-loop-p : goal.invariant-loop-p
invariant-loop-p l = Changing (plus l.by) l.cells l.initial.narrow l.p-index l.narrow × Changing (bit_xor l.h) l.cells l.initial.wide l.p-index l.wide
