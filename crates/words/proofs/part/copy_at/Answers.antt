-- `copy_at` stores byte by byte. The invariant: the first i bytes are put. Assumes nothing.
use Rattle.std.proofs.Common.{refl, arith, rules}
use Rattle.words.proofs.Pasted.{pasting_none, pasting_length, pasting_more, pasting_done}
use Rattle.words.proofs.part.copy_at.Goals as goal

pub loop-i-init : goal.loop-i-init
loop-i-init c = pasting_none c.args.dst.now c.args.at c.args.src.now (omega arith)

pub bounds-dst-at : goal.bounds-dst-at
bounds-dst-at c = omega (arith, pasting_length c.loop-i.invariant)

pub loop-i-preserved : goal.loop-i-preserved
loop-i-preserved c = pasting_more c.loop-i.invariant 0 _ _ (search rules) refl refl

pub shape_of-dst : goal.shape_of-dst
shape_of-dst c = pasting_length c.loop-i.invariant

pub returns : goal.returns
returns c = pasting_done c.loop-i.invariant (search rules)
