-- `put_u8` stores the byte: one store is the part of one byte put anew. Assumes nothing.
use Rattle.std.proofs.Common.{[], ◌∷◌, arith}
use Rattle.words.proofs.Laws.{splice_sets}
use Rattle.words.proofs.field.put_u8.Goals as goal

pub returns : goal.returns
returns c = splice_sets c.args.raw.now c.args.at (c.args.v ∷ []) (omega arith)
