-- `put_u64` puts the 8 bytes of the number. Assumes nothing.
use Rattle.std.proofs.Common.{ap, ◌∙◌}
use Rattle.words.specs.Field.{splice}
use Rattle.words.proofs.Laws.{bytes_low}
use Rattle.words.proofs.field.put_u64.Goals as goal

pub returns : goal.returns
returns c = c.copy_at.ensures ∙ ap (splice c.args.raw.now c.args.at) (c.to_le_bytes.ensures ∙ bytes_low 8 c.args.v)
