-- `put_u16` puts the 2 bytes of the number. Assumes nothing.
use Rattle.std.proofs.Common.{ap, ◌∙◌}
use Rattle.words.specs.Field.{splice}
use Rattle.words.proofs.Laws.{bytes_low}
use Rattle.words.proofs.field.put_u16.Goals as goal

pub returns : goal.returns
returns c = c.copy_at.ensures ∙ ap (splice c.args.raw.now c.args.at) (c.to_le_bytes.ensures ∙ bytes_low 2 c.args.v)
