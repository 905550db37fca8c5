-- `put_field` writes a space and then a number. Assumes nothing.
use Rattle.text.specs.Text.{field}
use Rattle.text.proofs.WrittenLaws.{ends_first, ends_second, wrote_then}
use Rattle.text.proofs.Writer.put_field.Goals as goal

pub put_byte-requires : goal.put_byte-requires
unfolding field
put_byte-requires c = ends_first _ c.requires

pub put_decimal-requires : goal.put_decimal-requires
unfolding field
put_decimal-requires c = ends_second c.put_byte.ensures c.requires

pub returns : goal.returns
unfolding field
returns c = wrote_then c.put_byte.ensures c.put_decimal.ensures
