-- `put_named` writes a word and then a field. Assumes nothing.
use Rattle.text.specs.Text.{named}
use Rattle.text.proofs.WrittenLaws.{ends_first, ends_second, wrote_then}
use Rattle.text.proofs.Writer.put_named.Goals as goal

pub put_word-requires : goal.put_word-requires
unfolding named
put_word-requires c = ends_first _ c.requires

pub put_field-requires : goal.put_field-requires
unfolding named
put_field-requires c = ends_second c.put_word.ensures c.requires

pub returns : goal.returns
unfolding named
returns c = wrote_then c.put_word.ensures c.put_field.ensures
