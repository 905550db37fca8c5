-- `put_key` writes `-` or hex, by its test. Assumes nothing.
use Rattle.text.proofs.TextLaws.{key_text_none, key_text_some}
use Rattle.text.proofs.Writer.put_key.Goals as goal

pub put_byte-requires : goal.put_byte-requires
put_byte-requires c = rw (key_text_none _ c.if-is_empty.ensures) at c.requires

pub returns-then-is_empty : goal.returns-then-is_empty
returns-then-is_empty c = rw (key_text_none _ c.if-is_empty.ensures) c.put_byte.ensures

pub put_hex-requires : goal.put_hex-requires
put_hex-requires c = rw (key_text_some _ c.if-is_empty.ensures) at c.requires

pub returns-else-is_empty : goal.returns-else-is_empty
returns-else-is_empty c = rw (key_text_some _ c.if-is_empty.ensures) c.put_hex.ensures
