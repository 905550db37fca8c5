-- `put_line` writes the key and then the record. Assumes nothing.
use Rattle.text.proofs.WrittenLaws.{ends_first, ends_second, wrote_then}
use Rattle.lines.specs.Listing.{line_of}
use Rattle.lines.proofs.put_line.Goals as goal

pub put_key-requires : goal.put_key-requires
unfolding line_of
put_key-requires c = ends_first _ c.requires

pub put_record-requires : goal.put_record-requires
unfolding line_of
put_record-requires c = ends_second c.put_key.ensures c.requires

pub returns : goal.returns
unfolding line_of
returns c = wrote_then c.put_key.ensures c.put_record.ensures
