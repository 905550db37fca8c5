-- `put_record` writes its pieces one after the other. Assumes nothing.
use Rattle.text.proofs.WrittenLaws.{ends_first, ends_second, wrote_then}
use Rattle.lines.specs.Listing.{record_text}
use Rattle.lines.proofs.put_record.Goals as goal

pub put_field-requires : goal.put_field-requires
unfolding record_text
put_field-requires c = ends_first _ c.requires

pub put_kind-requires : goal.put_kind-requires
unfolding record_text
put_kind-requires c = ends_first _ (ends_second c.put_field.ensures c.requires)

pub put_field-requires-2 : goal.put_field-requires-2
unfolding record_text
put_field-requires-2 c = ends_first _ (ends_second c.put_kind.ensures (ends_second c.put_field.ensures c.requires))

pub put_field-requires-3 : goal.put_field-requires-3
unfolding record_text
put_field-requires-3 c =
    ends_first _ (ends_second c.put_field-2.ensures (ends_second c.put_kind.ensures (ends_second c.put_field.ensures c.requires)))

pub put_byte-requires : goal.put_byte-requires
unfolding record_text
put_byte-requires c =
    ends_second c.put_field-3.ensures (ends_second c.put_field-2.ensures
    (ends_second c.put_kind.ensures (ends_second c.put_field.ensures c.requires)))

pub returns : goal.returns
unfolding record_text
returns c =
    wrote_then c.put_field.ensures (wrote_then c.put_kind.ensures
    (wrote_then c.put_field-2.ensures (wrote_then c.put_field-3.ensures c.put_byte.ensures)))
