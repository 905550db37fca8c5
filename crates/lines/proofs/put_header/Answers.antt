-- `put_header` writes its pieces one after the other. Assumes nothing.
use Rattle.text.proofs.WrittenLaws.{ends_first, ends_second, wrote_then}
use Rattle.lines.specs.Listing.{listing_header}
use Rattle.lines.proofs.put_header.Goals as goal

pub put_named-requires : goal.put_named-requires
unfolding listing_header
put_named-requires c = ends_first _ c.requires

pub put_named-requires-2 : goal.put_named-requires-2
unfolding listing_header
put_named-requires-2 c = ends_first _ (ends_second c.put_named.ensures c.requires)

pub put_named-requires-3 : goal.put_named-requires-3
unfolding listing_header
put_named-requires-3 c = ends_first _ (ends_second c.put_named-2.ensures (ends_second c.put_named.ensures c.requires))

pub put_byte-requires : goal.put_byte-requires
unfolding listing_header
put_byte-requires c = ends_second c.put_named-3.ensures (ends_second c.put_named-2.ensures (ends_second c.put_named.ensures c.requires))

pub returns : goal.returns
unfolding listing_header
returns c = wrote_then c.put_named.ensures (wrote_then c.put_named-2.ensures (wrote_then c.put_named-3.ensures c.put_byte.ensures))
