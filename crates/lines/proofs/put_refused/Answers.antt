-- `put_refused` writes its pieces one after the other. Assumes nothing.
use Rattle.text.proofs.WrittenLaws.{ends_first, ends_second, wrote_then}
use Rattle.lines.specs.Listing.{refused_text}
use Rattle.lines.proofs.put_refused.Goals as goal

pub put_named-requires : goal.put_named-requires
unfolding refused_text
put_named-requires c = ends_first _ (rw (← c.number.ensures) at c.requires)

pub put_byte-requires : goal.put_byte-requires
unfolding refused_text
put_byte-requires c = ends_second c.put_named.ensures (rw (← c.number.ensures) at c.requires)

pub returns : goal.returns
unfolding refused_text
returns c = rw (← c.number.ensures) (wrote_then c.put_named.ensures c.put_byte.ensures)
