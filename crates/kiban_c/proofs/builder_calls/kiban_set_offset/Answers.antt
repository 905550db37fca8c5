-- `kiban_set_offset` answers its own check, and then what set offset answers. Assumes nothing.
use Rattle.std.proofs.Common.{refl}
use Rattle.kiban_c.proofs.BuilderCallLaws.{set_refused, set_made}
use Rattle.kiban_c.proofs.builder_calls.kiban_set_offset.Goals as goal

pub returns-then-state-lt3 : goal.returns-then-state-lt3
returns-then-state-lt3 c = rw c.number.ensures (set_refused c.if-state-lt3.true)

pub returns : goal.returns
returns c = rw c.number_of.ensures (set_made c.if-state-lt3.false c.state_of-from.ensures c.set_value_offset.ensures refl)
