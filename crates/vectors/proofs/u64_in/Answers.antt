-- `u64_in` answers the number that the bytes of the field spell. Assumes nothing.
use Rattle.std.proofs.Common.{◌∙◌}
use Rattle.vectors.proofs.FormatLaws.{field_spelled}
use Rattle.vectors.proofs.u64_in.Goals as goal

pub returns-in-Some : goal.returns-in-Some
returns-in-Some c = c.from_le_bytes.ensures ∙ field_spelled 7 _ _ _ c.in-Some.ensures
