-- `list` lists the table, whose lines it counts first. Assumes nothing.
use Rattle.lines.proofs.TextLaws.{ends_lines}
use Rattle.lines.proofs.Table.list.Goals as goal

pub count_shown-shown-requires : goal.count_shown-shown-requires
count_shown-shown-requires c = ends_lines _ _ _ c.requires
