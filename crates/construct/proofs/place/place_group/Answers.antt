-- `construct::place::place_group` meets its contract. The search is over the bucket's members and the slots; its pilot is noted. Assumes
-- nothing.
use Rattle.construct.proofs.StepLaws.{group_some, group_none}
use Rattle.construct.proofs.place.place_group.Goals as goal

pub returns-in_default : goal.returns-in_default
returns-in_default c = group_none _ _ _ _ _ _ _ c.group.ensures.hashes c.group.ensures.keys c.in_default.ensures

pub returns : goal.returns
returns c = group_some _ _ _ _ _ _ _ c.group.ensures.hashes c.group.ensures.keys _ c.in-Some.ensures
