-- `sizing::up_to` meets its contract.
use borrow.Author.Rules.{rules}
use lib.Dec.{leb}
use Rattle.std.proofs.lemmas.List.Sorted.{IsPartitionPoint-from_clause}
use Rattle.sizing.proofs.SearchLaws.{rising_parted, parted_up_to}
use Rattle.sizing.proofs.up_to.Goals as goal

pub returns : goal.returns
returns c = let n = c.args.n in
    let found = c.partition_point.ensures in
    parted_up_to _ c.requires n _ found.bound
    (IsPartitionPoint-from_clause (λ x. leb x n) _ _ found.partitioned (rising_parted _ c.requires n) (λ x r g h. search rules))
