-- `Buckets::group` lends what lies between the bucket's two ends. Assumes nothing.
use native.Mathlib.Omega.{arith}
use Rattle.construct.proofs.BucketLaws.{bucket_inside, bucket_group, bucket_keys}
use Rattle.construct.proofs.buckets.Buckets.group.Goals as goal

pub slice_bounds-result-count : goal.slice_bounds-result-count
slice_bounds-result-count c = omega (arith, bucket_inside _ _ _ c.args.self.bucketed _ c.requires)

pub slice_bounds-result-start : goal.slice_bounds-result-start
slice_bounds-result-start c = omega (arith, bucket_inside _ _ _ c.args.self.bucketed _ c.requires)

pub slice_bounds-result-end : goal.slice_bounds-result-end
slice_bounds-result-end c = omega (arith, bucket_inside _ _ _ c.args.self.bucketed _ c.requires)

pub invariant_of-result : goal.invariant_of-result
invariant_of-result c = let of = c.args.self.bucketed in
    record { known = bucket_keys _ _ _ of _ c.requires _ (bucket_group _ _ _ of _ c.requires) }

pub returns-clause-keys : goal.returns-clause-keys
returns-clause-keys c = bucket_group _ _ _ c.args.self.bucketed _ c.requires
