-- `Buckets::size` is what lies between the bucket's two ends. Assumes nothing.
use native.Mathlib.Omega.{arith}
use Rattle.construct.proofs.BucketLaws.{bucket_inside}
use Rattle.construct.proofs.buckets.Buckets.size.Goals as goal

pub overflow_sub-result : goal.overflow_sub-result
overflow_sub-result c = omega (arith, bucket_inside _ _ _ c.args.self.bucketed _ c.requires)

pub returns : goal.returns
returns c = (bucket_inside _ _ _ c.args.self.bucketed _ c.requires).many
