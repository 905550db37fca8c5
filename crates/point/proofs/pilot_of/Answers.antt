-- `pilot_of` reads the pilot of the hash's bucket, which stands before the slots. Assumes nothing.
use Prim.Native.Nat.{ℕ, ◌<◌}
use mathlib.Core.Path.{◌≡◌}
use mathlib.Core.List.{List}
use Rattle.mixing.specs.Mixing.{bucket_of, bucket_of_lt}
use native.Mathlib.Omega.{arith}
use Rattle.layout.specs.Layout.{header_refusal, buckets_in}
use Rattle.layout.proofs.HeaderLaws.{headed, buckets_are, pilot_is}
use Rattle.point.proofs.pilot_of.Goals as goal

-- a hash's bucket is one of the b
one : (body : List ℕ) (h b : ℕ) → header_refusal body ≡ 0 → b ≡ buckets_in body → bucket_of h b < b
one body h b r e = let d = headed body r in bucket_of_lt h b (omega arith)

pub overflow_mul-i : goal.overflow_mul-i
overflow_mul-i c = let h = headed _ c.args.headed.now.passed in omega (arith, buckets_are _ c.args.headed.now.read, one _ c.args.h _ c.args.headed.now.passed (buckets_are _ c.args.headed.now.read))

pub overflow_add-i : goal.overflow_add-i
overflow_add-i c = let h = headed _ c.args.headed.now.passed in omega (arith, buckets_are _ c.args.headed.now.read, one _ c.args.h _ c.args.headed.now.passed (buckets_are _ c.args.headed.now.read))

pub u32_at-requires : goal.u32_at-requires
u32_at-requires c = let h = headed _ c.args.headed.now.passed in omega (arith, buckets_are _ c.args.headed.now.read, one _ c.args.h _ c.args.headed.now.passed (buckets_are _ c.args.headed.now.read))

pub returns : goal.returns
returns c = pilot_is _ _ _ _ _ (buckets_are _ c.args.headed.now.read) c.bucket-i.ensures c.u32_at.ensures
