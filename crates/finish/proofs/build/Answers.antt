-- `build` meets its contract: construct, and what it placed. Assumes nothing.
use native.Mathlib.Omega.{arith}
use Rattle.std.proofs.lemmas.Result.{err_from_is_err_and}
use Rattle.mixing.proofs.SlotLaws.{few_buckets}
use Rattle.finish.proofs.FinishLaws.{room_lent, room_kept, exhausted, chosen, built_ten}
use Rattle.finish.proofs.build.Goals as goal

pub construct-requires : goal.construct-requires
construct-requires c = room_lent _ _ _ _ _ c.requires.0 c.requires.1

pub returns-in_err-i : goal.returns-in_err-i
returns-in_err-i c =
    let p = err_from_is_err_and c.from_residual.result c.from_residual.ensures.1 in
    let none = c.in_err-i.ensures.ok_part in
    rw (p.1, p.2, c.in_err-i.ensures.value, none) (built_ten _ _ _ (exhausted _ _ _ _ _ none c.construct.ensures))

pub pilots-requires : goal.pilots-requires
pilots-requires c = omega (arith, few_buckets c.args.n)

pub slots-requires : goal.slots-requires
slots-requires c = omega (arith, few_buckets c.args.n)

pub checked-requires : goal.checked-requires
checked-requires c = let k = c.construct in (
  room_kept _ _ _ _ _ c.requires.0 k.auto.wide,
  chosen _ _ _ _ _ _ _ _ _ c.in_ok-i.ensures.ok_part k.ensures (omega (arith, few_buckets c.args.n)) c.buckets-b.ensures c.pilots.ensures c.slots.ensures,
)
