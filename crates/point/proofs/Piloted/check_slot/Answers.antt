-- `Piloted::check_slot` tests the slot of the key that stands at `p`. Assumes nothing.
use Rattle.layout.proofs.HeaderLaws.{seed_is}
use Rattle.point.proofs.ValidateLaws.{checked_near, slot_of_key}
use Rattle.point.proofs.Piloted.check_slot.Goals as goal

pub returns : goal.returns
returns c = slot_of_key _ _ c.args.p _ _ _ c.key_at-key.ensures (seed_is _ c.args.self.now.headed.read) c.hash-h.ensures c.check_slot_of.ensures

pub check_slot_of-requires : goal.check_slot_of-requires
check_slot_of-requires c = (checked_near _ c.hash-h.result c.args.self.now.checked, c.requires.here)
