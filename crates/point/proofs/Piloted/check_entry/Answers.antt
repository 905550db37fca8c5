-- `Piloted::check_entry` refuses by the first of the entry's key, its slot and its versions. Assumes nothing.
use Rattle.std.specs.Prelude.{Some}
use mathlib.Core.Path.{sym}
use Rattle.numbers.proofs.NumberLaws.{number_nonzero, passed_on}
use Rattle.records.proofs.RuleLaws.{keyed, entry_key, entry_slot, entry_versions}
use Rattle.point.specs.Validate.{slot_refusal}
use Rattle.point.proofs.Piloted.check_entry.Goals as goal

pub returns-in_err-check_key : goal.returns-in_err-check_key
returns-in_err-check_key c = let a = c.args in
    passed_on _ _ _ c.from_residual.ensures.1
    (entry_key (slot_refusal a.self.now.headed.body.now) _ (Some a.data_length) _ _ _ c.in_err-check_key.ensures (number_nonzero _))

pub check_slot-requires : goal.check_slot-requires
check_slot-requires c = let k = keyed _ c.args.prev c.args.p (sym c.in_ok-check_key.ensures) in
    record { here = c.requires.here; whole = k.whole }

pub returns-in_err-check_slot : goal.returns-in_err-check_slot
returns-in_err-check_slot c = let a = c.args in
    passed_on _ _ _ c.from_residual-in_err-check_slot.ensures.1
    (entry_slot (slot_refusal a.self.now.headed.body.now) _ (Some a.data_length) a.prev _ _ (sym c.in_ok-check_key.ensures) c.in_err-check_slot.ensures (number_nonzero _))

pub check_entry_versions-requires : goal.check_entry_versions-requires
check_entry_versions-requires c = let a = c.args in
    (keyed _ a.prev a.p (sym c.in_ok-check_key.ensures)).whole

pub returns : goal.returns
returns c = let a = c.args in
    entry_versions (slot_refusal a.self.now.headed.body.now) _ (Some a.data_length) a.prev a.p _ (sym c.in_ok-check_key.ensures)
    (sym c.in_ok-check_slot.ensures) c.check_entry_versions.ensures
