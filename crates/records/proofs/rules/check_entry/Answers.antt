-- `check_entry` refuses by `entry_refusal` with no slots: the key's refusal, then the versions'. Assumes nothing.
use mathlib.Core.Path.{refl, sym}
use Rattle.numbers.proofs.NumberLaws.{refused_first, passed_on}
use Rattle.records.specs.Rules.{unslotted, entry_refusal}
use Rattle.records.proofs.RuleLaws.{keyed, entry_versions}
use Rattle.records.proofs.rules.check_entry.Goals as goal

pub returns-in_err-check_key : goal.returns-in_err-check_key
unfolding entry_refusal
returns-in_err-check_key c =
    passed_on _ _ _ c.from_residual.ensures.1 (refused_first _ _ _ c.in_err-check_key.ensures)

pub check_entry_versions-requires : goal.check_entry_versions-requires
check_entry_versions-requires c = let a = c.args in
    (keyed a.bytes.now a.prev a.p (sym c.in_ok-check_key.ensures)).whole

pub returns : goal.returns
returns c = let a = c.args in
    entry_versions unslotted a.bytes.now a.test a.prev a.p _ (sym c.in_ok-check_key.ensures) refl c.check_entry_versions.ensures
