-- `check_versions` refuses by `versions_refusal`: the versions from here on break what all of them break. Assumes nothing.
use mathlib.Core.Path.{sym, ap, ◌∙◌}
use native.Mathlib.Omega.{arith}
use Rattle.numbers.proofs.NumberLaws.{number_nonzero, passed_on}
use Rattle.records.specs.Rules.{versions_refusal}
use Rattle.records.proofs.RuleLaws.{versioned, versions_stop, versions_on, versions_end}
use Rattle.records.proofs.rules.check_versions.Goals as goal

pub returns-in_err-check_version : goal.returns-in_err-check_version
returns-in_err-check_version c = let l = c.loop in
    passed_on _ _ _ c.from_residual.ensures.1
    (versions_stop _ _ l.prev l.at _ (omega arith) _ c.in_err-check_version.ensures (number_nonzero _) ∙ l.invariant.2)

pub loop-preserved : goal.loop-preserved
loop-preserved c = let l = c.loop in
    let e = sym c.in_ok-check_version.ensures in
    let v = versioned c.args.bytes.now c.args.test l.prev l.at e in
    (omega arith, omega arith, ap (versions_refusal _ _ _ _) (omega arith) ∙ sym (versions_on _ _ l.prev l.at _ (omega arith) e) ∙ l.invariant.2)

pub returns : goal.returns
returns c = let l = c.loop in
    versions_end _ _ l.prev l.at _ (omega arith) ∙ l.invariant.2
