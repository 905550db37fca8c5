-- `check_version` gives the number of the first rule of a version that is broken. Assumes nothing.
use mathlib.Core.Path.{sym, ◌∙◌}
use native.Mathlib.Omega.{arith}
use Rattle.records.proofs.RuleLaws.{version_short, version_kind, version_long, version_out, version_full, version_falls}
use Rattle.records.proofs.rules.check_version.Goals as goal

pub returns-then-bytes-p-lt-BYTES : goal.returns-then-bytes-p-lt-BYTES
returns-then-bytes-p-lt-BYTES c = let a = c.args in
    version_short a.bytes.now a.test a.prev a.p (omega arith)

pub returns-then-bad_kind : goal.returns-then-bad_kind
returns-then-bad_kind c = let a = c.args in
    version_kind a.bytes.now a.test a.prev a.p (omega arith) (sym c.bad_kind.ensures ∙ c.if-bad_kind.true)

pub returns-then-size-gt-MAX_VALUE : goal.returns-then-size-gt-MAX_VALUE
returns-then-size-gt-MAX_VALUE c = let a = c.args in
    version_long a.bytes.now a.test a.prev a.p (omega arith) (sym c.bad_kind.ensures ∙ c.if-bad_kind.false) (omega arith)

pub returns-then-past_data : goal.returns-then-past_data
returns-then-past_data c = let a = c.args in
    version_out a.bytes.now a.test a.prev a.p (omega arith) (sym c.bad_kind.ensures ∙ c.if-bad_kind.false) (omega arith)
    _ _ c.u32_at-size.ensures c.u64_at.ensures (sym c.past_data.ensures ∙ c.if-past_data.true)

pub returns-then-full_tombstone : goal.returns-then-full_tombstone
returns-then-full_tombstone c = let a = c.args in
    version_full a.bytes.now a.test a.prev a.p (omega arith) (sym c.bad_kind.ensures ∙ c.if-bad_kind.false) (omega arith)
    _ _ c.u32_at-size.ensures c.u64_at.ensures (sym c.past_data.ensures ∙ c.if-past_data.false)
    (sym c.full_tombstone.ensures ∙ c.if-full_tombstone.true)

pub returns-then-sequence_falls : goal.returns-then-sequence_falls
returns-then-sequence_falls c = let a = c.args in
    version_falls a.bytes.now a.test a.prev a.p (omega arith) (sym c.bad_kind.ensures ∙ c.if-bad_kind.false) (omega arith)
    _ _ c.u32_at-size.ensures c.u64_at.ensures (sym c.past_data.ensures ∙ c.if-past_data.false)
    _ (sym c.full_tombstone.ensures ∙ c.if-full_tombstone.false) (sym c.sequence_falls.ensures ∙ c.if-sequence_falls.true)

pub returns : goal.returns
returns c = let a = c.args in
    version_falls a.bytes.now a.test a.prev a.p (omega arith) (sym c.bad_kind.ensures ∙ c.if-bad_kind.false) (omega arith)
    _ _ c.u32_at-size.ensures c.u64_at.ensures (sym c.past_data.ensures ∙ c.if-past_data.false)
    _ (sym c.full_tombstone.ensures ∙ c.if-full_tombstone.false) (sym c.sequence_falls.ensures ∙ c.if-sequence_falls.false)
