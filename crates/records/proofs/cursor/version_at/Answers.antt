-- `version_at` is `version_at`: its tests, the four fields, and the kind as it is read. Assumes nothing.
use mathlib.Core.Path.{sym}
use native.Mathlib.Omega.{arith}
use Rattle.records.proofs.CursorLaws.{version_outside, version_unknown, version_known}
use Rattle.records.proofs.cursor.version_at.Goals as goal

pub returns-then-bytes-p : goal.returns-then-bytes-p
returns-then-bytes-p c = version_outside _ _ (omega arith)

pub returns-then-bytes-p-lt-BYTES : goal.returns-then-bytes-p-lt-BYTES
returns-then-bytes-p-lt-BYTES c = version_outside _ _ (omega arith)

pub returns-in_err-kind : goal.returns-in_err-kind
returns-in_err-kind c = rw c.from_residual.ensures (version_unknown _ _ (omega arith) (sym c.in_err-kind.ensures))

pub returns : goal.returns
returns c =
    version_known _ _ (omega arith) _ _ _ _ (sym c.in_ok-kind.ensures)
    c.u64_at-sequence.ensures c.u64_at-offset.ensures c.u32_at-length.ensures
