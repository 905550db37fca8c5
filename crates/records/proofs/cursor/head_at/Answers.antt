-- `head_at` is `head_at`, by its tests. Assumes nothing.
use native.Mathlib.Omega.{arith}
use Rattle.records.proofs.CursorLaws.{head_short, head_cut, head_whole}
use Rattle.records.proofs.cursor.head_at.Goals as goal

pub returns-then-bytes-p : goal.returns-then-bytes-p
returns-then-bytes-p c = head_short _ _ (omega arith)

pub returns-then-bytes-p-lt-BYTES : goal.returns-then-bytes-p-lt-BYTES
returns-then-bytes-p-lt-BYTES c = head_short _ _ (omega arith)

pub returns-then-bytes-key : goal.returns-then-bytes-key
returns-then-bytes-key c = head_cut _ _ (omega arith) (omega arith)

pub returns : goal.returns
returns c = head_whole _ _ _ _ c.u32_at-length.ensures c.u32_at-versions.ensures (omega arith)
