-- `check_key` gives the number of the first rule of a key that is broken. Assumes nothing.
use mathlib.Core.Path.{sym, ◌∙◌}
use native.Mathlib.Omega.{arith}
use Rattle.records.proofs.RuleLaws.{key_short, key_long, key_out, key_none, key_falls, key_passes}
use Rattle.records.proofs.rules.check_key.Goals as goal

pub returns-then-bytes-p-lt-BYTES : goal.returns-then-bytes-p-lt-BYTES
returns-then-bytes-p-lt-BYTES c = let a = c.args in
    key_short a.bytes.now a.prev a.p (omega arith)

pub returns-then-length-gt-MAX_KEY : goal.returns-then-length-gt-MAX_KEY
returns-then-length-gt-MAX_KEY c = let a = c.args in
    key_long a.bytes.now a.prev a.p (omega arith) (omega arith)

pub returns-then-bytes-p : goal.returns-then-bytes-p
returns-then-bytes-p c = let a = c.args in
    key_out a.bytes.now a.prev a.p (omega arith) (omega arith) (omega arith)

pub returns-then-u32_at-eq0 : goal.returns-then-u32_at-eq0
returns-then-u32_at-eq0 c = let a = c.args in
    key_none a.bytes.now a.prev a.p (omega arith) (omega arith) (omega arith) (omega arith)

pub returns-then-key_rises : goal.returns-then-key_rises
returns-then-key_rises c = let a = c.args in
    sym (key_passes a.bytes.now a.prev a.p (record {
      head = omega arith;
      small = omega arith;
      whole = omega arith;
      some = λ z. c.if-u32_at-eq0.false (c.u32_at.ensures ∙ z);
      rising = sym c.key_rises.ensures ∙ c.if-key_rises.true;
    }))

pub returns : goal.returns
returns c = let a = c.args in
    key_falls a.bytes.now a.prev a.p (omega arith) (omega arith) (omega arith)
    (λ z. c.if-u32_at-eq0.false (c.u32_at.ensures ∙ z)) (sym c.key_rises.ensures ∙ c.if-key_rises.false)
