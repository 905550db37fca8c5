-- `PointBuilder::fits` answers whether the state and the buffer fit, test by test. Assumes nothing.
use mathlib.Core.Path.{sym, ◌∙◌}
use native.Mathlib.Omega.{arith}
use borrow.Author.Tests.{eq-eqb, ne_eqb}
use Rattle.std.proofs.lemmas.Bool.Decides.{Decides-eqb, Decides-like, same_from_decides}
use Rattle.builder.proofs.StateLaws.{fits_zero, fits_not, fits_decides}
use Rattle.builder.proofs.PointBuilder.fits.Goals.{then-self-gt-MAX_KEYS-via-then-self-gt-MAX_KEYS, then-self-gt-MAX_KEYS-via-else-self-gt-MAX_KEYS+then-buffer-used, then-self-gt-MAX_KEYS-via-else-self-gt-MAX_KEYS+else-buffer-used+then-used-lt-BYTES, then-self-gt-MAX_KEYS-via-else-self-gt-MAX_KEYS+else-buffer-used+else-used-lt-BYTES+then-used-head, then-key-via-then-key, then-key-via-else-key+then-versions-eq0}
use Rattle.builder.proofs.PointBuilder.fits.Goals as goal

pub returns-then-used-eq0 : goal.returns-then-used-eq0
returns-then-used-eq0 c =
    let s = c.args in
    sym (fits_zero s.self s.buffer.now c.if-self-eq0.true ∙ rw (eq-eqb s.self.used 0 c.if-used-eq0.true))

pub returns-else-used-eq0 : goal.returns-else-used-eq0
returns-else-used-eq0 c =
    let s = c.args in
    sym (fits_zero s.self s.buffer.now c.if-self-eq0.true ∙ rw (ne_eqb s.self.used 0 c.if-used-eq0.false))

pub returns-then-self-gt-MAX_KEYS : goal.returns-then-self-gt-MAX_KEYS
returns-then-self-gt-MAX_KEYS c = let s = c.args in
    fits_not s.self s.buffer.now c.if-self-eq0.false
    (λ f. elim c.then-self-gt-MAX_KEYS.branch [
      | then-self-gt-MAX_KEYS-via-then-self-gt-MAX_KEYS w ↦ omega arith
      | then-self-gt-MAX_KEYS-via-else-self-gt-MAX_KEYS+then-buffer-used w ↦ omega arith
      | then-self-gt-MAX_KEYS-via-else-self-gt-MAX_KEYS+else-buffer-used+then-used-lt-BYTES w ↦ omega arith
      | then-self-gt-MAX_KEYS-via-else-self-gt-MAX_KEYS+else-buffer-used+else-used-lt-BYTES+then-used-head w ↦ omega arith
    ])

pub returns-then-key : goal.returns-then-key
returns-then-key c = let s = c.args in
    fits_not s.self s.buffer.now c.if-self-eq0.false
    (λ f. elim c.then-key.branch [ then-key-via-then-key w ↦ omega arith | then-key-via-else-key+then-versions-eq0 w ↦ omega arith ])

pub returns : goal.returns
returns c = let s = c.args in
    same_from_decides _ _
    (Decides-like _
    (λ whole. record {
      few = omega arith;
      inside = omega arith;
      headed = omega arith;
      short = omega arith;
      versioned = omega arith;
      whole = omega arith;
    })
    (λ f. omega arith)
    (Decides-eqb _ _))
    (fits_decides s.self s.buffer.now c.if-self-eq0.false)
