-- `Fitting::check_continued` refuses by the first cause that holds of a continued key. Assumes nothing.
use native.Mathlib.Omega.{arith}
use borrow.Author.Tests.{eq-eqb, ne_eqb, le-leb, lt-leb, lt-ltb, le-ltb}
use Rattle.builder.specs.State.{last_of}
use Rattle.builder.specs.Add.{continued_causes}
use Rattle.builder.proofs.StateLaws.{fits_known}
use Rattle.builder.proofs.Fitting.check_continued.Goals.{then-self-eq0-via-then-self-eq0, then-self-eq0-via-else-self-eq0+then-not-same}
use Rattle.builder.proofs.Fitting.check_continued.Goals as goal

pub key_at-requires : goal.key_at-requires
key_at-requires c = let s = c.args.self.now in let f = fits_known s.state s.buffer.now c.if-self-eq0.false s.fitting in omega arith

pub returns-then-self-eq0 : goal.returns-then-self-eq0
unfolding continued_causes last_of
returns-then-self-eq0 c = elim c.then-self-eq0.branch [
  | then-self-eq0-via-then-self-eq0 w ↦ rw (eq-eqb _ _ w.if-self-eq0.true)
  | then-self-eq0-via-else-self-eq0+then-not-same w ↦ rw (ne_eqb _ _ w.if-self-eq0.false, ← w.key_at.ensures, ← w.same.ensures, w.if-not-same.true)
]

pub overflow_sub-used : goal.overflow_sub-used
overflow_sub-used c = let s = c.args.self.now in let f = fits_known s.state s.buffer.now c.if-self-eq0.false s.fitting in omega arith

pub u64_at-requires : goal.u64_at-requires
u64_at-requires c = let s = c.args.self.now in let f = fits_known s.state s.buffer.now c.if-self-eq0.false s.fitting in omega arith

pub returns-then-u64_at-sequence : goal.returns-then-u64_at-sequence
unfolding continued_causes last_of
returns-then-u64_at-sequence c =
    rw (
      ne_eqb _ _ c.if-self-eq0.false,
      ← c.key_at.ensures,
      ← c.same.ensures,
      c.if-not-same.false,
      ← c.u64_at.ensures,
      le-leb _ _ c.if-u64_at-sequence.true,
    )

pub overflow_add-head : goal.overflow_add-head
overflow_add-head c = let s = c.args.self.now in let f = fits_known s.state s.buffer.now c.if-self-eq0.false s.fitting in omega arith

pub u32_at-requires : goal.u32_at-requires
u32_at-requires c = let s = c.args.self.now in let f = fits_known s.state s.buffer.now c.if-self-eq0.false s.fitting in omega arith

pub returns-then-u32_at-ge-MAX_VERSIONS : goal.returns-then-u32_at-ge-MAX_VERSIONS
unfolding continued_causes last_of
returns-then-u32_at-ge-MAX_VERSIONS c =
    rw (
      ne_eqb _ _ c.if-self-eq0.false,
      ← c.key_at.ensures,
      ← c.same.ensures,
      c.if-not-same.false,
      ← c.u64_at.ensures,
      lt-leb _ _ c.if-u64_at-sequence.false,
      ← c.u32_at.ensures,
      le-leb _ _ c.if-u32_at-ge-MAX_VERSIONS.true,
    )

pub overflow_sub-buffer : goal.overflow_sub-buffer
overflow_sub-buffer c = let s = c.args.self.now in let f = fits_known s.state s.buffer.now c.if-self-eq0.false s.fitting in omega arith

pub returns-then-buffer-used-lt-BYTES : goal.returns-then-buffer-used-lt-BYTES
unfolding continued_causes last_of
returns-then-buffer-used-lt-BYTES c =
    rw (
      ne_eqb _ _ c.if-self-eq0.false,
      ← c.key_at.ensures,
      ← c.same.ensures,
      c.if-not-same.false,
      ← c.u64_at.ensures,
      lt-leb _ _ c.if-u64_at-sequence.false,
      ← c.u32_at.ensures,
      lt-leb _ _ c.if-u32_at-ge-MAX_VERSIONS.false,
      lt-ltb _ _ c.if-buffer-used-lt-BYTES.true,
    )

pub returns : goal.returns
unfolding continued_causes last_of
returns c =
    rw (
      ne_eqb _ _ c.if-self-eq0.false,
      ← c.key_at.ensures,
      ← c.same.ensures,
      c.if-not-same.false,
      ← c.u64_at.ensures,
      lt-leb _ _ c.if-u64_at-sequence.false,
      ← c.u32_at.ensures,
      lt-leb _ _ c.if-u32_at-ge-MAX_VERSIONS.false,
      le-ltb _ _ c.if-buffer-used-lt-BYTES.false,
    )
