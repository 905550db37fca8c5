-- `Fitting::check_new` refuses by the first cause that holds of a new key. Assumes nothing.
use borrow.Author.Tests.{le-leb, lt-leb, lt-ltb, le-ltb}
use Rattle.builder.specs.Add.{new_causes}
use Rattle.builder.proofs.StateLaws.{fits_inside}
use Rattle.builder.proofs.Fitting.check_new.Goals as goal

pub returns-then-not-rises : goal.returns-then-not-rises
unfolding new_causes
returns-then-not-rises c = rw (← c.rises.ensures, c.if-not-rises.true)

pub returns-then-self-ge-MAX_KEYS : goal.returns-then-self-ge-MAX_KEYS
unfolding new_causes
returns-then-self-ge-MAX_KEYS c = rw (← c.rises.ensures, c.if-not-rises.false, le-leb _ _ c.if-self-ge-MAX_KEYS.true)

pub overflow_sub-self : goal.overflow_sub-self
overflow_sub-self c = let s = c.args.self.now in fits_inside s.state s.buffer.now s.fitting

pub returns-then-self-key : goal.returns-then-self-key
unfolding new_causes
returns-then-self-key c =
    rw (← c.rises.ensures, c.if-not-rises.false, lt-leb _ _ c.if-self-ge-MAX_KEYS.false, lt-ltb _ _ c.if-self-key.true)

pub returns : goal.returns
unfolding new_causes
returns c = rw (← c.rises.ensures, c.if-not-rises.false, lt-leb _ _ c.if-self-ge-MAX_KEYS.false, le-ltb _ _ c.if-self-key.false)
