-- `put_words` copies the values over the front of the words. Assumes nothing.
use Rattle.std.proofs.Common.{ℕ, List, ◌++◌, ap, sym, ◌∙◌, length, drop}
use Rattle.words.proofs.PartLaws.{splice_front}
use Rattle.kiban_c.proofs.lent.put_words.Goals as goal

pub returns : goal.returns
returns c = let a = c.args in
    ap (λ (front : List ℕ). front ++ drop (length a.values.now) a.words.now) c.copy_from_slice.ensures.after ∙ sym (splice_front a.words.now a.values.now)
