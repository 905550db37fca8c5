-- Between the steps: what a writer asks for and leaves, a text put from a place on as far as the buffer reaches. An empty buffer is thus a
-- measure of the text's length.
use Rattle.std.specs.Prelude.{ℕ, ◌+◌, ◌^◌, ◌<◌, ◌≡◌, List, length}
use Rattle.std.proofs.lemmas.List.Edits.{sets}
use Rattle.text.specs.declared.Writer.{Writer}

-- the text from `at` on ends at a place that can be named
pub record Ends (at : ℕ) (text : List ℕ) : Type 0 where
  pub inside : at + length text < 2 ^ 64

-- the writer after it put the text from its place on: the same buffer, what lies past the buffer's end being left out, and the place after
-- the text
pub record Wrote (before : Writer) (text : List ℕ) (after : Writer) : Type 0 where
  pub same : after.out.ghost_name ≡ before.out.ghost_name
  pub buffer : after.out.now ≡ sets before.out.now before.at text
  pub place : after.at ≡ before.at + length text
