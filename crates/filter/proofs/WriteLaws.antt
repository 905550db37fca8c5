-- Laws of writing: what stands in front of the cells, and the output written whole. Assumes nothing.
use mathlib.Core.Path.{◌≡◌, ap, ◌∙◌}
use mathlib.Core.Bool.{true}
use mathlib.Core.List.{List}
use Prim.Native.Nat.{ℕ, ◌+◌, ◌≤◌}
use native.Mathlib.Omega.{arith}
use lib.ListN.{length}
use borrow.Author.Tests.{le-ltb}
use Rattle.std.specs.Prelude.{Result, Ok}
use Rattle.numbers.specs.declared.Refusal.{Refusal}
use Rattle.words.specs.Field.{splice}
use Rattle.fuse.proofs.HeaderLaws.{header_length, positive_length, put_behind}
use Rattle.filter.specs.declared.SstFilter.{SstFilter}
use Rattle.filter.specs.declared.SstFilter.TheVariants.{Positive, Fuse, Refused}
use Rattle.filter.specs.Reading.{front_of, acceptable}
use Rattle.filter.specs.Writing.{bytes_for, write_of, output_by, WritePost}

-- 48 bytes stand in front of the cells of a filter that is acceptable
pub front_length : (filter : SstFilter) (cells : ℕ) → acceptable filter cells ≡ true → length (front_of filter) ≡ 48
unfolding acceptable front_of
front_length Positive cells t = positive_length
front_length (Fuse s) cells t = header_length s
front_length Refused cells t = cc

-- ---- written whole

-- the front, then the cells behind it
pub whole_post : (filter : SstFilter) (cells out after : List ℕ) → acceptable filter (length cells) ≡ true → 48 + length cells ≤ length out
    → after ≡ splice (splice out 0 (front_of filter)) 48 cells → WritePost filter cells out (Ok (48 + length cells)) after
unfolding write_of bytes_for
whole_post filter cells out after e l p =
    let w : Ok (48 + length cells) ≡ write_of filter cells (length out) = simp (e, le-ltb _ _ l) in
    record {
      answer = w;
      output =
          p ∙ put_behind out (front_of filter) cells 48 (front_length filter (length cells) e) (omega arith)
          ∙ ap (λ (r : Result ℕ Refusal). output_by r filter cells out) w;
    }
