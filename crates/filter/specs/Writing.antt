-- Writing a filter: the bytes in front, then the cells.
use Rattle.std.specs.Prelude.{cond, List, [], ◌∷◌, ◌++◌, ◌≡◌, ℕ, ◌+◌, ltb, length, Result, Ok, Err}
use Rattle.numbers.specs.declared.Refusal.{Refusal}
use Rattle.numbers.specs.declared.Refusal.TheVariants.{Filter, Buffer}
use Rattle.words.specs.Field.{splice}
use Rattle.filter.specs.declared.SstFilter.{SstFilter}
use Rattle.filter.specs.Reading.{front_of, acceptable}

-- a filter's bytes
unfoldable pub bytes_for : SstFilter → (cells : List ℕ) → List ℕ
bytes_for filter cells = front_of filter ++ cells

-- in the order of the checks: not a filter that reading accepts, an output too short, or as many bytes as are written
unfoldable pub write_of : SstFilter → (cells : List ℕ) (room : ℕ) → Result ℕ Refusal
write_of filter cells room =
    cond (acceptable filter (length cells)) (cond (ltb room (48 + length cells)) (Err Buffer) (Ok (48 + length cells))) (Err Filter)

-- the output after each way it went: the bytes in front of what stood there, or as it was
abbrev pub output_by : Result ℕ Refusal → SstFilter → (cells out : List ℕ) → List ℕ
output_by (Ok n) filter cells out = splice out 0 (bytes_for filter cells)
output_by (Err r) filter cells out = out

-- its value: how many bytes were written
abbrev pub written_values : Result ℕ Refusal → List ℕ
written_values (Ok n) = n ∷ []
written_values (Err r) = []

-- what a call of write promises
pub record WritePost (filter : SstFilter) (cells out : List ℕ) (r : Result ℕ Refusal) (after : List ℕ) : Type 0 where
  pub answer : r ≡ write_of filter cells (length out)
  pub output : after ≡ output_by (write_of filter cells (length out)) filter cells out
