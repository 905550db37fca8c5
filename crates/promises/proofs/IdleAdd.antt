-- An idle add is shut out, by computing what add's contract says of the first key. Assumes nothing.
use Rattle.std.specs.Prelude.{Err, Ok}
use Prim.Native.Nat.{ℕ}
use native.Mathlib.Omega.{arith}
use mathlib.Core.Path.{◌≡◌, ap}
use mathlib.Core.List.{List}
use Rattle.words.specs.Field.{bytes_of, splice}
use Rattle.records.specs.Model.{version_bytes, versions_bytes, entry_bytes}
use Rattle.builder.specs.Add.{Added}
use Rattle.builder.specs.State.{fits, last_of}
use Rattle.builder.specs.Add.{rises_after, new_causes, taking_causes, add_causes, add_refusal, new_buffer, add_of, buffer_after_add}
use Rattle.promises.specs.IdleAdd.{FirstAdd, first_state, first_buffer, IdleAdd}

first_answer : {r : Added} {after : List ℕ} → FirstAdd r after → r ≡ Ok (first_state, 22)
unfolding add_of add_refusal add_causes taking_causes new_causes rises_after fits last_of
first_answer P = P.answer

first_buffer_is : {r : Added} {after : List ℕ} → FirstAdd r after → after ≡ first_buffer
unfolding buffer_after_add add_refusal add_causes taking_causes new_causes rises_after fits last_of new_buffer splice entry_bytes versions_bytes version_bytes bytes_of
first_buffer_is P = P.buffer

-- the keys of an answered state
abbrev keys_answered : Added → ℕ
keys_answered (Ok (s, place)) = s.keys
keys_answered (Err n) = 0

-- THEOREM: an idle add is shut out
pub idle_add : IdleAdd
idle_add = record {
  first_answer = first_answer;
  first_buffer_is = first_buffer_is;
  never_unchanged = λ P. omega (arith, ap keys_answered (first_answer P));
  never_invented = λ d P. d (ap keys_answered (first_answer P));
}
