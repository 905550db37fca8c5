-- Demand 3 of any bytes that validation accepts, from the theorems of point. Assumes nothing.
use Rattle.numbers.specs.declared.Refusal.TheVariants.{Damage}
use Rattle.std.specs.Prelude.{Ok}
use Prim.Native.Nat.{ℕ}
use mathlib.Core.Path.{◌≡◌}
use mathlib.Core.List.{List}
use Rattle.words.specs.Field.{AllBytes}
use Rattle.point.specs.Validate.{validate_of}
use Rattle.point.proofs.AnswerLaws.{get_cause, damage_gets, get_nothing, nothing_get}
use Rattle.point.proofs.SlotLaws.{holds_table, slot_owner, owner_slot}
use Rattle.point.proofs.Theorems.{get_is_lookup, get_found, get_finds, get_nothing_found, get_misses, get_never_refuses, value_is_part}
use Rattle.promises.specs.Accepted.{AcceptedBody, OnAccepted}

accepted_body : (body : List ℕ) (size : ℕ) → validate_of body size ≡ Ok (record {}) → AllBytes body → AcceptedBody body size
accepted_body body size ok all = record {
  one_table_is = holds_table body size ok all;
  slot_key = slot_owner body size ok;
  key_slot_is = owner_slot body size ok;
  asking = λ key limit. record {
    asked = get_is_lookup body size ok all key limit;
    found_newest = get_found body size ok all key limit;
    newest_found = get_finds body size ok all key limit;
    nothing_within = λ e. get_nothing_found body size ok all key limit (get_nothing body size key limit e);
    none_nothing = λ n. nothing_get body size key limit (get_misses body size ok all key limit n);
    never_damaged = get_never_refuses body size ok all key limit;
    never_fourteen = λ e. get_never_refuses body size ok all key limit Damage (damage_gets body size key limit (get_cause body size key limit e));
  };
}

-- THEOREM: demand 3, of any bytes that validation accepts
pub on_accepted : OnAccepted
on_accepted = record { accepted = accepted_body; value_part = value_is_part }
