-- The example of document 01, "The listing": three keys.
use Rattle.std.specs.Prelude.{ℕ, List, [], ◌∷◌}
use Rattle.records.specs.declared.Kind.TheVariants.{Put, Tombstone}
use Rattle.records.specs.Model.{Entry, table_bytes}

-- key A (put 9, offset 100, length 8; put 4, offset 40, length 8), B (tombstone 7, offset 108; put 3, offset 60, length 8), C (put 12, offset 108, length 8)
unfoldable pub example_table : List Entry
example_table =
    record {
      key = 65 ∷ [];
      versions = record { kind = Put; sequence = 9; offset = 100; length = 8 } ∷ record { kind = Put; sequence = 4; offset = 40; length = 8 } ∷ [];
    }
    ∷ record {
      key = 66 ∷ [];
      versions = record { kind = Tombstone; sequence = 7; offset = 108; length = 0 } ∷ record { kind = Put; sequence = 3; offset = 60; length = 8 } ∷ [];
    }
    ∷ record { key = 67 ∷ []; versions = record { kind = Put; sequence = 12; offset = 108; length = 8 } ∷ [] }
    ∷ []

-- its arena
unfoldable pub example_arena : List ℕ
example_arena = table_bytes example_table
