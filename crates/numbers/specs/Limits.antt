-- The limits of keys and values (document 01, "Calls and the numbers they refuse with").
use Rattle.std.specs.Prelude.{ℕ}

-- a key has at most 1,048,576 bytes
abbrev pub most_key_bytes : ℕ
most_key_bytes = 1048576

-- a value has at most 16,777,216 bytes
abbrev pub most_value_bytes : ℕ
most_value_bytes = 16777216

-- an index is built of at most 65,536 keys
abbrev pub most_keys : ℕ
most_keys = 65536

-- a key has at most 4,294,967,295 versions
abbrev pub most_versions : ℕ
most_versions = 4294967295
