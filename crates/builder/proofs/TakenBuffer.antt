-- The buffer of a taken list: its used bytes are bytes, and the list is taken in every buffer that begins with them. Assumes nothing.
use Prim.Native.Nat.{ℕ, zero, suc, ◌≤◌}
use mathlib.Core.Path.{◌≡◌, sym, ap, ◌∙◌}
use mathlib.Core.List.{List, [], ◌∷◌, ◌++◌}
use native.Mathlib.Omega.{arith}
use lib.Dec.{lit<}
use lib.ListN.{length, take, length-take, take-append-drop}
use Rattle.laws.specs.Each.{Each}
use Rattle.laws.specs.Each.Each.{each_none, each_more}
use Rattle.words.specs.Field.{bytes_of}
use Rattle.words.proofs.Laws.{bytes_bytes_of, bytes_append}
use Rattle.words.specs.Field.{AllBytes}
use Rattle.records.specs.declared.Kind.{Kind}
use Rattle.records.specs.declared.Kind.TheVariants.{Put, Tombstone}
use Rattle.records.specs.declared.Record.{Record}
use Rattle.records.specs.Model.{Entry, kind_byte, version_bytes, versions_bytes, entry_bytes, table_bytes}
use Rattle.builder.specs.declared.PointBuilder.{PointBuilder}
use Rattle.builder.specs.Taken.{KeyBytes, TakenList, TakenInto}
use Rattle.builder.proofs.TakenTheorems.{taken_facts, taken_state, taken_keys}
use Rattle.builder.proofs.TakenExists.{rules_taken}

-- ---- the used bytes

kind_byte_lem : (kind : Kind) (xs : List ℕ) → AllBytes xs → AllBytes (kind_byte kind ∷ xs)
kind_byte_lem Put xs h zero = lit< tt
kind_byte_lem Tombstone xs h zero = lit< tt
kind_byte_lem kind xs h (suc i) = h i

version_bytes_lem : (r : Record) → AllBytes (version_bytes r)
unfolding version_bytes
version_bytes_lem r =
    bytes_append (bytes_of 8 r.sequence) (kind_byte r.kind ∷ bytes_of 4 r.length ++ bytes_of 8 r.offset) (bytes_bytes_of 8 r.sequence)
    (kind_byte_lem r.kind (bytes_of 4 r.length ++ bytes_of 8 r.offset)
    (bytes_append (bytes_of 4 r.length) (bytes_of 8 r.offset) (bytes_bytes_of 4 r.length) (bytes_bytes_of 8 r.offset)))

versions_bytes_lem : (rs : List Record) → AllBytes (versions_bytes rs)
unfolding versions_bytes
versions_bytes_lem [] = λ i. lit< tt
versions_bytes_lem (r ∷ rs) = bytes_append (version_bytes r) (versions_bytes rs) (version_bytes_lem r) (versions_bytes_lem rs)

entry_bytes_lem : (e : Entry) → KeyBytes e → AllBytes (entry_bytes e)
unfolding entry_bytes
entry_bytes_lem e b =
    bytes_append (bytes_of 4 (length e.key)) _ (bytes_bytes_of 4 (length e.key))
    (bytes_append (bytes_of 4 (length e.versions)) _ (bytes_bytes_of 4 (length e.versions))
    (bytes_append e.key (versions_bytes e.versions) b (versions_bytes_lem e.versions)))

table_bytes_lem : (table : List Entry) → Each KeyBytes table → AllBytes (table_bytes table)
unfolding table_bytes
table_bytes_lem [] each_none = λ i. lit< tt
table_bytes_lem (e ∷ es) (each_more b bs) = bytes_append (entry_bytes e) (table_bytes es) (entry_bytes_lem e b) (table_bytes_lem es bs)

-- THEOREM: the used bytes of a taken list are bytes
pub taken_bytes : {s : PointBuilder} {buffer : List ℕ} {table : List Entry} → TakenList s buffer table → AllBytes (take s.used buffer)
taken_bytes {s} {buffer} {table} t = rw (taken_facts t).bytes (table_bytes_lem table (taken_keys t))

-- ---- another buffer

-- what is taken into a buffer that begins with a taken list's used bytes is that list as it was
taken_again : {s : PointBuilder} {buffer grown : List ℕ} {table : List Entry} → TakenList s buffer table → take s.used grown ≡ take s.used buffer
    → TakenInto grown table → TakenList s grown table
taken_again {s} {buffer} {grown} {table} t same I =
    let e : I.state ≡ s = taken_state I.taken ∙ sym (taken_state t) in
    let f : take I.state.used I.after ≡ take I.state.used grown =
    (taken_facts I.taken).bytes ∙ sym (same ∙ (taken_facts t).bytes) ∙ ap (λ (x : PointBuilder). take x.used grown) (sym e) in
    let a : I.after ≡ grown = sym (take-append-drop I.state.used I.after) ∙ rw (f, I.behind) (take-append-drop I.state.used grown) in
    rw (e, a) at I.taken

-- THEOREM: a taken list stays taken where its buffer grows: the used bytes copied to the front of another buffer
pub taken_grown : {s : PointBuilder} {buffer : List ℕ} {table : List Entry} → TakenList s buffer table
    → (grown : List ℕ) → take s.used grown ≡ take s.used buffer → TakenList s grown table
taken_grown {s} {buffer} {table} t grown same =
    let f = taken_facts t in
    let n : length (take s.used grown) ≡ length (table_bytes table) = ap length (same ∙ f.bytes) in
    let fit : length (table_bytes table) ≤ length grown = omega (arith, length-take s.used grown) in
    taken_again t same (rules_taken table f.rules (taken_keys t) f.few grown fit)
