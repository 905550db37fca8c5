-- Get in document 01's order (document 01, "Get"). Each `Damaged` here is a cause of 14, by its comment.
use Rattle.std.specs.Prelude.{ℕ, ◌+◌, List, [], ◌∷◌, cond, ◌≡◌, ltb, eqb, length, take, drop, None, Option, Some}
use Rattle.words.specs.Part.{same_as}
use Rattle.numbers.specs.declared.Refusal.TheVariants.{Damage}
use Rattle.numbers.specs.Numbers.{number}
use Rattle.mixing.specs.Mixing.{hash_of, fingerprint_of}
use Rattle.layout.specs.Layout.{header_refusal, seed_in, keys_in, arena_in, pilot_of, direct_past, slot_of, slot_place, record_offset, fingerprint_low}
use Rattle.records.specs.Limits.{Limit}
use Rattle.records.specs.declared.cursor.Head.{Head}
use Rattle.records.specs.declared.Within.{Within}
use Rattle.records.specs.declared.Within.TheVariants as within
use Rattle.records.specs.Model.{kind_byte}
use Rattle.records.specs.Places.{key_at}
use Rattle.records.specs.Cursor.{head_at}
use Rattle.records.specs.Within.{first_within}
use Rattle.point.specs.declared.Located.{Located}
use Rattle.point.specs.declared.Located.TheVariants as located
use Rattle.point.specs.declared.Opened.{Opened}
use Rattle.point.specs.declared.Opened.TheVariants as opened
use Rattle.point.specs.declared.Answer.{Answer}
use Rattle.point.specs.declared.Answer.TheVariants.{Found, Nothing, Refused}

-- the record that the slot of a hash names: 14 a chosen direct pilot at or past n; nothing where the low 16 fingerprint bits differ;
-- 14 a record outside the body
unfoldable pub locate_hash : List ℕ → ℕ → Located
locate_hash body h =
    cond (direct_past (keys_in body) (pilot_of body h)) located.Damaged
    (cond (eqb (fingerprint_low body (slot_place body (slot_of body h))) (fingerprint_of h))
    (cond (ltb (length body) (arena_in body + record_offset body (slot_place body (slot_of body h)))) located.Damaged
    (located.At (arena_in body + record_offset body (slot_place body (slot_of body h)))))
    located.Nothing)

-- the place of a record for a key: 14 where 20 or 21 refuse
unfoldable pub locate_of : List ℕ → List ℕ → Located
locate_of body key = cond (eqb (header_refusal body) 0) (locate_hash body (hash_of (seed_in body) key)) located.Damaged

-- the versions of the record at p, by its head: 14 record header or key outside the body, nothing where the key differs
abbrev pub open_head : List ℕ → ℕ → List ℕ → Option Head → Opened
open_head body p key None = opened.Damaged
open_head body p key (Some h) =
    cond (same_as (key_at body p) key) (opened.Open (record { first = h.first; count = h.versions })) opened.Nothing

unfoldable pub open_record_of : List ℕ → ℕ → List ℕ → Opened
open_record_of body p key = open_head body p key (head_at body p)

-- a key's versions
abbrev pub open_at : List ℕ → List ℕ → Located → Opened
open_at body key (located.At p) = open_record_of body p key
open_at body key located.Nothing = opened.Nothing
open_at body key located.Damaged = opened.Damaged

unfoldable pub open_of : List ℕ → List ℕ → Opened
open_of body key = open_at body key (locate_of body key)

-- the first version within the limit: 14 one visited outside the body, 14 one of bad kind
unfoldable pub first_for : List ℕ → Opened → Limit → Within
first_for body opened.Nothing limit = within.Nothing
first_for body opened.Damaged limit = within.Damaged
first_for body (opened.Open v) limit = first_within body limit v.first v.count

-- the answer: 14 if offset + length passes the data
unfoldable pub answer_of : ℕ → Within → Answer
answer_of size (within.Found r) = cond (ltb size (r.offset + r.length)) (Refused Damage) (Found r)
answer_of size within.Nothing = Nothing
answer_of size within.Damaged = Refused Damage

-- the answer to an opening under a limit, with data of this size
abbrev pub answer_from : List ℕ → (size : ℕ) → Opened → Limit → Answer
answer_from body size o limit = answer_of size (first_for body o limit)

-- and to a key
unfoldable pub get_of : List ℕ → (size : ℕ) → List ℕ → Limit → Answer
get_of body size key limit = answer_from body size (open_of body key) limit

-- that part of the lent data, or the data's first zero bytes if no record is found
unfoldable pub part_of : List ℕ → Answer → List ℕ
part_of bytes (Found r) = take r.length (drop r.offset bytes)
part_of bytes Nothing = []
part_of bytes (Refused r) = []

unfoldable pub value_of : (body bytes : List ℕ) → List ℕ → Limit → List ℕ
value_of body bytes key limit = part_of bytes (get_of body (length bytes) key limit)

-- where that part starts in the data: at the record's offset, or at the data's first byte
unfoldable pub start_of : Answer → ℕ
start_of (Found r) = r.offset
start_of Nothing = 0
start_of (Refused r) = 0

-- what a call of value promises of the part handed back, with the data lent at a place (its block, and how far in): the part's bytes, and that it
-- lies in the lent data itself, from its start on
pub record ValuePost (body bytes key : List ℕ) (limit : Limit) (lent : ℕ × ℕ) (part : List ℕ) (place : ℕ × ℕ) : Type 0 where
  pub value : part ≡ value_of body bytes key limit
  pub block : place.0 ≡ lent.0
  pub start : place.1 ≡ lent.1 + start_of (get_of body (length bytes) key limit)

-- the paper's number of a location (0 a place, 1 nothing, 14 damage) and its value (the place)
abbrev pub located_number : Located → ℕ
located_number (located.At p) = 0
located_number located.Nothing = 1
located_number located.Damaged = 14

abbrev pub located_values : Located → List ℕ
located_values (located.At p) = p ∷ []
located_values located.Nothing = []
located_values located.Damaged = []

-- the paper's number of an opening (0 open, 1 nothing, 14 damage) and its values (where the first version stands, how many there are)
abbrev pub opened_number : Opened → ℕ
opened_number (opened.Open v) = 0
opened_number opened.Nothing = 1
opened_number opened.Damaged = 14

abbrev pub opened_values : Opened → List ℕ
opened_values (opened.Open v) = v.first ∷ v.count ∷ []
opened_values opened.Nothing = []
opened_values opened.Damaged = []

-- the paper's number of an answer (0 found, 1 nothing, else the refusal's) and its values (kind, sequence, offset, length)
abbrev pub answer_number : Answer → ℕ
answer_number (Found r) = 0
answer_number Nothing = 1
answer_number (Refused r) = number r

abbrev pub answer_values : Answer → List ℕ
answer_values (Found r) = kind_byte r.kind ∷ r.sequence ∷ r.offset ∷ r.length ∷ []
answer_values Nothing = []
answer_values (Refused r) = []
