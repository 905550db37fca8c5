-- What each test that get makes says of its answer, over the code's own values; a found record lies inside the data; none as a limit is
-- the greatest sequence there is. Assumes nothing.
use Rattle.std.specs.Prelude.{None, Option, Some}
use Prim.Native.Nat.{ℕ, ◌+◌, ◌-◌, ◌<◌, ◌≤◌}
use native.Mathlib.Nat.{add-sub_cancel_left}
use native.Mathlib.Omega.{arith}
use mathlib.Core.Path.{◌≡◌, refl, sym, ap, ◌∙◌}
use mathlib.Core.List.{List, []}
use mathlib.Core.Bool.{Bool, true, false, cond}
use lib.ListN.{length, take, drop}
use lib.Dec.{ltb}
use borrow.Author.Tests.{ltb-false, lt-ltb, le-ltb, le-leb, lt-leb, eq-eqb, ne_eqb}
use Rattle.words.specs.Field.{le}
use Rattle.words.specs.Field.{AllBytes}
use Rattle.words.specs.Part.{same_as}
use Rattle.numbers.specs.declared.Refusal.{Refusal}
use Rattle.numbers.specs.declared.Refusal.TheVariants.{Damage}
use Rattle.mixing.specs.Mixing.{hash_of, fingerprint_of}
use Rattle.mixing.specs.Slots.{direct}
use Rattle.layout.specs.Layout.{header_refusal, seed_in, keys_in, arena_in, pilot_of, direct_past, slot_of, slot_place}
use Rattle.records.specs.Limits.{Limit}
use Rattle.records.specs.declared.Record.{Record}
use Rattle.records.specs.declared.cursor.Head.{Head}
use Rattle.records.specs.declared.Within.{Within}
use Rattle.records.specs.declared.Within.TheVariants as within
use Rattle.records.specs.Cursor.{head_at}
use Rattle.records.specs.Model.{limit_of}
use Rattle.records.specs.Places.{key_at, first_version, version_count}
use Rattle.records.specs.Rules.{past_data}
use Rattle.records.specs.Within.{first_within}
use Rattle.records.proofs.CursorLaws.{head_whole}
use Rattle.records.proofs.WithinLaws.{first_limit}
use Rattle.point.specs.declared.Versions.{Versions}
use Rattle.point.specs.declared.Answer.{Answer}
use Rattle.point.specs.declared.Answer.TheVariants.{Found, Nothing, Refused}
use Rattle.point.specs.declared.Located.{Located}
use Rattle.point.specs.declared.Located.TheVariants as located
use Rattle.point.specs.declared.Opened.{Opened}
use Rattle.point.specs.declared.Opened.TheVariants as opened
use Rattle.point.specs.Get.{locate_hash, locate_of, open_head, open_record_of, open_at, open_of, first_for, answer_of, answer_from, get_of, part_of, value_of, start_of, ValuePost}

-- ---- the slot: n keys, pilot g, slot s, fingerprint f, u the 16 bits read, arena start a, offset o

module _ (body : List ℕ) (h n g : ℕ) (isn : n ≡ keys_in body) (isg : g ≡ pilot_of body h) where
  pub near_is : g < direct + n → direct_past (keys_in body) (pilot_of body h) ≡ false
  near_is l = rw (← isn, ← isg) (lt-leb (direct + n) g l)

  pub locate_past : direct + n ≤ g → locate_hash body h ≡ located.Damaged
  unfolding locate_hash
  locate_past l = rw (← isn, ← isg, le-leb (direct + n) g l)

  module _ (l : g < direct + n) (s f u : ℕ) (iss : s ≡ slot_place body (slot_of body h)) (isu : u ≡ le 2 body (s + 8)) (isf : f ≡ fingerprint_of h) where
    pub locate_other : (u ≡ f → ⊥) → locate_hash body h ≡ located.Nothing
    unfolding locate_hash
    locate_other ne = rw (near_is l, ← iss, ← isu, ← isf, ne_eqb u f ne)

    module _ (a o : ℕ) (same : u ≡ f) (isa : a ≡ arena_in body) (iso : o ≡ le 8 body s) where
      pub locate_out : length body < a + o → locate_hash body h ≡ located.Damaged
      unfolding locate_hash
      locate_out p = rw (near_is l, ← iss, ← isu, ← isf, eq-eqb u f same, ← isa, ← iso, lt-ltb (length body) (a + o) p)

      pub locate_at : a + o ≤ length body → locate_hash body h ≡ located.At (a + o)
      unfolding locate_hash
      locate_at p = rw (near_is l, ← iss, ← isu, ← isf, eq-eqb u f same, ← isa, ← iso, le-ltb (length body) (a + o) p)

-- ---- the key

module _ (body key : List ℕ) (r : ℕ) (isr : r ≡ header_refusal body) where
  pub locate_refused : (r ≡ 0 → ⊥) → locate_of body key ≡ located.Damaged
  unfolding locate_of
  locate_refused n = rw (← isr, ne_eqb r 0 n)

  pub locate_on : r ≡ 0 → locate_of body key ≡ locate_hash body (hash_of (seed_in body) key)
  unfolding locate_of
  locate_on e = rw (← isr, eq-eqb r 0 e)

-- ---- the record

module _ (body key : List ℕ) (p : ℕ) where
  -- by its head
  pub record_head : (h : (Option Head)) → head_at body p ≡ h → open_record_of body p key ≡ open_head body p key h
  unfolding open_record_of
  record_head h e = ap (open_head body p key) e

  -- a whole one, by its key
  pub record_whole : first_version body p ≤ length body → (b : Bool) → same_as (key_at body p) key ≡ b
      → open_record_of body p key ≡ cond b (opened.Open (record { first = first_version body p; count = version_count body p })) opened.Nothing
  record_whole whole b e = record_head _ (sym (head_whole body p _ _ refl refl whole)) ∙ rw e

pub open_is : (body key : List ℕ) (l : Located) → l ≡ locate_of body key → open_of body key ≡ open_at body key l
unfolding open_of
open_is body key l e = rw (← e)

-- ---- the answer

module _ (size : ℕ) (w : Within) (r : Record) (isw : w ≡ within.Found r) (t : Bool) (ist : t ≡ past_data (Some size) r.offset r.length) where
  pub answer_past : t ≡ true → answer_of size w ≡ Refused Damage
  unfolding answer_of
  answer_past e = rw (isw, ← ist, e)

  pub answer_found : t ≡ false → answer_of size w ≡ Found r
  unfolding answer_of
  answer_found e = rw (isw, ← ist, e)

pub answer_nothing : (size : ℕ) (w : Within) → w ≡ within.Nothing → answer_of size w ≡ Nothing
unfolding answer_of
answer_nothing size w e = rw e

pub answer_damaged : (size : ℕ) (w : Within) → w ≡ within.Damaged → answer_of size w ≡ Refused Damage
unfolding answer_of
answer_damaged size w e = rw e

module _ (body : List ℕ) (size : ℕ) (limit : Limit) (o : Opened) where
  pub from_open : (v : Versions) (w : Within) → o ≡ opened.Open v → w ≡ first_within body limit v.first v.count → answer_from body size o limit ≡ answer_of size w
  unfolding first_for
  from_open v w e ew = rw (e, ← ew)

  pub from_nothing : o ≡ opened.Nothing → answer_from body size o limit ≡ Nothing
  unfolding first_for answer_of
  from_nothing e = rw e

  pub from_damaged : o ≡ opened.Damaged → answer_from body size o limit ≡ Refused Damage
  unfolding first_for answer_of
  from_damaged e = rw e

-- ---- no limit

opened_unlimited : (body : List ℕ) (o : Opened) → AllBytes body → first_for body o None ≡ first_for body o (Some (limit_of None))
unfolding first_for
opened_unlimited body (opened.Open v) b = first_limit body None v.first v.count b
opened_unlimited body opened.Nothing b = refl
opened_unlimited body opened.Damaged b = refl

-- THEOREM: none as a limit is the greatest sequence there is, on all bytes
pub none_is_greatest : (body : List ℕ) (size : ℕ) (key : List ℕ) → AllBytes body → get_of body size key None ≡ get_of body size key (Some (limit_of None))
unfolding get_of
none_is_greatest body size key b = ap (answer_of size) (opened_unlimited body (open_of body key) b)

-- ---- the value

-- what is found lies inside the data
answer_fits : (size : ℕ) (w : Within) (r : Record) → answer_of size w ≡ Found r → r.offset + r.length ≤ size
unfolding answer_of
answer_fits size (within.Found s) r e = go (ltb size (s.offset + s.length)) refl e
  where
    go : (t : Bool) → ltb size (s.offset + s.length) ≡ t → cond t (Refused Damage) (Found s) ≡ Found r → r.offset + r.length ≤ size
    go true q f = absurd (let z : ◌≡◌ {A = ℕ} 0 1 = cc in omega arith)
    go false q f = let d : s ≡ r = cc in rw (← d) (ltb-false size (s.offset + s.length) q)
answer_fits size within.Nothing r e = absurd (let z : ◌≡◌ {A = ℕ} 0 1 = cc in omega arith)
answer_fits size within.Damaged r e = absurd (let z : ◌≡◌ {A = ℕ} 0 1 = cc in omega arith)

pub get_fits : (body : List ℕ) (size : ℕ) (key : List ℕ) (limit : Limit) (r : Record) → get_of body size key limit ≡ Found r → r.offset + r.length ≤ size
unfolding get_of
get_fits body size key limit r e = answer_fits size (first_for body (open_of body key) limit) r e

-- the part that value hands back, by what get answered: its bytes, and where it starts
module _ (body bytes key : List ℕ) (limit : Limit) (a : Answer) (isa : a ≡ get_of body (length bytes) key limit) (lent : ℕ × ℕ) {place : ℕ × ℕ} (block : place.0 ≡ lent.0) where
  pub value_found : (r : Record) → a ≡ Found r → place.1 ≡ lent.1 + r.offset
      → ValuePost body bytes key limit lent (take (r.offset + r.length - r.offset) (drop r.offset bytes)) place
  unfolding value_of part_of start_of
  value_found r e at = record {
    value = rw (← isa, e, add-sub_cancel_left r.offset r.length);
    block = block;
    start = at ∙ ap (λ (x : Answer). lent.1 + start_of x) (sym e ∙ isa);
  }

  pub value_nothing : a ≡ Nothing → place.1 ≡ lent.1 → ValuePost body bytes key limit lent [] place
  unfolding value_of part_of start_of
  value_nothing e at = record {
    value = rw (← isa, e);
    block = block;
    start = let s : start_of (get_of body (length bytes) key limit) ≡ 0 = ap start_of (sym isa ∙ e) in omega arith;
  }

  pub value_refused : (r : Refusal) → a ≡ Refused r → place.1 ≡ lent.1 → ValuePost body bytes key limit lent [] place
  unfolding value_of part_of start_of
  value_refused r e at = record {
    value = rw (← isa, e);
    block = block;
    start = let s : start_of (get_of body (length bytes) key limit) ≡ 0 = ap start_of (sym isa ∙ e) in omega arith;
  }
