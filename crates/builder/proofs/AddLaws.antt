-- What the tests of add leave: the facts of a call that no cause refuses, and back; its answer and its buffer from the refusal.
-- Assumes nothing.
use Rattle.std.specs.Prelude.{Ok, Err}
use Prim.Native.Nat.{ℕ, ◌+◌, ◌≤◌, ◌<◌}
use mathlib.Core.Path.{◌≡◌, sym, ap}
use mathlib.Core.Bool.{Bool, true, false, cond, not}
use mathlib.Core.List.{List}
use native.Mathlib.Omega.{arith}
use borrow.Author.Tests.{ltb-false, leb-false, eqb-false, le-ltb, not-false, ne_eqb}
use lib.Dec.{lit<}
use lib.ListN.{length}
use Rattle.laws.specs.Refusals.{First, later, None, none_here, none_more, Numbered, numbered_none, numbered_more}
use Rattle.laws.proofs.RefusalLaws.{none_only}
use Rattle.numbers.specs.Limits.{most_key_bytes, most_value_bytes, most_keys, most_versions}
use Rattle.numbers.specs.Numbers.{number}
use Rattle.numbers.specs.declared.Refusal.{Refusal}
use Rattle.numbers.proofs.NumberLaws.{answered_refusal, number_nonzero}
use Rattle.std.specs.declared.cmp.Ordering.{Ordering}
use Rattle.words.specs.Part.{order_of, same_as}
use Rattle.records.specs.Places.{version_count, key_at}
use Rattle.std.specs.Ordering.{is_lt}
use Rattle.builder.specs.declared.PointBuilder.{PointBuilder}
use Rattle.builder.specs.State.{fits, last_of, room_of}
use Rattle.builder.proofs.StateLaws.{fits_known, fits_inside, fit_refused}
use Rattle.builder.specs.Add.{Call, rises_after, new_causes, continued_causes, appending_causes, taking_causes, add_causes, add_refusal, Sized, NewPasses, ContinuedPasses, next_state, appended, add_of, buffer_after_add, AddPost}
use Rattle.builder.specs.Inner.Append.{AppendPost}

-- a key beside the last one
pub rises_known : (s : PointBuilder) (buffer key : List ℕ) → (s.keys ≡ 0 → ⊥) → (o : Ordering) → order_of (key_at buffer s.head) key ≡ o → is_lt o ≡ rises_after s (last_of s buffer) key
unfolding rises_after last_of
rises_known s buffer key ne o e = rw (ne_eqb s.keys 0 ne, e)

module _ (s : PointBuilder) (buffer : List ℕ) (call : Call) where
  -- ---- 1, 2 and 3, and then the causes of the key

  key_numbered : (new_key : Bool) → Numbered (cond new_key (new_causes s (last_of s buffer) (room_of s buffer) call.key) (continued_causes s (last_of s buffer) (room_of s buffer) call.key call.sequence))
  unfolding new_causes continued_causes
  key_numbered true = numbered_more (lit< tt) (numbered_more (lit< tt) (numbered_more (lit< tt) numbered_none))
  key_numbered false = numbered_more (lit< tt) (numbered_more (lit< tt) (numbered_more (lit< tt) (numbered_more (lit< tt) (numbered_more (lit< tt) numbered_none))))

  -- every cause has a number
  pub add_numbered : Numbered (add_causes s buffer call)
  unfolding add_causes taking_causes
  add_numbered = numbered_more (lit< tt) (numbered_more (lit< tt) (numbered_more (lit< tt) (numbered_more (lit< tt) (key_numbered call.new_key))))

  -- a state that doesn't fit is refused first
  pub add_unfit : (r : Refusal) → number r ≡ cond (fits s buffer) 0 1 → number r ≡ add_refusal s buffer call
  unfolding add_refusal add_causes
  add_unfit r e = let p = fit_refused _ _ e in rw (p.0, p.1)

  sized_from : None (add_causes s buffer call) → Sized s buffer call × None (appending_causes s (last_of s buffer) (room_of s buffer) call)
  unfolding add_causes taking_causes
  sized_from (none_more f (none_more k (none_more z (none_more t rest)))) =
      (record { fitting = not-false (fits s buffer) f; short = ltb-false most_key_bytes (length call.key) k; small = ltb-false most_value_bytes call.size z; valued = t }, rest)

  pub sized_passed : add_refusal s buffer call ≡ 0 → Sized s buffer call × None (appending_causes s (last_of s buffer) (room_of s buffer) call)
  unfolding add_refusal
  sized_passed e = sized_from (none_only add_numbered e)

  -- ---- a call that no cause refuses

  opened_from : call.new_key ≡ true → None (new_causes s (last_of s buffer) (room_of s buffer) call.key) → NewPasses s buffer call
  unfolding new_causes
  opened_from w (none_more r (none_more n (none_more m none_here))) = record {
    newly = w;
    rising = not-false (rises_after s (last_of s buffer) call.key) r;
    few = leb-false most_keys s.keys n;
    room = ltb-false (room_of s buffer) (29 + length call.key) m;
  }

  -- of a new key
  pub new_passed : add_refusal s buffer call ≡ 0 → call.new_key ≡ true → Sized s buffer call × NewPasses s buffer call
  new_passed e w = let p = sized_passed e in (p.0, opened_from w (rw w at p.1))

  continued_from : call.new_key ≡ false → None (continued_causes s (last_of s buffer) (room_of s buffer) call.key call.sequence) → ContinuedPasses s buffer call
  unfolding continued_causes
  continued_from w (none_more a (none_more r (none_more o (none_more n (none_more m none_here))))) = record {
    further = w;
    keyed = eqb-false s.keys 0 a;
    same = not-false (same_as (last_of s buffer).key call.key) r;
    older = leb-false (last_of s buffer).sequence call.sequence o;
    countable = leb-false most_versions (last_of s buffer).versions n;
    room = ltb-false (room_of s buffer) 21 m;
  }

  -- of a continued key
  pub continued_passed : add_refusal s buffer call ≡ 0 → call.new_key ≡ false → Sized s buffer call × ContinuedPasses s buffer call
  continued_passed e w = let p = sized_passed e in (p.0, continued_from w (rw w at p.1))

  -- what the two ways of appending ask
  pub new_ready : add_refusal s buffer call ≡ 0 → call.new_key ≡ true → (s.used + (29 + length call.key) ≤ length buffer) × (length call.key ≤ most_key_bytes) × (s.keys < most_keys)
  new_ready e w =
      let p = new_passed e w in
      let i = fits_inside s buffer p.0.fitting in
      let room = p.1.room in
      (omega arith, p.0.short, p.1.few)

  pub continued_ready : add_refusal s buffer call ≡ 0 → call.new_key ≡ false → (s.head + 8 ≤ s.used) × (s.used + 21 ≤ length buffer) × (version_count buffer s.head < most_versions)
  unfolding last_of
  continued_ready e w =
      let p = continued_passed e w in
      let f = fits_known s buffer p.1.keyed p.0.fitting in
      let room = p.1.room in
      (f.headed, omega arith, p.1.countable)

module _ {s : PointBuilder} {buffer : List ℕ} {call : Call} where
  -- ---- a call that passes 1, 2 and 3: the causes of the key decide

  module _ (k : Sized s buffer call) where
    pub sized_none : None (appending_causes s (last_of s buffer) (room_of s buffer) call) → None (add_causes s buffer call)
    unfolding add_causes taking_causes
    sized_none rest =
        none_more (ap not k.fitting) (none_more (le-ltb most_key_bytes (length call.key) k.short) (none_more (le-ltb most_value_bytes call.size k.small) (none_more k.valued rest)))

    pub sized_first : {n : ℕ} → First n (appending_causes s (last_of s buffer) (room_of s buffer) call) → First n (add_causes s buffer call)
    unfolding add_causes taking_causes
    sized_first rest =
        later (ap not k.fitting) (later (le-ltb most_key_bytes (length call.key) k.short) (later (le-ltb most_value_bytes call.size k.small) (later k.valued rest)))

  -- ---- the answer and the buffer, from the refusal

  pub add_stopped : {r : Refusal} → number r ≡ add_refusal s buffer call → AddPost s buffer call (Err r) buffer
  unfolding add_of buffer_after_add
  add_stopped {r} e = record { answer = sym (answered_refusal r _ _ e); buffer = rw (← e, ne_eqb _ 0 (number_nonzero r)) }

  pub add_appended : {r : PointBuilder × ℕ} {after : List ℕ} → add_refusal s buffer call ≡ 0 → AppendPost (next_state s call) (appended s buffer call) r after → AddPost s buffer call (Ok r) after
  unfolding add_of buffer_after_add
  add_appended e p = record { answer = rw e (ap Ok p.answer); buffer = rw e p.left }
