-- What add and set offset commit to: each number exactly when its cause is the first that holds, a call that breaks no rule and has room is
-- taken, bytes past the used ones stay, and two results that meet the contract coincide. Assumes nothing.
use Rattle.std.specs.Prelude.{Ok, Err}
use Prim.Native.Nat.{ℕ, ◌+◌, ◌-◌, ◌≤◌, ◌<◌}
use mathlib.Core.Path.{◌≡◌, refl, sym, ap, ◌∙◌}
use mathlib.Core.Bool.{Bool, true, false, not}
use mathlib.Core.List.{List, [], ◌∷◌}
use native.Mathlib.Omega.{arith}
use borrow.Author.Tests.{le-ltb, lt-leb, le-leb, ne_eqb}
use lib.ListN.{length, drop}
use lib.Seq.{drop-drop}
use Rattle.laws.specs.Refusals.{First, here, later, None, none_here, none_more}
use Rattle.laws.proofs.RefusalLaws.{first_given, first_only, first_positive, none_given, none_only}
use Rattle.numbers.specs.Limits.{most_keys, most_versions}
use Rattle.numbers.specs.Numbers.{number, number_of, refusal_of}
use Rattle.numbers.specs.declared.Refusal.{Refusal}
use Rattle.numbers.specs.declared.Refusal.TheVariants.{Order}
use Rattle.numbers.proofs.NumberLaws.{number_positive}
use Rattle.words.specs.Field.{bytes_of, splice}
use Rattle.words.specs.Part.{same_as}
use Rattle.words.proofs.Laws.{length_bytes_of, length_splice, drop_splice}
use Rattle.words.proofs.Ordered.{same_self}
use Rattle.records.specs.Model.{version_bytes, entry_bytes}
use Rattle.records.specs.Places.{version_count}
use Rattle.records.proofs.WriteLaws.{version_size, entry_size}
use Rattle.builder.specs.declared.PointBuilder.{PointBuilder}
use Rattle.builder.specs.State.{last_of, room_of}
use Rattle.builder.specs.Add.{Call, new_causes, continued_causes, add_causes, add_refusal, Sized, NewPasses, ContinuedPasses, next_state, next_place, record_of, new_entry, new_buffer, continued_buffer, appended, add_of, buffer_after_add, state_values, added_values}
use Rattle.builder.specs.SetOffset.{set_causes, set_of, buffer_after_set}
use Rattle.builder.proofs.StateLaws.{fits_known}
use Rattle.builder.proofs.AddLaws.{add_numbered, sized_none, sized_first, new_ready, continued_ready}
use Rattle.builder.proofs.AnswerLaws.{taken_known, taken_given, buffer_taken, refused_known, refused_given, buffer_kept, add_number, set_numbered, set_unrefused, set_known, set_given, buffer_set, unset_known, unset_given, buffer_unset, set_number_lem}

-- what is the same from a place on is the same from a later one on
pub drop_later : (m n : ℕ) (xs ys : List ℕ) → m ≤ n → drop m xs ≡ drop m ys → drop n xs ≡ drop n ys
drop_later m n xs ys h e =
    let k : n ≡ m + (n - m) = omega arith in
    ap (λ (i : ℕ). drop i xs) k ∙ sym (drop-drop (n - m) m xs) ∙ ap (drop (n - m)) e ∙ drop-drop (n - m) m ys ∙ ap (λ (i : ℕ). drop i ys) (sym k)

-- what lies past a part that was put stays
drop_past : (xs : List ℕ) (at : ℕ) (ys : List ℕ) (n : ℕ) → at + length ys ≤ length xs → at + length ys ≤ n → drop n (splice xs at ys) ≡ drop n xs
drop_past xs at ys n h p = drop_later (at + length ys) n (splice xs at ys) xs p (drop_splice xs at ys h)

-- ---- add

module _ (s : PointBuilder) (buffer : List ℕ) (call : Call) where
  -- THEOREM: a number is given where its cause is the first that holds, and nothing changes
  pub add_refuses : {n : ℕ} → First n (add_causes s buffer call) → (add_of s buffer call ≡ Err (refusal_of n)) × (buffer_after_add s buffer call ≡ buffer)
  unfolding add_refusal
  add_refuses f =
      let e = first_given f in
      let p = first_positive (add_numbered s buffer call) f in
      (refused_given _ _ _ e p, buffer_kept s buffer call (λ z. omega (arith, e, p)))

  -- and only there
  pub add_refuses_only : {r : Refusal} → add_of s buffer call ≡ Err r → First (number r) (add_causes s buffer call)
  unfolding add_refusal
  add_refuses_only {r} e = first_only (number r) _ (number_positive r) (refused_known s buffer call e)

  -- THEOREM: a record is taken where no cause holds, with the next state, the patch place and the next buffer
  pub add_takes : None (add_causes s buffer call)
      → (add_of s buffer call ≡ Ok (next_state s call, next_place s call)) × (buffer_after_add s buffer call ≡ appended s buffer call)
  unfolding add_refusal
  add_takes f = (taken_given _ _ _ (none_given f), buffer_taken _ _ _ (none_given f))

  -- and only there
  pub add_takes_only : {next : PointBuilder} {place : ℕ} → add_of s buffer call ≡ Ok (next, place)
      → None (add_causes s buffer call) × (next ≡ next_state s call) × (place ≡ next_place s call)
  unfolding add_refusal
  add_takes_only e = let p = taken_known _ _ _ e in (none_only (add_numbered s buffer call) p.0, p.1, p.2)

  -- THEOREM: the answer's number, above 0, is that of the first cause that holds, both ways
  pub add_cause : (n : ℕ) → 0 < n → number_of (add_of s buffer call) ≡ n → First n (add_causes s buffer call)
  unfolding add_refusal
  add_cause n l e = first_only n _ l (sym (add_number _ _ _) ∙ e)

  pub cause_add : (n : ℕ) → First n (add_causes s buffer call) → number_of (add_of s buffer call) ≡ n
  unfolding add_refusal
  cause_add n f = add_number _ _ _ ∙ first_given f

  -- THEOREM: the number of a record taken is 0, and its values are the next state's words and the patch place
  pub add_values : None (add_causes s buffer call)
      → (number_of (add_of s buffer call) ≡ 0)
      × (state_values (add_of s buffer call) ≡ (next_state s call).used ∷ (next_state s call).keys ∷ (next_state s call).head ∷ [])
      × (added_values (add_of s buffer call) ≡ next_place s call ∷ [])
  add_values f = let e = (add_takes f).0 in (ap number_of e, ap state_values e, ap added_values e)

  -- THEOREM: a refusal has no values
  pub add_refused_values : {n : ℕ} → First n (add_causes s buffer call) → (state_values (add_of s buffer call) ≡ []) × (added_values (add_of s buffer call) ≡ [])
  add_refused_values f = let e = (add_refuses f).0 in (ap state_values e, ap added_values e)

  -- THEOREM: a new key that breaks no rule and has room is taken
  pub new_taken : Sized s buffer call → NewPasses s buffer call → add_of s buffer call ≡ Ok (next_state s call, next_place s call)
  unfolding new_causes
  new_taken k o =
      (add_takes (sized_none k (rw o.newly
      (none_more (ap not o.rising) (none_more (lt-leb most_keys s.keys o.few) (none_more (le-ltb (room_of s buffer) (29 + length call.key) o.room) none_here)))))).0

  -- THEOREM: a continued key that breaks no rule and has room is taken
  pub continued_taken : Sized s buffer call → ContinuedPasses s buffer call → add_of s buffer call ≡ Ok (next_state s call, next_place s call)
  unfolding continued_causes
  continued_taken k o =
      (add_takes (sized_none k (rw o.further
      (none_more (ne_eqb s.keys 0 o.keyed) (none_more (ap not o.same) (none_more (lt-leb (last_of s buffer).sequence call.sequence o.older)
      (none_more (lt-leb most_versions (last_of s buffer).versions o.countable) (none_more (le-ltb (room_of s buffer) 21 o.room) none_here)))))))).0

  -- THEOREM: a version whose sequence is not below the last one's of its key is refused with 4, and nothing changes
  pub oldest_first_refused : Sized s buffer call → call.new_key ≡ false → (s.keys ≡ 0 → ⊥) → (last_of s buffer).key ≡ call.key → (last_of s buffer).sequence ≤ call.sequence
      → (add_of s buffer call ≡ Err Order) × (buffer_after_add s buffer call ≡ buffer)
  unfolding continued_causes
  oldest_first_refused k w ne same not-below =
      add_refuses {n = 4} (sized_first k (rw w
      (later (ne_eqb s.keys 0 ne) (later (ap not (ap (λ (k : List ℕ). same_as k call.key) same ∙ same_self call.key)) (here (le-leb (last_of s buffer).sequence call.sequence not-below) refl)))))

  untouched : (new_key : Bool) → call.new_key ≡ new_key → add_refusal s buffer call ≡ 0
      → (drop (next_state s call).used (appended s buffer call) ≡ drop (next_state s call).used buffer) × (length (appended s buffer call) ≡ length buffer)
  unfolding new_buffer continued_buffer
  untouched true w z =
      let part = entry_bytes (new_entry call.key (record_of call)) in
      let l : length part ≡ 29 + length call.key = entry_size (new_entry call.key (record_of call)) ∙ omega arith in
      let fit : s.used + length part ≤ length buffer = rw l (new_ready _ _ _ z w).0 in
      rw w (drop_past buffer s.used part (s.used + (29 + length call.key)) fit (omega arith), length_splice buffer s.used part fit)
  untouched false w z =
      let r = continued_ready _ _ _ z w in
      let count = bytes_of 4 (version_count buffer s.head + 1) in
      let version = version_bytes (record_of call) in
      let c : length count ≡ 4 = length_bytes_of 4 (version_count buffer s.head + 1) in
      let v : length version ≡ 21 = version_size (record_of call) in
      let h = r.0 in
      let room = r.1 in
      let fit : s.head + 4 + length count ≤ length buffer = rw c (omega arith) in
      let n : length (splice buffer (s.head + 4) count) ≡ length buffer = length_splice buffer (s.head + 4) count fit in
      let fits-too : s.used + length version ≤ length (splice buffer (s.head + 4) count) = rw (v, n) room in
      rw w (
        drop_past (splice buffer (s.head + 4) count) s.used version (s.used + 21) fits-too (omega arith) ∙ drop_past buffer (s.head + 4) count (s.used + 21) fit (omega arith),
        length_splice (splice buffer (s.head + 4) count) s.used version fits-too ∙ n,
      )

  -- THEOREM: bytes past the answered state's used ones are untouched, and the buffer keeps its length
  pub add_untouched : {next : PointBuilder} {place : ℕ} → add_of s buffer call ≡ Ok (next, place)
      → (drop next.used (buffer_after_add s buffer call) ≡ drop next.used buffer) × (length (buffer_after_add s buffer call) ≡ length buffer)
  add_untouched e = let p = taken_known _ _ _ e in rw (p.1, buffer_taken _ _ _ p.0) (untouched call.new_key refl p.0)

-- ---- set offset

module _ (s : PointBuilder) (buffer : List ℕ) (place offset : ℕ) where
  -- THEOREM: a number is given where its cause is the first that holds, and nothing changes
  pub set_refuses : {n : ℕ} → First n (set_causes s buffer place) → (set_of s buffer place ≡ Err (refusal_of n)) × (buffer_after_set s buffer place offset ≡ buffer)
  set_refuses f =
      let e = first_given f in
      let p = first_positive (set_numbered s buffer place) f in
      (unset_given s buffer place e p, buffer_unset s buffer place offset (λ z. omega (arith, e, p)))

  -- and only there
  pub set_refuses_only : {r : Refusal} → set_of s buffer place ≡ Err r → First (number r) (set_causes s buffer place)
  set_refuses_only {r} e = first_only (number r) _ (number_positive r) (unset_known s buffer place e)

  -- THEOREM: the answer's number, above 0, is that of the first cause that holds, both ways
  pub set_cause : (n : ℕ) → 0 < n → number_of (set_of s buffer place) ≡ n → First n (set_causes s buffer place)
  set_cause n l e = first_only n _ l (sym (set_number_lem s buffer place) ∙ e)

  pub cause_set : (n : ℕ) → First n (set_causes s buffer place) → number_of (set_of s buffer place) ≡ n
  cause_set n f = set_number_lem s buffer place ∙ first_given f

  -- THEOREM: the offset is set where no cause holds, at its place
  pub set_takes : None (set_causes s buffer place) → (set_of s buffer place ≡ Ok (record {})) × (buffer_after_set s buffer place offset ≡ splice buffer place (bytes_of 8 offset))
  set_takes f = (set_given s buffer place (none_given f), buffer_set s buffer place offset (none_given f))

  -- and only there
  pub set_takes_only : set_of s buffer place ≡ Ok (record {}) → None (set_causes s buffer place)
  set_takes_only e = none_only (set_numbered s buffer place) (set_known s buffer place e)

  -- THEOREM: bytes past the used ones are untouched, and the buffer keeps its length
  pub set_untouched : set_of s buffer place ≡ Ok (record {}) → (drop s.used (buffer_after_set s buffer place offset) ≡ drop s.used buffer) × (length (buffer_after_set s buffer place offset) ≡ length buffer)
  set_untouched e =
      let z = set_known s buffer place e in
      let p = set_unrefused s buffer place z in
      let f = fits_known s buffer p.1 p.0 in
      let q = p.2 in
      let l : length (bytes_of 8 offset) ≡ 8 = length_bytes_of 8 offset in
      let fit : place + length (bytes_of 8 offset) ≤ length buffer = rw l (omega arith) in
      rw (buffer_set s buffer place offset z) (drop_past buffer place (bytes_of 8 offset) s.used fit (omega arith), length_splice buffer place (bytes_of 8 offset) fit)
