-- What is promised of the listing: which keys are shown and with which record, that keys rise, that the
-- call's answer and buffer are fixed, its number and value, and the room that always suffices. Assumes nothing.
use Rattle.std.specs.Prelude.{None, Some, Result, Ok, Err}
use Prim.Native.Nat.{ℕ, ◌<◌, ◌≤◌}
use native.Mathlib.Omega.{arith}
use mathlib.Core.Path.{◌≡◌, refl, sym, ap, ◌∙◌, subst}
use mathlib.Core.Bool.{Bool, true, false, cond}
use mathlib.Core.List.{List, [], ◌∷◌, ◌++◌, Memᴰ}
use mathlib.Core.Option.{Option, none, some}
use lib.ListN.{length}
use borrow.Author.Tests.{leb-false, le-leb, lt-leb}
use lib.Dec.{leb}
use Rattle.numbers.specs.declared.Refusal.{Refusal}
use Rattle.numbers.specs.declared.Refusal.TheVariants.{Buffer}
use Rattle.numbers.specs.Numbers.{number_of}
use Rattle.words.specs.Field.{splice}
use Rattle.std.specs.declared.cmp.Ordering.TheVariants.{Less}
use Rattle.words.specs.Part.{order_of, same_as}
use Rattle.words.proofs.Ordered.{same_equal, order_trans}
use Rattle.records.specs.Limits.{Limit}
use Rattle.records.specs.declared.Record.{Record}
use Rattle.records.specs.Model.{Entry, records_of, greatest, lookup, Rises}
use Rattle.records.specs.Model.Rises.{rises_more}
use Rattle.records.proofs.ModelLaws.{own_lookup}
use Rattle.lines.specs.Shown.{Rule, tombstone_in, newest_tombstone, shown, Shows, shows_for, shown_of, ShownRise}
use Rattle.lines.specs.Shown.ShownRise.{shown_none, shown_one, shown_more}
use Rattle.lines.specs.Listing.{text_of, listed_of, buffer_of, listed_values, Listing}

-- ---- which keys are shown, by a rule that leaves a key out by its lookups in the table

-- the rule of document 01 leaves a key out whose newest record is a tombstone
pub newest_out : (t : List Entry) → Rises t → (limit : ℕ) (e : Entry) → Memᴰ e t → newest_tombstone limit e ≡ tombstone_in (lookup t e.key None)
unfolding newest_tombstone
newest_out t rises limit e among = ap tombstone_in (own_lookup t e None rises among)

module _ (rule : Rule) (limit : ℕ) (t : List Entry) (rises : Rises t) (out : List ℕ → Bool) (ruled : (e : Entry) → Memᴰ e t → rule limit e ≡ out e.key) where
  module _ (e : Entry) (among : Memᴰ e t) where
    shown_is : shown rule limit e ≡ cond (out e.key) none (lookup t e.key (Some limit))
    unfolding shown
    shown_is = rw (ruled e among, own_lookup t e (Some limit) rises among)

    -- THEOREM: a key that is shown is not left out, and shows its lookup under the limit
    pub shown_only : (r : Record) → shown rule limit e ≡ some r → (out e.key ≡ false) × (lookup t e.key (Some limit) ≡ some r)
    shown_only r q = go (out e.key) refl (sym shown_is ∙ q)
      where
        go : (b : Bool) → out e.key ≡ b → cond b none (lookup t e.key (Some limit)) ≡ some r → (out e.key ≡ false) × (lookup t e.key (Some limit) ≡ some r)
        go true p f = absurd (let z : ◌≡◌ {A = ℕ} 0 1 = cc in omega arith)
        go false p f = (p, f)

    -- THEOREM: and every such key is shown
    pub shown_all : (r : Record) → out e.key ≡ false → lookup t e.key (Some limit) ≡ some r → shown rule limit e ≡ some r
    shown_all r p q = shown_is ∙ rw p q

-- ---- by the table's lookups

-- an entry of a table that shows s
record ShownBy (rule : Rule) (limit : ℕ) (t : List Entry) (s : Shows) : Type 0 where
  entry : Entry
  among : Memᴰ entry t
  key : entry.key ≡ s.key
  shows : shown rule limit entry ≡ some s.version

shown_by_lem : (rule : Rule) (limit : ℕ) (t : List Entry) (s : Shows) → Memᴰ s (shown_of rule limit t) → ShownBy rule limit t s
unfolding shown_of
shown_by_lem rule limit [] s m = elim m [ ]
shown_by_lem rule limit (e ∷ es) s m = go (shown rule limit e) refl m (shown_by_lem rule limit es s)
  where
    behind : ShownBy rule limit es s → ShownBy rule limit (e ∷ es) s
    behind b = record { entry = b.entry; among = Memᴰ.tail b.among; key = b.key; shows = b.shows }

    go : (o : Option Record) → shown rule limit e ≡ o → Memᴰ s (shows_for e.key o (shown_of rule limit es))
        → (Memᴰ s (shown_of rule limit es) → ShownBy rule limit es s) → ShownBy rule limit (e ∷ es) s
    go none q n rest = behind (rest n)
    go (some r) q (Memᴰ.head p) rest =
        record {
          entry = e;
          among = Memᴰ.head refl;
          key = sym (ap (λ (x : Shows). x.key) p);
          shows = q ∙ sym (ap (λ (x : Shows). some x.version) p);
        }
    go (some r) q (Memᴰ.tail n) rest = behind (rest n)

by_shown : (rule : Rule) (limit : ℕ) (t : List Entry) (e : Entry) (r : Record) → Memᴰ e t → shown rule limit e ≡ some r
    → Memᴰ (record { key = e.key; version = r }) (shown_of rule limit t)
unfolding shown_of
by_shown rule limit [] e r m h = elim m [ ]
by_shown rule limit (x ∷ xs) e r (Memᴰ.head q) h =
    subst (λ (o : Option Record). Memᴰ (record { key = e.key; version = r }) (shows_for x.key o (shown_of rule limit xs)))
    (sym h ∙ ap (shown rule limit) q)
    (Memᴰ.head (ap (λ (y : Entry). record { key = y.key; version = r }) q))
by_shown rule limit (x ∷ xs) e r (Memᴰ.tail m) h = go (shown rule limit x) (by_shown rule limit xs e r m h)
  where
    go : (o : Option Record) → Memᴰ (record { key = e.key; version = r }) (shown_of rule limit xs)
        → Memᴰ (record { key = e.key; version = r }) (shows_for x.key o (shown_of rule limit xs))
    go none n = n
    go (some v) n = Memᴰ.tail n

-- a key that has a record has an entry
record EntryOf (t : List Entry) (key : List ℕ) : Type 0 where
  entry : Entry
  among : Memᴰ entry t
  same : entry.key ≡ key

entry_of : (t : List Entry) (key : List ℕ) (limit : Limit) (r : Record) → lookup t key limit ≡ some r → EntryOf t key
unfolding lookup records_of greatest
entry_of [] key limit r e = absurd (let z : ◌≡◌ {A = ℕ} 0 1 = cc in omega arith)
entry_of (x ∷ xs) key limit r e = go (same_as x.key key) refl e (entry_of xs key limit r)
  where
    go : (b : Bool) → same_as x.key key ≡ b → greatest limit (cond b (x.versions ++ records_of xs key) (records_of xs key)) ≡ some r
        → (greatest limit (records_of xs key) ≡ some r → EntryOf xs key) → EntryOf (x ∷ xs) key
    go true q f rest = record { entry = x; among = Memᴰ.head refl; same = same_equal x.key key q }
    go false q f rest = let b = rest f in record { entry = b.entry; among = Memᴰ.tail b.among; same = b.same }

module _ (rule : Rule) (limit : ℕ) (t : List Entry) (rises : Rises t) (out : List ℕ → Bool) (ruled : (e : Entry) → Memᴰ e t → rule limit e ≡ out e.key) where
  -- THEOREM: a line stands only for a key that is not left out, and shows its lookup under the limit
  pub line_only : (s : Shows) → Memᴰ s (shown_of rule limit t) → (out s.key ≡ false) × (lookup t s.key (Some limit) ≡ some s.version)
  line_only s m =
      let b = shown_by_lem rule limit t s m in
      subst (λ (k : List ℕ). (out k ≡ false) × (lookup t k (Some limit) ≡ some s.version)) b.key
      (shown_only rule limit t rises out ruled b.entry b.among s.version b.shows)

  -- THEOREM: and for every such key
  pub line_all : (key : List ℕ) (r : Record) → out key ≡ false → lookup t key (Some limit) ≡ some r → Memᴰ (record { key = key; version = r }) (shown_of rule limit t)
  line_all key r p q =
      let o = entry_of t key (Some limit) r q in
      subst (λ (k : List ℕ). Memᴰ (record { key = k; version = r }) (shown_of rule limit t)) o.same
      (by_shown rule limit t o.entry r o.among
      (shown_all rule limit t rises out ruled o.entry o.among r (rw o.same p) (rw o.same q)))

-- ---- the order

-- a key less than every key of a table stands before what the table shows
shown_before : (rule : Rule) (limit : ℕ) (s : Shows) (e : Entry) (es : List Entry) → order_of s.key e.key ≡ Less → Rises (e ∷ es) → ShownRise (shown_of rule limit (e ∷ es)) → ShownRise (s ∷ shown_of rule limit (e ∷ es))
unfolding shown_of
shown_before rule limit s e [] l g h = go (shown rule limit e) h
  where
    go : (o : Option Record) → ShownRise (shows_for e.key o []) → ShownRise (s ∷ shows_for e.key o [])
    go none k = shown_one
    go (some r) k = shown_more l k
shown_before rule limit s e (f ∷ es) l (rises_more b g) h = go (shown rule limit e) h (shown_before rule limit s f es (order_trans s.key e.key f.key l b) g)
  where
    go : (o : Option Record) → ShownRise (shows_for e.key o (shown_of rule limit (f ∷ es))) → (ShownRise (shown_of rule limit (f ∷ es)) → ShownRise (s ∷ shown_of rule limit (f ∷ es)))
        → ShownRise (s ∷ shows_for e.key o (shown_of rule limit (f ∷ es)))
    go none k rest = rest k
    go (some r) k rest = shown_more l k

-- THEOREM: keys rise
pub keys_rise : (rule : Rule) (limit : ℕ) (t : List Entry) → Rises t → ShownRise (shown_of rule limit t)
unfolding shown_of
keys_rise rule limit [] g = shown_none
keys_rise rule limit (e ∷ []) g = go (shown rule limit e)
  where
    go : (o : Option Record) → ShownRise (shows_for e.key o [])
    go none = shown_none
    go (some r) = shown_one
keys_rise rule limit (e ∷ f ∷ es) (rises_more b g) = go (shown rule limit e) (keys_rise rule limit (f ∷ es) g)
  where
    go : (o : Option Record) → ShownRise (shown_of rule limit (f ∷ es)) → ShownRise (shows_for e.key o (shown_of rule limit (f ∷ es)))
    go none h = h
    go (some r) h = shown_before rule limit (record { key = e.key; version = r }) f es b g h

-- ---- the call

module _ {rule : Rule} {input before : List ℕ} {r : Result ℕ Refusal} {after : List ℕ} (P : Listing rule input before r after) where
  -- THEOREM: a number above 0 is 6, for a buffer too short, which is left
  pub listing_cause : (n : ℕ) → 0 < n → number_of r ≡ n → (n ≡ 6) × (length before < length (text_of rule input)) × (after ≡ before)
  unfolding listed_of buffer_of
  listing_cause n h e = go (leb (length (text_of rule input)) (length before)) refl (ap number_of (sym P.answer) ∙ e)
    where
      go : (b : Bool) → leb (length (text_of rule input)) (length before) ≡ b → number_of (cond b (Ok (length (text_of rule input))) (Err Buffer)) ≡ n
          → (n ≡ 6) × (length before < length (text_of rule input)) × (after ≡ before)
      go true q f = absurd (omega arith)
      go false q f = (sym f, leb-false _ _ q, P.buffer ∙ rw q)

  pub cause_listing : length before < length (text_of rule input) → number_of r ≡ 6
  unfolding listed_of
  cause_listing l = ap number_of P.answer ∙ rw (lt-leb (length (text_of rule input)) (length before) l)

  -- THEOREM: with room the number is 0 and the value the text's length, and the text stands in front
  pub room_values : length (text_of rule input) ≤ length before
      → (number_of r ≡ 0) × (listed_values r ≡ length (text_of rule input) ∷ []) × (after ≡ splice before 0 (text_of rule input))
  unfolding listed_of buffer_of
  room_values l =
      let t = le-leb (length (text_of rule input)) (length before) l in
      let a : r ≡ Ok (length (text_of rule input)) = P.answer ∙ rw t in
      (ap number_of a, ap listed_values a, P.buffer ∙ rw t)

  -- THEOREM: 131,072 bytes of room suffice for every input
  pub room_suffices : 131072 ≤ length before → r ≡ Ok (length (text_of rule input))
  unfolding listed_of
  room_suffices h = P.answer ∙ rw (le-leb (length (text_of rule input)) (length before) (omega (arith, P.room)))
