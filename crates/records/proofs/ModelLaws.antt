-- Laws of the model: the rest of versions that fall and of keys that rise, a key's records and lookups among rising keys, what is less, what
-- the greatest record within a limit has, and what a record that was found, or none, says. Assumes nothing.
use mathlib.Core.Path.{◌≡◌, refl, sym, ap, ◌∙◌}
use mathlib.Core.Bool.{Bool, true, false, cond, ◌&&◌}
use mathlib.Core.List.{List, [], ◌∷◌, append-nil, Memᴰ}
use mathlib.Core.Option.{Option, none, some}
use Prim.Native.Nat.{ℕ}
use native.Mathlib.Omega.{arith}
use lib.Dec.{leb}
use Rattle.laws.specs.Each.{Each}
use Rattle.laws.specs.Each.Each.{each_none, each_more}
use Rattle.std.specs.declared.cmp.Ordering.{Ordering}
use Rattle.std.specs.declared.cmp.Ordering.TheVariants.{Less, Equal, Greater}
use Rattle.words.specs.Part.{order_of}
use Rattle.words.proofs.Ordered.{same_self, order_apart, order_trans}
use Rattle.records.specs.declared.Record.{Record}
use Rattle.records.specs.Limits.{Limit}
use Rattle.records.specs.declared.Within.TheVariants.{Found, Nothing, Damaged}
use Rattle.records.specs.Model.{Entry, within, records_of, better, greatest, record_within, lookup, Falls, Rises}
use Rattle.records.specs.Model.Falls.{falls_none, falls_more}
use Rattle.records.specs.Model.Rises.{rises_none, rises_more}
use Rattle.std.specs.Ordering.{is_lt}
use Rattle.records.specs.Within.{found_of}

pub falls_rest : (r : Record) (rs : List Record) → Falls (r ∷ rs) → Falls rs
falls_rest r [] f = falls_none
falls_rest r (s ∷ rs) (falls_more l f) = f

pub rises_rest : (e : Entry) (es : List Entry) → Rises (e ∷ es) → Rises es
rises_rest e [] f = rises_none
rises_rest e (d ∷ es) (rises_more l f) = f

-- a key has no records behind it, where keys rise
records_above : (key : List ℕ) (e : Entry) (es : List Entry) → order_of key e.key ≡ Less → Rises (e ∷ es) → records_of (e ∷ es) key ≡ []
unfolding records_of
records_above key e [] l g = rw (order_apart key e.key l).1
records_above key e (f ∷ es) l (rises_more b g) = rw (order_apart key e.key l).1 (records_above key f es (order_trans key e.key f.key l b) g)

pub records_behind : (e : Entry) (es : List Entry) → Rises (e ∷ es) → records_of es e.key ≡ []
unfolding records_of
records_behind e [] g = refl
records_behind e (f ∷ es) (rises_more b g) = records_above e.key f es b g

-- where keys rise, each is below those behind it
pub rises_below : (e : Entry) (es : List Entry) (f : Entry) → Rises (e ∷ es) → Memᴰ f es → order_of e.key f.key ≡ Less
rises_below e [] f g m = elim m [ ]
rises_below e (x ∷ es) f (rises_more b g) (Memᴰ.head q) = ap (λ (y : Entry). order_of e.key y.key) q ∙ b
rises_below e (x ∷ es) f (rises_more b g) (Memᴰ.tail m) = order_trans e.key x.key f.key b (rises_below x es f g m)

-- and the records of an entry's key are its versions
pub own_records : (t : List Entry) (e : Entry) → Rises t → Memᴰ e t → records_of t e.key ≡ e.versions
unfolding records_of
own_records [] e g m = elim m [ ]
own_records (x ∷ xs) e g (Memᴰ.head q) = rw (q, same_self x.key, records_behind x xs g) (append-nil x.versions)
own_records (x ∷ xs) e g (Memᴰ.tail m) = rw (order_apart x.key e.key (rises_below x xs e g m)).0 (own_records xs e (rises_rest x xs g) m)

-- so its record within a limit is its key's lookup
pub own_lookup : (t : List Entry) (e : Entry) (limit : Limit) → Rises t → Memᴰ e t → record_within limit e ≡ lookup t e.key limit
unfolding lookup
own_lookup t e limit g m = ap (greatest limit) (sym (own_records t e g m))

pub less_is : (o : Ordering) → is_lt o ≡ true → o ≡ Less
less_is Less e = refl
less_is Equal e = cc
less_is Greater e = cc

-- what was found
pub found_some : (o : Option Record) (r : Record) → found_of o ≡ Found r → o ≡ some r
found_some none r e = absurd (let z : ◌≡◌ {A = ℕ} 0 1 = cc in omega arith)
found_some (some s) r e = cc

pub found_none : (o : Option Record) → found_of o ≡ Nothing → o ≡ none
found_none none e = refl
found_none (some s) e = absurd (let z : ◌≡◌ {A = ℕ} 0 1 = cc in omega arith)

pub found_whole : (o : Option Record) → found_of o ≡ Damaged → ⊥
found_whole none e = let z : ◌≡◌ {A = ℕ} 0 1 = cc in omega arith
found_whole (some r) e = let z : ◌≡◌ {A = ℕ} 0 1 = cc in omega arith

-- what every record has, the greatest within a limit has
pub greatest_has : {P : Record → Type 0} (limit : Limit) (rs : List Record) (r : Record) → Each P rs → greatest limit rs ≡ some r → P r
unfolding greatest better
greatest_has limit [] r each_none e = absurd (let z : ◌≡◌ {A = ℕ} 0 1 = cc in omega arith)
greatest_has {P} limit (x ∷ xs) r (each_more p ps) e = go (greatest limit xs) (λ s q. greatest_has limit xs s ps q) e
  where
    go : (o : Option Record) → ((s : Record) → o ≡ some s → P s) → better limit x o ≡ some r → P r
    go none h q = pick (within limit x.sequence) q
      where
        pick : (b : Bool) → cond b (some x) none ≡ some r → P r
        pick true f = let d : x ≡ r = cc in rw d at p
        pick false f = absurd (let z : ◌≡◌ {A = ℕ} 0 1 = cc in omega arith)
    go (some s) h q = pick (within limit x.sequence && leb s.sequence x.sequence) q
      where
        pick : (b : Bool) → cond b (some x) (some s) ≡ some r → P r
        pick true f = let d : x ≡ r = cc in rw d at p
        pick false f = h r f
