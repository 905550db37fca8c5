-- What `lookup` means: it finds the record of the key that is within the limit and that none within the limit passes, or nothing exactly
-- where none is. Assumes nothing.
use Prim.Native.Nat.{ℕ, ◌<◌, ◌≤◌}
use native.Mathlib.Nat.{le_refl}
use native.Mathlib.Omega.{arith}
use mathlib.Core.Path.{◌≡◌, refl, sym, ap, ◌∙◌}
use mathlib.Core.List.{List, [], ◌∷◌, ◌++◌, append-nil, Memᴰ}
use mathlib.Core.Bool.{Bool, true, false, cond, ◌&&◌}
use mathlib.Core.Option.{Option, none, some}
use lib.Dec.{leb}
use borrow.Author.Tests.{leb-true, leb-false}
use Rattle.laws.specs.Each.{Each}
use Rattle.laws.specs.Each.Each.{each_more}
use Rattle.words.specs.Part.{same_as}
use Rattle.words.proofs.Ordered.{same_equal}
use Rattle.records.specs.Limits.{DataLength}
use Rattle.records.specs.declared.Record.{Record}
use Rattle.records.specs.Limits.{Limit}
use Rattle.records.specs.Model.{Entry, within, records_of, better, greatest, lookup, Falls, Rises}
use Rattle.records.specs.Model.Falls.{falls_none, falls_more}
use Rattle.records.specs.Tables.{EntryRules, TableRules}
use Rattle.records.proofs.ModelLaws.{falls_rest, rises_rest, records_behind}
use Rattle.point.specs.Lookup.{Newest, NoneWithin}

-- ---- the greatest of a list

-- what the greatest says of a list
Means : Limit → List Record → Option Record → Type 0
Means limit rs none = NoneWithin limit rs
Means limit rs (some r) = Newest limit rs r

module _ (limit : Limit) (x : Record) (xs : List Record) where
  none_more : within limit x.sequence ≡ false → NoneWithin limit xs → NoneWithin limit (x ∷ xs)
  none_more w h = record { outside = go }
    where
      go : (s : Record) → Memᴰ s (x ∷ xs) → within limit s.sequence ≡ false
      go s (Memᴰ.head e) = ap (λ (r : Record). within limit r.sequence) e ∙ w
      go s (Memᴰ.tail m) = h.outside s m

  -- the first is within the limit, and no other within it is greater
  first_newest : within limit x.sequence ≡ true → ((s : Record) → Memᴰ s xs → within limit s.sequence ≡ true → s.sequence ≤ x.sequence) → Newest limit (x ∷ xs) x
  first_newest w h = record { among = Memᴰ.head refl; allowed = w; most = go }
    where
      go : (s : Record) → Memᴰ s (x ∷ xs) → within limit s.sequence ≡ true → s.sequence ≤ x.sequence
      go s (Memᴰ.head e) q = rw e (le_refl x.sequence)
      go s (Memᴰ.tail m) q = h s m q

  -- the first is not within it, or is smaller
  rest_newest : (t : Record) → Newest limit xs t → (within limit x.sequence ≡ true → x.sequence ≤ t.sequence) → Newest limit (x ∷ xs) t
  rest_newest t n h = record { among = Memᴰ.tail n.among; allowed = n.allowed; most = go }
    where
      go : (s : Record) → Memᴰ s (x ∷ xs) → within limit s.sequence ≡ true → s.sequence ≤ t.sequence
      go s (Memᴰ.head e) q = rw e (h (ap (λ (r : Record). within limit r.sequence) (sym e) ∙ q))
      go s (Memᴰ.tail m) q = n.most s m q

  means_more : (o : Option Record) → Means limit xs o → Means limit (x ∷ xs) (better limit x o)
  unfolding Means better
  means_more none h = go (within limit x.sequence) refl
    where
      go : (b : Bool) → within limit x.sequence ≡ b → Means limit (x ∷ xs) (cond b (some x) none)
      go true w = first_newest w (λ s m q. absurd (let z : ◌≡◌ {A = ℕ} 0 1 = cc (h.outside s m) in omega arith))
      go false w = none_more w h
  means_more (some t) h = go (within limit x.sequence) (leb t.sequence x.sequence) refl refl
    where
      go : (b c : Bool) → within limit x.sequence ≡ b → leb t.sequence x.sequence ≡ c → Means limit (x ∷ xs) (cond (b && c) (some x) (some t))
      go true true w l = first_newest w (λ s m q. let u = h.most s m q in let v = leb-true t.sequence x.sequence l in omega arith)
      go true false w l = rest_newest t h (λ q. let v = leb-false t.sequence x.sequence l in omega arith)
      go false c w l = rest_newest t h (λ q. absurd (let z : ◌≡◌ {A = ℕ} 0 1 = cc in omega arith))

greatest_means : (limit : Limit) (rs : List Record) → Means limit rs (greatest limit rs)
unfolding Means greatest
greatest_means limit [] = record { outside = go }
  where
    go : (s : Record) → Memᴰ s [] → within limit s.sequence ≡ false
    go s m = elim m [ ]
greatest_means limit (x ∷ xs) = means_more limit x xs (greatest limit xs) (greatest_means limit xs)

-- ---- and back: where sequences fall, no two records have one

falls_below : (x : Record) (xs : List Record) (s : Record) → Falls (x ∷ xs) → Memᴰ s xs → s.sequence < x.sequence
falls_below x [] s f m = elim m [ ]
falls_below x (y ∷ ys) s (falls_more l f) (Memᴰ.head e) = rw e l
falls_below x (y ∷ ys) s (falls_more l f) (Memᴰ.tail m) = let u = falls_below y ys s f m in omega arith

falls_same : (rs : List Record) (r s : Record) → Falls rs → Memᴰ r rs → Memᴰ s rs → r.sequence ≡ s.sequence → r ≡ s
falls_same [] r s f m n q = elim m [ ]
falls_same (x ∷ xs) r s f (Memᴰ.head e) (Memᴰ.head d) q = e ∙ sym d
falls_same (x ∷ xs) r s f (Memᴰ.head e) (Memᴰ.tail m) q = absurd (let u = falls_below x xs s f m in let v = ap (λ (t : Record). t.sequence) e in omega arith)
falls_same (x ∷ xs) r s f (Memᴰ.tail m) (Memᴰ.head d) q = absurd (let u = falls_below x xs r f m in let v = ap (λ (t : Record). t.sequence) d in omega arith)
falls_same (x ∷ xs) r s f (Memᴰ.tail m) (Memᴰ.tail n) q = falls_same xs r s (falls_rest x xs f) m n q

greatest_is : (limit : Limit) (rs : List Record) (r : Record) → Falls rs → Newest limit rs r → greatest limit rs ≡ some r
unfolding Means
greatest_is limit rs r f n = go (greatest limit rs) (greatest_means limit rs)
  where
    go : (o : Option Record) → Means limit rs o → o ≡ some r
    go none h = absurd (let z : ◌≡◌ {A = ℕ} 0 1 = cc (h.outside r n.among, n.allowed) in omega arith)
    go (some t) h =
        let u = h.most r n.among n.allowed in
        let v = n.most t h.among h.allowed in
        ap some (falls_same rs t r f h.among n.among (omega arith))

greatest_none : (limit : Limit) (rs : List Record) → NoneWithin limit rs → greatest limit rs ≡ none
unfolding Means
greatest_none limit rs n = go (greatest limit rs) (greatest_means limit rs)
  where
    go : (o : Option Record) → Means limit rs o → o ≡ none
    go none h = refl
    go (some t) h = absurd (let z : ◌≡◌ {A = ℕ} 0 1 = cc (h.allowed, n.outside t h.among) in omega arith)

-- ---- the records of a key fall in a table that keeps the rules

pub records_fall : (test : DataLength) (key : List ℕ) (t : List Entry) → Each (EntryRules test) t → Rises t → Falls (records_of t key)
unfolding records_of
records_fall test key [] u g = falls_none
records_fall test key (e ∷ es) (each_more k u) g = go (same_as e.key key) refl (records_fall test key es u (rises_rest e es g))
  where
    go : (b : Bool) → same_as e.key key ≡ b → Falls (records_of es key) → Falls (cond b (e.versions ++ records_of es key) (records_of es key))
    go true q f =
        let none : records_of es key ≡ [] = ap (records_of es) (sym (same_equal e.key key q)) ∙ records_behind e es g in
        rw (none, append-nil) k.falls
    go false q f = f

-- ---- the lookup

module _ (t : List Entry) (key : List ℕ) (limit : Limit) where
  means_of : (o : Option Record) → lookup t key limit ≡ o → Means limit (records_of t key) o
  unfolding lookup
  means_of o e = rw e at (greatest_means limit (records_of t key))

  -- THEOREM: a record that is found is the key's newest within the limit
  pub lookup_some : (r : Record) → lookup t key limit ≡ some r → Newest limit (records_of t key) r
  unfolding Means
  lookup_some r e = means_of (some r) e

  -- THEOREM: where nothing is found, none of the key's records is within the limit
  pub lookup_none : lookup t key limit ≡ none → NoneWithin limit (records_of t key)
  unfolding Means
  lookup_none e = means_of none e

  -- THEOREM: and back, in a table that keeps the rules
  pub lookup_finds : (test : DataLength) (r : Record) → TableRules test t → Newest limit (records_of t key) r → lookup t key limit ≡ some r
  unfolding lookup
  lookup_finds test r u n = greatest_is limit (records_of t key) r (records_fall test key t u.entries u.rises) n

  pub lookup_misses : NoneWithin limit (records_of t key) → lookup t key limit ≡ none
  unfolding lookup
  lookup_misses n = greatest_none limit (records_of t key) n
