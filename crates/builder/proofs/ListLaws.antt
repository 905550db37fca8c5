-- Lists by their last element: what is changed there, what every element has, and the order of versions and keys. Assumes nothing.
use Prim.Native.Nat.{ℕ, ◌<◌}
use native.Mathlib.Omega.{arith}
use mathlib.Core.Path.{◌≡◌, refl, ap}
use mathlib.Core.List.{List, [], ◌∷◌, ◌++◌, Memᴰ}
use Rattle.laws.specs.Each.{Each}
use Rattle.laws.specs.Each.Each.{each_none, each_more}
use Rattle.std.specs.declared.cmp.Ordering.TheVariants.{Less}
use Rattle.words.specs.Part.{order_of}
use Rattle.records.specs.declared.Record.{Record}
use Rattle.records.specs.Model.{Entry, Falls, falls_one, falls_more, Rises, rises_none, rises_one, rises_more}
use Rattle.builder.specs.Taken.{on_last}

pub last_changed : {A : Type 0} (f : A → A) (xs : List A) (x : A) → on_last f (xs ++ (x ∷ [])) ≡ xs ++ (f x ∷ [])
unfolding on_last
last_changed f [] x = refl
last_changed f (y ∷ []) x = refl
last_changed {A} f (y ∷ z ∷ zs) x = ap (λ (l : List A). y ∷ l) (last_changed f (z ∷ zs) x)

pub member_last : {A : Type 0} (xs : List A) (x : A) → Memᴰ x (xs ++ (x ∷ []))
member_last [] x = Memᴰ.head refl
member_last (y ∷ ys) x = Memᴰ.tail (member_last ys x)

module _ {A : Type 0} {P : A → Type 0} where
  pub each_last : (xs : List A) (x : A) → Each P xs → P x → Each P (xs ++ (x ∷ []))
  each_last [] x each_none p = each_more p each_none
  each_last (y ∷ ys) x (each_more q qs) p = each_more q (each_last ys x qs p)

  pub last_each : (xs : List A) (x : A) → Each P (xs ++ (x ∷ [])) → Each P xs × P x
  last_each [] x (each_more p each_none) = (each_none, p)
  last_each (y ∷ ys) x (each_more q qs) = let r = last_each ys x qs in (each_more q r.0, r.1)

  -- where a change of the last keeps what every element has
  pub each_changed : (f : A → A) → ((x : A) → P x → P (f x)) → (xs : List A) → Each P xs → Each P (on_last f xs)
  unfolding on_last
  each_changed f keeps [] each_none = each_none
  each_changed f keeps (x ∷ []) (each_more p each_none) = each_more (keeps x p) each_none
  each_changed f keeps (x ∷ y ∷ ys) (each_more p ps) = each_more p (each_changed f keeps (y ∷ ys) ps)

-- a version behind the last one, below it
pub falls_on : (rs : List Record) (l r : Record) → Falls (rs ++ (l ∷ [])) → r.sequence < l.sequence → Falls ((rs ++ (l ∷ [])) ++ (r ∷ []))
falls_on [] l r f h = falls_more h falls_one
falls_on (a ∷ []) l r (falls_more g f) h = falls_more g (falls_on [] l r f h)
falls_on (a ∷ b ∷ rs) l r (falls_more g f) h = falls_more g (falls_on (b ∷ rs) l r f h)

-- what is below the last is below them all
pub falls_above : (rs : List Record) (l : Record) (n : ℕ) → Falls (rs ++ (l ∷ [])) → n < l.sequence → Each (λ r. n < r.sequence) (rs ++ (l ∷ []))
falls_above [] l n f h = each_more h each_none
falls_above (a ∷ []) l n (falls_more g f) h = each_more {x = a} (omega arith) (falls_above [] l n f h)
falls_above (a ∷ b ∷ rs) l n (falls_more g f) h = go (falls_above (b ∷ rs) l n f h)
  where
    go : Each (λ r. n < r.sequence) (b ∷ (rs ++ (l ∷ []))) → Each (λ r. n < r.sequence) (a ∷ b ∷ (rs ++ (l ∷ [])))
    go (each_more p ps) = each_more {x = a} (omega arith) (each_more p ps)

-- the version behind the last of those before it is below that one
pub falls_end : (rs : List Record) (l r : Record) (ss : List Record) → Falls ((rs ++ (l ∷ [])) ++ (r ∷ ss)) → r.sequence < l.sequence
falls_end [] l r ss (falls_more h f) = h
falls_end (a ∷ []) l r ss (falls_more g f) = falls_end [] l r ss f
falls_end (a ∷ b ∷ rs) l r ss (falls_more g f) = falls_end (b ∷ rs) l r ss f

-- another last version of the same sequence
pub falls_last : (rs : List Record) (l m : Record) → m.sequence ≡ l.sequence → Falls (rs ++ (l ∷ [])) → Falls (rs ++ (m ∷ []))
falls_last [] l m e f = falls_one
falls_last (a ∷ []) l m e (falls_more g f) = let h : m.sequence < a.sequence = rw e g in falls_more h falls_one
falls_last (a ∷ b ∷ rs) l m e (falls_more g f) = falls_more g (falls_last (b ∷ rs) l m e f)

-- an entry behind the last one, of a greater key
pub rises_on : (es : List Entry) (l e : Entry) → Rises (es ++ (l ∷ [])) → order_of l.key e.key ≡ Less → Rises ((es ++ (l ∷ [])) ++ (e ∷ []))
rises_on [] l e f h = rises_more h rises_one
rises_on (a ∷ []) l e (rises_more g f) h = rises_more g (rises_on [] l e f h)
rises_on (a ∷ b ∷ es) l e (rises_more g f) h = rises_more g (rises_on (b ∷ es) l e f h)

-- the entry behind the last of those before it has a greater key
pub rises_end : (es : List Entry) (l e : Entry) → Rises ((es ++ (l ∷ [])) ++ (e ∷ [])) → order_of l.key e.key ≡ Less
rises_end [] l e (rises_more h f) = h
rises_end (a ∷ []) l e (rises_more g f) = rises_end [] l e f
rises_end (a ∷ b ∷ es) l e (rises_more g f) = rises_end (b ∷ es) l e f

-- the front of entries that rise
pub rises_front : (es fs : List Entry) → Rises (es ++ fs) → Rises es
rises_front [] fs f = rises_none
rises_front (a ∷ []) fs f = rises_one
rises_front (a ∷ b ∷ es) fs (rises_more g f) = rises_more g (rises_front (b ∷ es) fs f)

-- another last entry of the same key
pub rises_last : (es : List Entry) (l m : Entry) → m.key ≡ l.key → Rises (es ++ (l ∷ [])) → Rises (es ++ (m ∷ []))
rises_last [] l m e f = rises_one
rises_last (a ∷ []) l m e (rises_more g f) = let h : order_of a.key m.key ≡ Less = rw e g in rises_more h rises_one
rises_last (a ∷ b ∷ es) l m e (rises_more g f) = rises_more g (rises_last (b ∷ es) l m e f)
