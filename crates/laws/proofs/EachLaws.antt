-- A property carried over every element of a list. Assumes nothing.
use mathlib.Core.List.{List, [], ◌∷◌}
use Rattle.laws.specs.Each.{Each, each_none, each_more}

-- what follows from a property for one element follows for every element
pub each_map : {A : Type 0} {P Q : A → Type 0} → ((x : A) → P x → Q x) → (xs : List A) → Each P xs → Each Q xs
each_map f [] each_none = each_none
each_map f (x ∷ xs) (each_more p r) = each_more (f x p) (each_map f xs r)
