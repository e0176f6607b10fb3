-- The specification's words for lists, where iterators' contracts have std's. Assumes nothing.
use mathlib.Core.Path.{◌≡◌, refl, ap}
use mathlib.Core.Bool.{Bool, ◌&&◌}
use mathlib.Core.List.{List, [], ◌∷◌}
use Rattle.std.specs.List.{list_all}
use Rattle.spec.specs.Lists.{all}

-- a test that all elements pass
pub list_all-is : {A : Type 0} (f : A → Bool) (xs : List A) → list_all f xs ≡ all f xs
unfolding all
list_all-is f [] = refl
list_all-is f (x ∷ xs) = ap (λ (b : Bool). f x && b) (list_all-is f xs)
