-- What `==` of two slices tells is whether their texts are the same.
use Prim.Native.Nat.{ℕ}
use mathlib.Core.Path.{◌≡◌, refl, ap}
use mathlib.Core.Bool.{Bool, ◌&&◌}
use mathlib.Core.List.{List, [], ◌∷◌}
use lib.Dec.{eqb}
use lib.Pointwise.{pointwise}
use Rattle.rules.specs.Lists.{same}

pub slices_same : (xs ys : List ℕ) → pointwise eqb xs ys ≡ same xs ys
slices_same [] [] = refl
slices_same [] (y ∷ ys) = refl
slices_same (x ∷ xs) [] = refl
slices_same (x ∷ xs) (y ∷ ys) = ap (λ (rest : Bool). eqb x y && rest) (slices_same xs ys)
