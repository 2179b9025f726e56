-- What a function applied to each element does to what stands at a place.
use mathlib.Core.Path.{◌≡◌, refl}
use mathlib.Core.List.{List, [], ◌∷◌, map}
use Prim.Native.Nat.{ℕ, zero, suc, ◌<◌}
use native.Mathlib.Nat.{not-suc-le-zero, le_of_suc-le-suc}
use lib.ListN.{length, get_or}

module _ {A B : Type 0} (f : A → B) where
  pub map_at : (xs : List A) (n : ℕ) (a : A) (b : B) → n < length xs → get_or (map f xs) n b ≡ f (get_or xs n a)
  map_at [] n a b h = absurd (not-suc-le-zero h)
  map_at (x ∷ xs) zero a b h = refl
  map_at (x ∷ xs) (suc n) a b h = map_at xs n a b (le_of_suc-le-suc h)
