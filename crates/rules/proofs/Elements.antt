-- Laws of lists that are mapped and joined. By one step along the list.
use Prim.Native.Nat.{ℕ, zero, suc}
use mathlib.Core.Path.{◌≡◌, refl, sym, ap, ◌∙◌}
use mathlib.Core.Bool.{Bool, true, false≢true, ◌||◌}
use mathlib.Core.List.{List, [], ◌∷◌, ◌++◌, map, append_assoc}
use lib.ListN.{drop, set}
use Rattle.rules.specs.Lists.{empty, any, joined}

pub none_given : {A : Type 0} (xs : List A) → empty xs ≡ true → xs ≡ []
none_given [] e = refl
none_given (x ∷ xs) e = absurd (false≢true e)

pub map_append : {A B : Type 0} (f : A → B) (xs ys : List A) → map f (xs ++ ys) ≡ map f xs ++ map f ys
map_append f [] ys = refl
map_append f (x ∷ xs) ys = ap (λ (l : List _). f x ∷ l) (map_append f xs ys)

-- two lists that are mapped to the same, and one more of each
pub maps_more : {A B C : Type 0} (f : A → C) (g : B → C) (xs : List A) (ys : List B) (x : A) (y : B) → map f xs ≡ map g ys → f x ≡ g y
    → map f (xs ++ (x ∷ [])) ≡ map g (ys ++ (y ∷ []))
maps_more {C = C} f g xs ys x y e q =
    map_append f xs (x ∷ []) ∙ ap (λ (zs : List C). zs ++ (f x ∷ [])) e ∙ ap (λ (z : C). map g ys ++ (z ∷ [])) q ∙ sym (map_append g ys (y ∷ []))

pub map_map : {A B C : Type 0} (f : B → C) (g : A → B) (xs : List A) → map f (map g xs) ≡ map (λ (x : A). f (g x)) xs
map_map f g [] = refl
map_map f g (x ∷ xs) = ap (λ (l : List _). f (g x) ∷ l) (map_map f g xs)

pub drop_map : {A B : Type 0} (f : A → B) (n : ℕ) (xs : List A) → drop n (map f xs) ≡ map f (drop n xs)
drop_map f n [] = nothing n
  where
    nothing : (n : ℕ) → drop n (map f []) ≡ map f (drop n [])
    nothing zero = refl
    nothing (suc n) = refl
drop_map f zero (x ∷ xs) = refl
drop_map f (suc n) (x ∷ xs) = drop_map f n xs

pub set_map : {A B : Type 0} (f : A → B) (xs : List A) (n : ℕ) (x : A) → map f (set xs n x) ≡ set (map f xs) n (f x)
set_map f [] n x = refl
set_map f (y ∷ ys) zero x = refl
set_map f (y ∷ ys) (suc n) x = ap (λ (l : List _). f y ∷ l) (set_map f ys n x)

pub any_map : {A B : Type 0} (f : B → Bool) (g : A → B) (xs : List A) → any f (map g xs) ≡ any (λ (x : A). f (g x)) xs
any_map f g [] = refl
any_map f g (x ∷ xs) = ap (λ (b : Bool). f (g x) || b) (any_map f g xs)

pub joined_append : {A : Type 0} (xs ys : List (List A)) → joined (xs ++ ys) ≡ joined xs ++ joined ys
joined_append [] ys = refl
joined_append (x ∷ xs) ys = ap (λ (l : List _). x ++ l) (joined_append xs ys) ∙ sym (append_assoc x (joined xs) (joined ys))
