-- What tests joined by "and" tell, of two and of every element of a list.
use Prim.Native.Nat.{ℕ}
use native.Mathlib.Omega.{arith}
use mathlib.Core.Path.{◌≡◌, refl, sym, ap, ◌∙◌}
use mathlib.Core.Bool.{Bool, true, false, not, ◌&&◌, ◌||◌, and_assoc}
use mathlib.Core.List.{List, [], ◌∷◌, ◌++◌, map}
use Rattle.rules.specs.Lists.{every}

pub and_left : (a b : Bool) → (a && b) ≡ true → a ≡ true
and_left true b e = refl
and_left false b e = e

pub and_right : (a b : Bool) → (a && b) ≡ true → b ≡ true
and_right true b e = e
and_right false b e = cc

pub and_both : (a b : Bool) → a ≡ true → b ≡ true → (a && b) ≡ true
and_both a b p q = rw (p, q)

pub both : (a b : Bool) → (a && b) ≡ true → (a ≡ true) × (b ≡ true)
both a b e = (and_left a b e, and_right a b e)

pub not_true : (a : Bool) → not a ≡ true → a ≡ false
not_true true e = cc
not_true false e = refl

pub or_left : (a b : Bool) → (a || b) ≡ false → a ≡ false
or_left true b e = e
or_left false b e = refl

pub or_right : (a b : Bool) → (a || b) ≡ false → b ≡ false
or_right true b e = cc
or_right false b e = e

pub false_if_never : (a : Bool) → (a ≡ true → ⊥) → a ≡ false
false_if_never true n = absurd (n refl)
false_if_never false n = refl

pub or_found : (a b : Bool) → b ≡ true → (a || b) ≡ true
or_found true b e = refl
or_found false b e = e

pub or_false : (a b : Bool) → (a || b) ≡ true → a ≡ false → b ≡ true
or_false true b e f = absurd (let z : ◌≡◌ {A = ℕ} 0 1 = cc in omega arith)
or_false false b e f = e

module _ {ℓ} {A : Type ℓ} (f : A → Bool) where
  pub every_first : (x : A) (xs : List A) → every f (x ∷ xs) ≡ true → f x ≡ true
  every_first x xs e = and_left (f x) (every f xs) e

  pub every_rest : (x : A) (xs : List A) → every f (x ∷ xs) ≡ true → every f xs ≡ true
  every_rest x xs e = and_right (f x) (every f xs) e

  pub every_append : (xs ys : List A) → every f xs ≡ true → every f ys ≡ true → every f (xs ++ ys) ≡ true
  every_append [] ys a b = b
  every_append (x ∷ xs) ys a b = and_both (f x) (every f (xs ++ ys)) (every_first x xs a) (every_append xs ys (every_rest x xs a) b)

  pub every_front : (xs ys : List A) → every f (xs ++ ys) ≡ true → every f xs ≡ true
  every_front [] ys e = refl
  every_front (x ∷ xs) ys e = and_both (f x) (every f xs) (every_first x (xs ++ ys) e) (every_front xs ys (every_rest x (xs ++ ys) e))

  pub every_back : (xs ys : List A) → every f (xs ++ ys) ≡ true → every f ys ≡ true
  every_back [] ys e = e
  every_back (x ∷ xs) ys e = every_back xs ys (every_rest x (xs ++ ys) e)

pub every_joined {ℓ} : {A : Type ℓ} (f : A → Bool) (xs ys : List A) → every f (xs ++ ys) ≡ (every f xs && every f ys)
every_joined f [] ys = refl
every_joined f (x ∷ xs) ys = ap (λ (b : Bool). f x && b) (every_joined f xs ys) ∙ sym (and_assoc (f x) (every f xs) (every f ys))

pub every_map {ℓ} : {A B : Type ℓ} (f : B → Bool) (g : A → B) (xs : List A) → every f (map g xs) ≡ every (λ (x : A). f (g x)) xs
every_map f g [] = refl
every_map f g (x ∷ xs) = rw (every_map f g xs)
