-- Laws of what holds of each element of a list: along lists joined and mapped. By one step along the list.
use mathlib.Core.Path.{◌≡◌}
use mathlib.Core.Bool.{Bool, true}
use mathlib.Core.List.{List, [], ◌∷◌, ◌++◌, map}
use Rattle.rules.specs.Lists.{every, Each}
use Rattle.rules.proofs.Conjunctions.{every_first, every_rest}

module _ {A : Type 0} where
  pub each_then : (P Q : A → Type 0) → ((x : A) → P x → Q x) → (xs : List A) → Each P xs → Each Q xs
  each_then P Q f [] a = tt
  each_then P Q f (x ∷ xs) a = (f x a.0, each_then P Q f xs a.1)

  pub each_both : (P Q : A → Type 0) (xs : List A) → Each P xs → Each Q xs → Each (λ (x : A). P x × Q x) xs
  each_both P Q [] a b = tt
  each_both P Q (x ∷ xs) a b = ((a.0, b.0), each_both P Q xs a.1 b.1)

  module _ (P : A → Type 0) where
    -- what holds of any
    pub each_of : ((x : A) → P x) → (xs : List A) → Each P xs
    each_of f [] = tt
    each_of f (x ∷ xs) = (f x, each_of f xs)

    pub each_joined : (xs ys : List A) → Each P xs → Each P ys → Each P (xs ++ ys)
    each_joined [] ys a b = b
    each_joined (x ∷ xs) ys a b = (a.0, each_joined xs ys a.1 b)

    pub each_front : (xs ys : List A) → Each P (xs ++ ys) → Each P xs
    each_front [] ys a = tt
    each_front (x ∷ xs) ys a = (a.0, each_front xs ys a.1)

    pub each_back : (xs ys : List A) → Each P (xs ++ ys) → Each P ys
    each_back [] ys a = a
    each_back (x ∷ xs) ys a = each_back xs ys a.1

    pub each_more : (xs : List A) (x : A) → Each P xs → P x → Each P (xs ++ (x ∷ []))
    each_more xs x a p = each_joined xs (x ∷ []) a (p, tt)

-- ---- mapped

module _ {A B : Type 0} (g : A → B) (P : B → Type 0) where
  pub each_map : (xs : List A) → Each (λ (x : A). P (g x)) xs → Each P (map g xs)
  each_map [] a = tt
  each_map (x ∷ xs) a = (a.0, each_map xs a.1)

  pub each_mapped : (xs : List A) → Each P (map g xs) → Each (λ (x : A). P (g x)) xs
  each_mapped [] a = tt
  each_mapped (x ∷ xs) a = (a.0, each_mapped xs a.1)

-- what follows from what each is mapped to, and of each that passes a test
module _ {A B : Type 0} (P : B → Type 0) (Q : A → Type 0) (g : A → B) where
  pub each_mapped_then : ((x : A) → P (g x) → Q x) → (xs : List A) → Each P (map g xs) → Each Q xs
  each_mapped_then f [] a = tt
  each_mapped_then f (x ∷ xs) a = (f x a.0, each_mapped_then f xs a.1)

  pub each_tested : (test : A → Bool) → ((x : A) → P (g x) → test x ≡ true → Q x) → (xs : List A) → Each P (map g xs) → every test xs ≡ true → Each Q xs
  each_tested test f [] a e = tt
  each_tested test f (x ∷ xs) a e = (f x a.0 (every_first test x xs e), each_tested test f xs a.1 (every_rest test x xs e))
