-- Words for lists and choices that the rules are written in.
use Rattle.std.specs.Prelude.{ℕ, zero, suc, Bool, true, false, ◌&&◌, ◌||◌, List, [], ◌∷◌, ◌++◌, leb, eqb}
use Prim.Native.String.{String}
use Prim.Native.Char.{code}

-- the first if the test holds, else the second
abbrev pub pick {ℓ} : {X : Type ℓ} → Bool → X → X → X
pick true x y = x
pick false x y = y

abbrev pub between : ℕ → ℕ → ℕ → Bool
between lowest highest n = leb lowest n && leb n highest

-- the bytes of a quoted text
abbrev pub bytes : String → List ℕ
bytes String.[] = []
bytes (String.◌∷◌ c s) = code c ∷ bytes s

abbrev pub empty {ℓ} : {A : Type ℓ} → List A → Bool
empty [] = true
empty (x ∷ xs) = false

abbrev pub every {ℓ} : {A : Type ℓ} → (A → Bool) → List A → Bool
every f [] = true
every f (x ∷ xs) = f x && every f xs

abbrev pub any {ℓ} : {A : Type ℓ} → (A → Bool) → List A → Bool
any f [] = false
any f (x ∷ xs) = f x || any f xs

-- each element of the list is so
abbrev pub Each : {A : Type 0} → (A → Type 0) → List A → Type 0
Each P [] = Unit
Each P (x ∷ xs) = P x × Each P xs

-- the same bytes in the same order
abbrev pub same : List ℕ → List ℕ → Bool
same [] [] = true
same [] (y ∷ ys) = false
same (x ∷ xs) [] = false
same (x ∷ xs) (y ∷ ys) = eqb x y && same xs ys

abbrev pub member : ℕ → List ℕ → Bool
member n xs = any (eqb n) xs

-- from, from + 1, .. : as many numbers as count
abbrev pub counting : ℕ → ℕ → List ℕ
counting from zero = []
counting from (suc count) = from ∷ counting (suc from) count

-- the lists one behind the other
abbrev pub joined {ℓ} : {A : Type ℓ} → List (List A) → List A
joined [] = []
joined (xs ∷ xss) = xs ++ joined xss

-- a list in rising order of a number that each element has; elements with the same number keep their order
module _ {A : Type 0} (key : A → ℕ) where
  unfoldable pub inserted : A → List A → List A
  inserted x [] = x ∷ []
  inserted x (y ∷ ys) =
      let later = y ∷ inserted x ys in
      pick (leb (key x) (key y)) (x ∷ y ∷ ys) later

  unfoldable pub sorted : List A → List A
  sorted [] = []
  sorted (x ∷ xs) = inserted x (sorted xs)
