-- The larger of two numbers, and the largest of a list: what is above it is above each.
use Prim.Native.Nat.{ℕ, ◌≤◌}
use native.Mathlib.Omega.{arith}
use mathlib.Core.Path.{◌≡◌, refl, sym, ap, ◌∙◌}
use mathlib.Core.Bool.{Bool, true, false, ◌&&◌}
use mathlib.Core.List.{List, [], ◌∷◌, ◌++◌}
use lib.Dec.{leb, ltb}
use borrow.Author.Tests.{leb-true, leb-false, le-leb, lt-ltb, le-ltb, ltb-true, ltb-false}
use Rattle.rules.specs.Lists.{pick, every}
use Rattle.rules.specs.Highest.{larger, largest}

pub larger_left : (m n : ℕ) → m ≤ larger m n
larger_left m n = by (ltb m n) refl
  where
    by : (t : Bool) → ltb m n ≡ t → m ≤ pick t n m
    by true q = omega (arith, ltb-true m n q)
    by false q = omega arith

pub larger_right : (m n : ℕ) → n ≤ larger m n
larger_right m n = by (ltb m n) refl
  where
    by : (t : Bool) → ltb m n ≡ t → n ≤ pick t n m
    by true q = omega arith
    by false q = omega (arith, ltb-false m n q)

pub larger_assoc : (a b c : ℕ) → larger a (larger b c) ≡ larger (larger a b) c
larger_assoc a b c = by (ltb a b) refl (ltb b c) refl
  where
    by : (t : Bool) → ltb a b ≡ t → (u : Bool) → ltb b c ≡ u → larger a (pick u c b) ≡ larger (pick t b a) c
    by true p true q = rw (q, lt-ltb a c (omega (arith, ltb-true a b p, ltb-true b c q)))
    by true p false q = rw (p, q)
    by false p true q = refl
    by false p false q = rw (p, le-ltb a c (omega (arith, ltb-false a b p, ltb-false b c q)))

pub larger_zero : (n : ℕ) → larger n 0 ≡ n
larger_zero n = rw (le-ltb n 0 (omega arith))

pub zero_larger : (n : ℕ) → larger 0 n ≡ n
zero_larger n = by (ltb 0 n) refl
  where
    by : (t : Bool) → ltb 0 n ≡ t → pick t n 0 ≡ n
    by true q = refl
    by false q = omega (arith, ltb-false 0 n q)

pub larger_below : (m n b : ℕ) → leb (larger m n) b ≡ (leb m b && leb n b)
larger_below m n b = by (ltb m n) refl (leb m b) refl (leb n b) refl
  where
    by : (t : Bool) → ltb m n ≡ t → (u : Bool) → leb m b ≡ u → (w : Bool) → leb n b ≡ w → leb (pick t n m) b ≡ (u && w)
    by true p true q w r = r
    by true p false q true r = absurd (omega (arith, ltb-true m n p, leb-false m b q, leb-true n b r))
    by true p false q false r = r
    by false p true q true r = q
    by false p true q false r = absurd (omega (arith, ltb-false m n p, leb-true m b q, leb-false n b r))
    by false p false q w r = q

-- ---- of a list

pub largest_below : {A : Type 0} (f : A → ℕ) (xs : List A) (b : ℕ) → leb (largest f xs) b ≡ every (λ (x : A). leb (f x) b) xs
largest_below f [] b = le-leb 0 b (omega arith)
largest_below f (x ∷ xs) b = larger_below (f x) (largest f xs) b ∙ ap (λ (t : Bool). leb (f x) b && t) (largest_below f xs b)

pub largest_joined : {A : Type 0} (f : A → ℕ) (xs ys : List A) → largest f (xs ++ ys) ≡ larger (largest f xs) (largest f ys)
largest_joined f [] ys = sym (zero_larger (largest f ys))
largest_joined f (x ∷ xs) ys = ap (larger (f x)) (largest_joined f xs ys) ∙ larger_assoc (f x) (largest f xs) (largest f ys)

-- one more at the end
pub largest_added : {A : Type 0} (f : A → ℕ) (xs : List A) (x : A) → largest f (xs ++ (x ∷ [])) ≡ larger (largest f xs) (f x)
largest_added f xs x = largest_joined f xs (x ∷ []) ∙ ap (larger (largest f xs)) (larger_zero (f x))
