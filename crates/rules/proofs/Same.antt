-- Laws of the comparison of two texts: it holds exactly where they are equal, and it goes byte by byte. By one step along
-- both.
use Prim.Native.Nat.{ℕ, ◌+◌, ◌≤◌, ◌<◌}
use native.Mathlib.Numerals.{add-one}
use mathlib.Core.Path.{◌≡◌, refl, sym, ap, ◌∙◌}
use mathlib.Core.Bool.{Bool, true, false, false≢true}
use mathlib.Core.List.{List, [], ◌∷◌}
use borrow.Author.Tests.{eqb-true, eq-eqb, ne_eqb}
use lib.ListN.{length, drop, get_or, drop_of_length-le}
use lib.Seq.{drop-cons}
use lib.Dec.{eqb}
use Rattle.rules.specs.Lists.{same}
use Rattle.rules.proofs.Conjunctions.{and_left, and_right}

pub same_refl : (xs : List ℕ) → same xs xs ≡ true
same_refl [] = refl
same_refl (x ∷ xs) = rw (eq-eqb x x refl) (same_refl xs)

pub same_eq : (xs ys : List ℕ) → same xs ys ≡ true → xs ≡ ys
same_eq [] [] e = refl
same_eq [] (y ∷ ys) e = cc
same_eq (x ∷ xs) [] e = cc
same_eq (x ∷ xs) (y ∷ ys) e =
    cc (eqb-true x y (and_left (eqb x y) (same xs ys) e), same_eq xs ys (and_right (eqb x y) (same xs ys) e))

pub eq_same : (xs ys : List ℕ) → xs ≡ ys → same xs ys ≡ true
eq_same xs ys e = rw e (same_refl ys)

pub ne_same : (xs ys : List ℕ) → (xs ≡ ys → ⊥) → same xs ys ≡ false
ne_same xs ys d = go (same xs ys) refl
  where
    go : (t : Bool) → same xs ys ≡ t → t ≡ false
    go true e = absurd (d (same_eq xs ys e))
    go false e = refl

pub same_false : (xs ys : List ℕ) → same xs ys ≡ false → xs ≡ ys → ⊥
same_false xs ys e z = false≢true (sym e ∙ eq_same xs ys z)

-- texts of other lengths differ
pub same_length_false : (xs ys : List ℕ) → (length xs ≡ length ys → ⊥) → same xs ys ≡ false
same_length_false xs ys d = ne_same xs ys (λ e. d (ap length e))

-- the same, from a place on
module _ (xs ys : List ℕ) (i : ℕ) where
  pub same_here : i < length xs → i < length ys → get_or xs i 0 ≡ get_or ys i 0 → same (drop i xs) (drop i ys) ≡ same (drop (i + 1) xs) (drop (i + 1) ys)
  same_here h k e = rw (drop-cons xs i 0, drop-cons ys i 0, eq-eqb (get_or xs i 0) (get_or ys i 0) e, add-one)

  pub same_differ : i < length xs → i < length ys → (get_or xs i 0 ≡ get_or ys i 0 → ⊥) → same (drop i xs) (drop i ys) ≡ false
  same_differ h k d = rw (drop-cons xs i 0, drop-cons ys i 0, ne_eqb (get_or xs i 0) (get_or ys i 0) d)

  pub same_end : length xs ≤ i → length ys ≤ i → same (drop i xs) (drop i ys) ≡ true
  same_end h k = rw (drop_of_length-le xs h, drop_of_length-le ys k)
