-- Where as many numbers as a list has, counted from a place on, all are in the list, no others are. For a list that has
-- another number would have one element more.
use Prim.Native.Nat.{ℕ, zero, suc, ◌+◌, ◌≤◌, ◌<◌}
use native.Mathlib.Omega.{arith}
use mathlib.Core.Path.{◌≡◌, refl, sym, ap, ◌∙◌, subst}
use mathlib.Core.Logic.{inl, inr}
use mathlib.Core.Bool.{Bool, true, false}
use mathlib.Core.List.{List, [], ◌∷◌}
use lib.ListN.{length}
use lib.Dec.{leb, ltb}
use borrow.Author.Tests.{leb-true, leb-false, ltb-true, ltb-false}
use Rattle.rules.specs.Lists.{counting}
use Rattle.rules.specs.GrammarLines.{In, Differ}
use Rattle.rules.proofs.Counting.{length_counting}

-- a list without one of its elements
record Without (x : ℕ) (xs : List ℕ) : Type 0 where
  left : List ℕ
  one_less : length xs ≡ suc (length left)
  others : (y : ℕ) → (y ≡ x → ⊥) → In y xs → In y left

without : (x : ℕ) (xs : List ℕ) → In x xs → Without x xs
without x [] i = absurd i
without x (z ∷ zs) (inl e) = record { left = zs; one_less = refl; others = λ y n i. either y n i }
  where
    either : (y : ℕ) → (y ≡ x → ⊥) → In y (z ∷ zs) → In y zs
    either y n (inl q) = absurd (n (q ∙ sym e))
    either y n (inr i) = i
without x (z ∷ zs) (inr i) = let w = without x zs i in record { left = z ∷ w.left; one_less = ap suc w.one_less; others = λ y n j. either w.left w.others y n j }
  where
    either : (left : List ℕ) → ((y : ℕ) → (y ≡ x → ⊥) → In y zs → In y left) → (y : ℕ) → (y ≡ x → ⊥) → In y (z ∷ zs) → In y (z ∷ left)
    either left f y n (inl q) = inl q
    either left f y n (inr j) = inr (f y n j)

-- elements that differ and are all in another list are no more than it has
no_more : (ys xs : List ℕ) → Differ ys → ((y : ℕ) → In y ys → In y xs) → length ys ≤ length xs
no_more [] xs d f = omega arith
no_more (y ∷ ys) xs d f =
    let w = without y xs (f y (inl refl)) in
    omega (arith, w.one_less, no_more ys w.left d.1 (λ z i. w.others z (λ e. d.0 (subst (λ (n : ℕ). In n ys) e i)) (f z (inr i))))

-- ---- counted numbers

in_counting : (a k n : ℕ) → In n (counting a k) → (a ≤ n) × (n < a + k)
in_counting a zero n i = absurd i
in_counting a (suc k) n (inl e) = (omega (arith, e), omega (arith, e))
in_counting a (suc k) n (inr i) = let h = in_counting (suc a) k n i in (omega (arith, h.0), omega (arith, h.1))

counting_differ : (a k : ℕ) → Differ (counting a k)
counting_differ a zero = tt
counting_differ a (suc k) = ((λ i. absurd (omega (arith, (in_counting (suc a) k a i).0))), counting_differ (suc a) k)

module _ (xs : List ℕ) (a : ℕ) (all : (n : ℕ) → a ≤ n → n < a + length xs → In n xs) where
  outside : (n : ℕ) → In n xs → (In n (counting a (length xs)) → ⊥) → ⊥
  outside n i o =
      let h : length (n ∷ counting a (length xs)) ≤ length xs = no_more (n ∷ counting a (length xs)) xs (o, counting_differ a (length xs)) (λ y j. either y j) in
      omega (arith, length_counting a (length xs))
    where
      either : (y : ℕ) → In y (n ∷ counting a (length xs)) → In y xs
      either y (inl e) = subst (λ (n : ℕ). In n xs) (sym e) i
      either y (inr j) = let h = in_counting a (length xs) y j in all y h.0 h.1

  pub no_others : (n : ℕ) → In n xs → (a ≤ n) × (n < a + length xs)
  no_others n i = by (leb a n) refl (ltb n (a + length xs)) refl
    where
      by : (t : Bool) → leb a n ≡ t → (u : Bool) → ltb n (a + length xs) ≡ u → (a ≤ n) × (n < a + length xs)
      by true e true f = (leb-true a n e, ltb-true n (a + length xs) f)
      by true e false f = absurd (outside n i (λ j. omega (arith, (in_counting a (length xs) n j).1, ltb-false n (a + length xs) f)))
      by false e u f = absurd (outside n i (λ j. omega (arith, (in_counting a (length xs) n j).0, leb-false a n e)))
