-- What is printed of a list in the order of its numbers is printed number by number: of each number the element that has it,
-- nothing where none has. By insertion of one element, then by one number after the other.
use Prim.Native.Nat.{ℕ, zero, suc, ◌+◌, ◌≤◌, ◌<◌}
use native.Mathlib.Omega.{arith}
use mathlib.Core.Path.{◌≡◌, refl, sym, ap, ap₂, ◌∙◌}
use mathlib.Core.Bool.{Bool, true, false}
use mathlib.Core.List.{List, [], ◌∷◌, ◌++◌, map}
use lib.Dec.{leb, eqb}
use borrow.Author.Tests.{leb-false, ne_eqb, eqb-true, eqb-false}
use Rattle.rules.specs.Lists.{pick, joined, counting, inserted, sorted, Each}
use Rattle.rules.proofs.EachElement.{each_then}
use Rattle.rules.proofs.Sorting.{Distinct, Rising, all_sorted, rising_sorted}

module _ {A B : Type 0} (key : A → ℕ) (f : A → List B) where
  -- what is printed of the element with a number
  abbrev pub numbered : List A → ℕ → List B
  numbered [] n = []
  numbered (x ∷ xs) n = pick (eqb n (key x)) (f x) (numbered xs n)

  -- ---- sorting changes nothing of it

  -- two elements with different numbers can change places
  swapped : (n : ℕ) (x y : A) (rest : List B) → key y < key x
      → pick (eqb n (key y)) (f y) (pick (eqb n (key x)) (f x) rest) ≡ pick (eqb n (key x)) (f x) (pick (eqb n (key y)) (f y) rest)
  swapped n x y rest h = by (eqb n (key x)) refl
    where
      by : (t : Bool) → eqb n (key x) ≡ t → pick (eqb n (key y)) (f y) (pick t (f x) rest) ≡ pick t (f x) (pick (eqb n (key y)) (f y) rest)
      by true e = rw (ne_eqb n (key y) (λ q. omega (arith, eqb-true n (key x) e)))
      by false e = refl

  numbered_inserted : (n : ℕ) (x : A) (ys : List A) → numbered (inserted key x ys) n ≡ pick (eqb n (key x)) (f x) (numbered ys n)
  unfolding inserted
  numbered_inserted n x [] = refl
  numbered_inserted n x (y ∷ ys) = by (leb (key x) (key y)) refl (numbered_inserted n x ys)
    where
      by : (t : Bool) → leb (key x) (key y) ≡ t → numbered (inserted key x ys) n ≡ pick (eqb n (key x)) (f x) (numbered ys n)
          → numbered (pick t (x ∷ y ∷ ys) (y ∷ inserted key x ys)) n ≡ pick (eqb n (key x)) (f x) (numbered (y ∷ ys) n)
      by true e i = refl
      by false e i = ap (pick (eqb n (key y)) (f y)) i ∙ swapped n x y (numbered ys n) (leb-false (key x) (key y) e)

  numbered_sorted : (n : ℕ) (xs : List A) → numbered (sorted key xs) n ≡ numbered xs n
  unfolding sorted
  numbered_sorted n [] = refl
  numbered_sorted n (x ∷ xs) = numbered_inserted n x (sorted key xs) ∙ ap (pick (eqb n (key x)) (f x)) (numbered_sorted n xs)

  -- ---- number by number

  abbrev counted : List A → ℕ → ℕ → List B
  counted xs from count = joined (map (numbered xs) (counting from count))

  none_counted : (from count : ℕ) → counted [] from count ≡ []
  none_counted from zero = refl
  none_counted from (suc count) = none_counted (suc from) count

  -- numbers above that of the first element don't see it
  counted_above : (x : A) (xs : List A) (from count : ℕ) → key x < from → counted (x ∷ xs) from count ≡ counted xs from count
  counted_above x xs from zero h = refl
  counted_above x xs from (suc count) h =
      ap₂ ◌++◌ (ap (λ (t : Bool). pick t (f x) (numbered xs from)) (ne_eqb from (key x) (λ q. omega (arith, h)))) (counted_above x xs (suc from) count (omega (arith, h)))

  lacking : (n k : ℕ) (xs : List A) → Rising key k xs → n < k → numbered xs n ≡ []
  lacking n k [] r h = refl
  lacking n k (x ∷ xs) r h = rw (ne_eqb n (key x) (λ q. omega (arith, r.0))) (lacking n (suc (key x)) xs r.1 (omega (arith, r.0)))

  abbrev Counted : ℕ → ℕ → Type 0
  Counted from count = (xs : List A) → Rising key from xs → Each (λ (x : A). key x < from + count) xs → joined (map f xs) ≡ counted xs from count

  no_numbers : (from : ℕ) → Counted from zero
  no_numbers from [] r b = refl
  no_numbers from (x ∷ xs) r b = absurd (omega (arith, r.0, b.0))

  one_number : (from count : ℕ) → Counted (suc from) count → Counted from (suc count)
  one_number from count more [] r b = sym (none_counted from (suc count))
  one_number from count more (x ∷ xs) r b = by (eqb from (key x)) refl
    where
      below : Each (λ (y : A). key y < suc from + count) (x ∷ xs)
      below = each_then _ _ (λ y l. omega (arith, l)) (x ∷ xs) b

      by : (t : Bool) → eqb from (key x) ≡ t → f x ++ joined (map f xs) ≡ pick t (f x) (numbered xs from) ++ counted (x ∷ xs) (suc from) count
      by true e =
          let here : from ≡ key x = eqb-true from (key x) e in
          ap (λ (l : List B). f x ++ l) (more xs (rw here r.1) below.1 ∙ sym (counted_above x xs (suc from) count (omega (arith, here))))
      by false e =
          let away = eqb-false from (key x) e in
          let later : suc from ≤ key x = omega (arith, r.0, away) in
          more (x ∷ xs) (later, r.1) below ∙ ap (λ (l : List B). l ++ counted (x ∷ xs) (suc from) count) (sym (lacking from (suc (key x)) xs r.1 (omega (arith, later))))

  rising_counted : (from count : ℕ) → Counted from count
  rising_counted from zero = no_numbers from
  rising_counted from (suc count) = one_number from count (rising_counted (suc from) count)

  map_numbered : (xs : List A) (ns : List ℕ) → map (numbered (sorted key xs)) ns ≡ map (numbered xs) ns
  map_numbered xs [] = refl
  map_numbered xs (n ∷ ns) = ap₂ ◌∷◌ (numbered_sorted n xs) (map_numbered xs ns)

  pub sorted_numbered : (from count : ℕ) (xs : List A) → Distinct key xs → Each (λ (x : A). from ≤ key x) xs → Each (λ (x : A). key x < from + count) xs
      → joined (map f (sorted key xs)) ≡ joined (map (numbered xs) (counting from count))
  sorted_numbered from count xs d low high =
      rising_counted from count (sorted key xs) (rising_sorted key from xs low d) (all_sorted key (λ (x : A). key x < from + count) xs high)
      ∙ ap joined (map_numbered xs (counting from count))
