-- Laws of the first two adjacent percent signs: their place, seen from where a loop has come to, and what stands in front
-- of them and behind. By one step along the bytes.
use Prim.Native.Nat.{ℕ, suc, ◌+◌, ◌-◌, ◌≤◌, ◌<◌, suc-le-suc}
use native.Mathlib.Nat.{add-zero, add-suc, suc-add, le_of_suc-le-suc, not-suc-le-zero}
use native.Mathlib.Numerals.{add-one, add-two}
use native.Mathlib.Omega.{arith}
use mathlib.Core.Path.{◌≡◌, refl, sym, ap, ap₂, ◌∙◌}
use mathlib.Core.Bool.{Bool, true, false, ◌&&◌, and-false, false≢true}
use mathlib.Core.List.{List, [], ◌∷◌}
use borrow.Author.Tests.{ltb-true, ltb-false}
use lib.ListN.{length, take, drop, get_or, length-drop, take-append-drop, drop_of_length-le}
use lib.Dec.{eqb, ltb}
use lib.Seq.{drop-drop, drop-cons, drop-append-le, take_at, take_all, length-take-le}
use Rattle.std.specs.List.{starts_with}
use Rattle.std.specs.Cmp.{nat_eq_equiv}
use Rattle.rules.specs.Lists.{pick}
use Rattle.rules.specs.Bytes.{percents}
use Rattle.rules.specs.Texts.{no_text, trim_from, trim, starts_comment, front_bytes, behind_from}

-- ---- the place

more : (a b : ℕ) (bs : List ℕ) → starts_comment a b ≡ false → length (front_bytes (a ∷ b ∷ bs)) ≡ suc (length (front_bytes (b ∷ bs)))
unfolding front_bytes
more a b bs e = rw e

short : (xs : List ℕ) → length xs ≤ 1 → length (front_bytes xs) ≡ length xs
unfolding front_bytes
short [] h = refl
short (a ∷ []) h = refl
short (a ∷ b ∷ bs) h = absurd (not-suc-le-zero (le_of_suc-le-suc h))

abbrev signs : List ℕ → Bool
signs xs = starts_with eqb xs percents

signs_two : (a b : ℕ) (bs : List ℕ) → signs (a ∷ b ∷ bs) ≡ starts_comment a b
signs_two a b bs = ap₂ (λ (x y : Bool). x && (y && true)) (nat_eq_equiv.symm 37 a) (nat_eq_equiv.symm 37 b)

stop : (xs : List ℕ) → signs xs ≡ true → length (front_bytes xs) ≡ 0
unfolding front_bytes
stop [] e = refl
stop (a ∷ []) e = absurd (false≢true (sym (and-false (eqb 37 a)) ∙ e))
stop (a ∷ b ∷ bs) e = rw (sym (signs_two a b bs) ∙ e)

later : (x : ℕ) (xs : List ℕ) → signs (x ∷ xs) ≡ false → length (front_bytes (x ∷ xs)) ≡ suc (length (front_bytes xs))
unfolding front_bytes
later a [] e = refl
later a (b ∷ bs) e = more a b bs (sym (signs_two a b bs) ∙ e)

module _ (s : List ℕ) (i : ℕ) where
  rest : take (length s - i) (drop i s) ≡ drop i s
  rest = take_all (length s - i) (drop i s) (omega (arith, length-drop i s))

  pub front_stop : signs (take (length s - i) (drop i s)) ≡ true → i + length (front_bytes (drop i s)) ≡ i
  front_stop e = omega (arith, stop (drop i s) (ap signs (sym rest) ∙ e))

  pub front_more : i < length s → signs (take (length s - i) (drop i s)) ≡ false
      → i + length (front_bytes (drop i s)) ≡ i + 1 + length (front_bytes (drop (i + 1) s))
  front_more h e =
      let here : drop i s ≡ get_or s i 0 ∷ drop (suc i) s = drop-cons s i 0 h in
      let none : signs (get_or s i 0 ∷ drop (suc i) s) ≡ false = ap signs (sym here ∙ sym rest) ∙ e in
      rw (here, add-one i) (omega (arith, later (get_or s i 0) (drop (suc i) s) none))

  pub front_end : length s ≤ i → i ≤ length s → i + length (front_bytes (drop i s)) ≡ length s
  unfolding front_bytes
  front_end h k = rw (drop_of_length-le s h) (omega arith)

-- ---- what stands in front, and what behind

first : (xs : List ℕ) → take (length (front_bytes xs)) xs ≡ front_bytes xs
unfolding front_bytes
first [] = refl
first (a ∷ []) = refl
first (a ∷ b ∷ bs) = go (starts_comment a b) (first (b ∷ bs))
  where
    go : (t : Bool) → take (length (front_bytes (b ∷ bs))) (b ∷ bs) ≡ front_bytes (b ∷ bs)
        → take (length (pick t [] (a ∷ front_bytes (b ∷ bs)))) (a ∷ b ∷ bs) ≡ pick t [] (a ∷ front_bytes (b ∷ bs))
    go true e = refl
    go false e = ap (λ (l : List ℕ). a ∷ l) e

-- the signs stand there whole, or there are none
whole : (xs : List ℕ) → length (front_bytes xs) < length xs → length (front_bytes xs) + 2 ≤ length xs
unfolding front_bytes
whole [] h = absurd (omega arith)
whole (a ∷ []) h = absurd (omega arith)
whole (a ∷ b ∷ bs) h = go (starts_comment a b) h (whole (b ∷ bs))
  where
    go : (t : Bool) → length (pick t [] (a ∷ front_bytes (b ∷ bs))) < suc (suc (length bs))
        → (length (front_bytes (b ∷ bs)) < suc (length bs) → length (front_bytes (b ∷ bs)) + 2 ≤ suc (length bs))
        → length (pick t [] (a ∷ front_bytes (b ∷ bs))) + 2 ≤ suc (suc (length bs))
    go true h e = omega arith
    go false h e = omega (arith, e (le_of_suc-le-suc h))

no_longer : (xs : List ℕ) → length (front_bytes xs) ≤ length xs
unfolding front_bytes
no_longer [] = omega arith
no_longer (a ∷ []) = omega arith
no_longer (a ∷ b ∷ bs) = go (starts_comment a b) (no_longer (b ∷ bs))
  where
    go : (t : Bool) → length (front_bytes (b ∷ bs)) ≤ suc (length bs) → length (pick t [] (a ∷ front_bytes (b ∷ bs))) ≤ suc (suc (length bs))
    go true e = omega arith
    go false e = suc-le-suc e

behind_signs : (at : ℕ) (xs : List ℕ) → length (front_bytes xs) < length xs
    → behind_from at xs ≡ record { start = at + length (front_bytes xs) + 2; bytes = drop (length (front_bytes xs) + 2) xs }
unfolding front_bytes behind_from
behind_signs at [] h = absurd (omega arith)
behind_signs at (a ∷ []) h = absurd (omega arith)
behind_signs at (a ∷ b ∷ bs) h = go (starts_comment a b) h (behind_signs (suc at) (b ∷ bs))
  where
    later : ℕ
    later = length (front_bytes (b ∷ bs))

    front : Bool → ℕ
    front t = length (pick t [] (a ∷ front_bytes (b ∷ bs)))

    go : (t : Bool) → front t < suc (suc (length bs))
        → (later < suc (length bs) → behind_from (suc at) (b ∷ bs) ≡ record { start = suc at + later + 2; bytes = drop (later + 2) (b ∷ bs) })
        → pick t (record { start = suc (suc at); bytes = bs }) (behind_from (suc at) (b ∷ bs)) ≡ record { start = at + front t + 2; bytes = drop (front t + 2) (a ∷ b ∷ bs) }
    go true h e = simp (add-two, add-zero)
    go false h e = e (le_of_suc-le-suc h) ∙ simp (add-two, add-suc, suc-add)

behind_nothing : (at : ℕ) (xs : List ℕ) → length xs ≤ length (front_bytes xs) → behind_from at xs ≡ no_text
unfolding front_bytes behind_from
behind_nothing at [] h = refl
behind_nothing at (a ∷ []) h = refl
behind_nothing at (a ∷ b ∷ bs) h = go (starts_comment a b) h (behind_nothing (suc at) (b ∷ bs))
  where
    go : (t : Bool) → suc (suc (length bs)) ≤ length (pick t [] (a ∷ front_bytes (b ∷ bs)))
        → (suc (length bs) ≤ length (front_bytes (b ∷ bs)) → behind_from (suc at) (b ∷ bs) ≡ no_text)
        → pick t (record { start = suc (suc at); bytes = bs }) (behind_from (suc at) (b ∷ bs)) ≡ no_text
    go true h e = absurd (not-suc-le-zero h)
    go false h e = e (le_of_suc-le-suc h)

-- the same, at the place p of the signs in a file's head, or p its end
module _ (s : List ℕ) (at p : ℕ) (from : at ≤ length s) (place : p ≡ at + length (front_bytes (drop at s))) where
  left : length (drop at s) ≡ length s - at
  left = length-drop at s

  pub percents_from : at ≤ p
  percents_from = omega arith

  pub percents_inside : p ≤ length s
  percents_inside = omega (arith, no_longer (drop at s), left)

  pub percents_whole : p < length s → p + 2 ≤ length s
  percents_whole h = omega (arith, whole (drop at s) (omega (arith, left)), left)

  pub front_is : front_bytes (drop at s) ≡ take (p - at) (drop at s)
  front_is =
      let k : p - at ≡ length (front_bytes (drop at s)) = omega arith in
      sym (first (drop at s)) ∙ ap (λ (n : ℕ). take n (drop at s)) (sym k)

  -- it lies in the head up to p
  pub front_head : front_bytes (drop at s) ≡ drop at (take p s)
  front_head =
      let m : length (take p s) ≡ p = length-take-le p s percents_inside in
      let l : length (drop at (take p s)) ≡ p - at = length-drop at (take p s) ∙ ap (λ (n : ℕ). n - at) m in
      front_is
      ∙ ap (λ (l : List ℕ). take (p - at) (drop at l)) (sym (take-append-drop p s))
      ∙ ap (take (p - at)) (drop-append-le at (take p s) (drop p s) (omega arith))
      ∙ take_at (drop at (take p s)) (drop p s) (p - at) l

  pub behind_is : p < length s → behind_from at (drop at s) ≡ record { start = p + 2; bytes = drop (p + 2) s }
  behind_is h =
      let n : ℕ = length (front_bytes (drop at s)) in
      let k : at + (n + 2) ≡ p + 2 = omega arith in
      behind_signs at (drop at s) (omega (arith, left))
      ∙ ap (λ (q : ℕ). record { start = q + 2; bytes = drop (n + 2) (drop at s) }) (sym place)
      ∙ ap (λ (l : List ℕ). record { start = p + 2; bytes = l }) (drop-drop (n + 2) at s ∙ ap (λ (q : ℕ). drop q s) k)

  pub behind_none : length s ≤ p → behind_from at (drop at s) ≡ no_text
  behind_none h = behind_nothing at (drop at s) (omega (arith, left))

  -- the trimmed texts of both sides
  pub front_trimmed : trim_from at (front_bytes (drop at s)) ≡ trim_from at (drop at (take p s))
  front_trimmed = ap (trim_from at) front_head

  pub behind_trimmed : trim (behind_from at (drop at s)) ≡ trim_from (p + 2) (drop (p + 2) s)
  unfolding trim_from
  behind_trimmed = go (ltb p (length s)) refl
    where
      go : (t : Bool) → ltb p (length s) ≡ t → trim (behind_from at (drop at s)) ≡ trim_from (p + 2) (drop (p + 2) s)
      go true h = ap trim (behind_is (ltb-true p (length s) h))
      go false h =
          let k : length s ≤ p = ltb-false p (length s) h in
          let l : length s ≤ p + 2 = omega arith in
          ap trim (behind_none k) ∙ ap (trim_from (p + 2)) (sym (drop_of_length-le s l))
