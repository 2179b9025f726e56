-- Laws of lists of one width, one behind the other: what stands at a place of them, and what holds of it. By one step along
-- the lists in front.
use Prim.Native.Nat.{ℕ, zero, suc, ◌+◌, ◌*◌, ◌<◌}
use native.Mathlib.Nat.{mul-zero, mul-suc, not-suc-le-zero, le_of_suc-le-suc}
use native.Mathlib.Omega.{arith}
use mathlib.Core.Path.{◌≡◌, refl, sym, ap, ap₂, ◌∙◌}
use mathlib.Core.List.{List, [], ◌∷◌, ◌++◌, map, append_assoc}
use lib.ListN.{length, get_or, length-append}
use lib.Seq.{get_or-append-add}
use Rattle.rules.specs.Lists.{joined, Each}

pub behind_at : {A : Type 0} (xs ys : List A) (at n : ℕ) (d : A) → length xs ≡ at → get_or (xs ++ ys) (at + n) d ≡ get_or ys n d
behind_at xs ys at n d e = ap (λ (m : ℕ). get_or (xs ++ ys) (m + n) d) (sym e) ∙ get_or-append-add xs ys n d

module _ {A B : Type 0} (f : A → List B) where
  pub joined_around : (front : List A) (x : A) (back : List A)
      → joined (map f (front ++ (x ∷ back))) ≡ joined (map f front) ++ (f x ++ joined (map f back))
  joined_around [] x back = refl
  joined_around (y ∷ front) x back =
      ap (λ (l : List B). f y ++ l) (joined_around front x back) ∙ sym (append_assoc (f y) (joined (map f front)) (f x ++ joined (map f back)))

  module _ (width : ℕ) where
    abbrev pub Wide : List A → Type 0
    Wide xs = Each (λ (x : A). length (f x) ≡ width) xs

    pub length_joined : (xs : List A) → Wide xs → length (joined (map f xs)) ≡ width * length xs
    length_joined [] w = sym (mul-zero width)
    length_joined (x ∷ xs) w =
        length-append (f x) (joined (map f xs)) ∙ ap₂ ◌+◌ w.0 (length_joined xs w.1)
        ∙ (let m : width * suc (length xs) ≡ width * length xs + width = mul-suc width (length xs) in
        let g : width + width * length xs ≡ width * suc (length xs) = omega arith in
        g)

    -- the list of x begins behind those in front of it
    pub at_around : (front : List A) (x : A) (back : List A) (rest : List B) (j : ℕ) (d : B) → Wide front
        → get_or (joined (map f (front ++ (x ∷ back))) ++ rest) (width * length front + j) d ≡ get_or (f x ++ (joined (map f back) ++ rest)) j d
    at_around front x back rest j d w =
        ap (λ (l : List B). get_or l (width * length front + j) d)
        (ap (λ (l : List B). l ++ rest) (joined_around front x back)
        ∙ append_assoc (joined (map f front)) (f x ++ joined (map f back)) rest
        ∙ ap (λ (l : List B). joined (map f front) ++ l) (append_assoc (f x) (joined (map f back)) rest))
        ∙ behind_at (joined (map f front)) (f x ++ (joined (map f back) ++ rest)) (width * length front) j d (length_joined front w)

-- what holds of each element holds at each place
pub each_at : {A : Type 0} (P : A → Type 0) (xs : List A) (k : ℕ) (z : A) → Each P xs → k < length xs → P (get_or xs k z)
each_at P [] k z e h = absurd (not-suc-le-zero h)
each_at P (x ∷ xs) zero z e h = e.0
each_at P (x ∷ xs) (suc k) z e h = each_at P xs k z e.1 (le_of_suc-le-suc h)
