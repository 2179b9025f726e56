-- Which numbers stand in a list that has one number more at its end.
use mathlib.Core.Path.{◌≡◌, refl, ap, ◌∙◌}
use mathlib.Core.Bool.{Bool, true, false, ◌||◌}
use mathlib.Core.List.{List, [], ◌∷◌, ◌++◌}
use Prim.Native.Nat.{ℕ}
use lib.Dec.{eqb}
use borrow.Author.Tests.{eq-eqb, ne_eqb}
use Rattle.rules.specs.Lists.{member}

either_true : (b : Bool) → (b || true) ≡ true
either_true true = refl
either_true false = refl

pub member_added : (n : ℕ) (ns : List ℕ) → member n (ns ++ (n ∷ [])) ≡ true
member_added n [] = rw (eq-eqb n n refl)
member_added n (m ∷ ns) = ap (λ (b : Bool). eqb n m || b) (member_added n ns) ∙ either_true (eqb n m)

pub member_other : (m n : ℕ) (ns : List ℕ) → (m ≡ n → ⊥) → member m (ns ++ (n ∷ [])) ≡ member m ns
member_other m n [] other = rw (ne_eqb m n other)
member_other m n (k ∷ ns) other = ap (λ (b : Bool). eqb m k || b) (member_other m n ns other)
