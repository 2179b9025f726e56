-- Laws of the numbers counted from a place on, and of a test that is computed at each of them.
use mathlib.Core.Path.{◌≡◌, refl, sym, ap, ◌∙◌, subst}
use mathlib.Core.Bool.{Bool, true, false, ◌&&◌}
use mathlib.Core.List.{List, [], ◌∷◌, ◌++◌, map}
use Prim.Native.Nat.{ℕ, zero, suc, ◌+◌, ◌<◌}
use native.Mathlib.Nat.{add-zero, add-suc, suc-add, zero-add, le_of_suc-le-suc, not-suc-le-zero}
use lib.Dec.{T}
use lib.ListN.{length, get_or}
use Rattle.rules.specs.Lists.{every, counting}

pub length_counting : (from count : ℕ) → length (counting from count) ≡ count
length_counting from zero = refl
length_counting from (suc n) = ap suc (length_counting (suc from) n)

-- one number more
pub counting_more : (from count : ℕ) → counting from count ++ ((from + count) ∷ []) ≡ counting from (suc count)
counting_more from zero = ap (λ (n : ℕ). n ∷ []) (add-zero from)
counting_more from (suc count) = ap (λ (l : List ℕ). from ∷ l) (ap (λ (n : ℕ). counting (suc from) count ++ (n ∷ [])) (add-suc from count ∙ sym (suc-add from count)) ∙ counting_more (suc from) count)

-- what stands at a place of a list that is computed from the counted numbers
pub at_counting {ℓ} : {A : Type ℓ} (f : ℕ → A) (from count k : ℕ) (z : A) → k < count → get_or (map f (counting from count)) k z ≡ f (from + k)
at_counting f from zero k z h = absurd (not-suc-le-zero h)
at_counting f from (suc n) zero z h = ap f (sym (add-zero from))
at_counting f from (suc n) (suc k) z h =
    at_counting f (suc from) n k z (le_of_suc-le-suc h) ∙ ap f (suc-add from k ∙ sym (add-suc from k))

and_first : (a b : Bool) → T (a && b) → T a
and_first true b t = tt
and_first false b t = t

and_second : (a b : Bool) → T (a && b) → T b
and_second true b t = t
and_second false b t = absurd t

counted : (f : ℕ → Bool) (from count : ℕ) → T (every f (counting from count)) → (k : ℕ) → k < count → T (f (from + k))
counted f from zero t k h = absurd (not-suc-le-zero h)
counted f from (suc n) t zero h = subst (λ (m : ℕ). T (f m)) (sym (add-zero from)) (and_first (f from) (every f (counting (suc from) n)) t)
counted f from (suc n) t (suc k) h =
    subst (λ (m : ℕ). T (f m)) (suc-add from k ∙ sym (add-suc from k))
    (counted f (suc from) n (and_second (f from) (every f (counting (suc from) n)) t) k (le_of_suc-le-suc h))

-- a test computed at each number below n holds of each
pub holds_below : (f : ℕ → Bool) (n : ℕ) → T (every f (counting 0 n)) → (k : ℕ) → k < n → T (f k)
holds_below f n t k h = subst (λ (m : ℕ). T (f m)) (zero-add k) (counted f 0 n t k h)
