-- One line more behind others, and one number more behind those counted.
use Prim.Native.Nat.{ℕ, zero, suc, ◌+◌}
use native.Mathlib.Nat.{add-zero}
use native.Mathlib.Numerals.{add-one}
use native.Mathlib.Omega.{arith}
use mathlib.Core.Path.{◌≡◌, sym, ap, ◌∙◌}
use mathlib.Core.List.{List, [], ◌∷◌, ◌++◌, map, append-nil}
use Rattle.rules.specs.Lists.{counting, joined}
use Rattle.rules.proofs.Elements.{map_append, joined_append}

pub lines_more : {A : Type 0} (line : A → List ℕ) (xs : List A) (x : A) → joined (map line xs) ++ line x ≡ joined (map line (xs ++ (x ∷ [])))
lines_more line xs x =
    ap (λ (l : List ℕ). joined (map line xs) ++ l) (sym (append-nil (line x)))
    ∙ sym (joined_append (map line xs) (line x ∷ []))
    ∙ ap joined (sym (map_append line xs (x ∷ [])))

counting_suc : (from k : ℕ) → counting from k ++ ((from + k) ∷ []) ≡ counting from (suc k)
counting_suc from zero = ap (λ (n : ℕ). n ∷ []) (add-zero from)
counting_suc from (suc k) =
    let e : from + suc k ≡ suc from + k = omega arith in
    ap (λ (n : ℕ). from ∷ counting (suc from) k ++ (n ∷ [])) e ∙ ap (λ (l : List ℕ). from ∷ l) (counting_suc (suc from) k)

pub counting_more : (from k : ℕ) → counting from k ++ ((from + k) ∷ []) ≡ counting from (k + 1)
counting_more from k = counting_suc from k ∙ ap (counting from) (sym (add-one k))
