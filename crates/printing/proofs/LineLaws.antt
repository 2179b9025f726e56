-- A line is its first column, the further ones, each behind what parts it, and the newline. Document 01, "Tidy text".
use Prim.Native.Nat.{ℕ}
use native.Mathlib.Omega.{arith}
use mathlib.Core.Path.{◌≡◌, refl, sym, ap, ◌∙◌}
use mathlib.Core.List.{List, [], ◌∷◌, ◌++◌, append_assoc, append-nil}
use lib.ListN.{length}
use Rattle.rules.specs.Bytes.{newline, percents}
use Rattle.rules.specs.Tidy.{space, parted, keyword_line, commented}
use Rattle.printing.specs.Further.{further, text_of}

pub parted_is : (by : ℕ) (x : List ℕ) (xs : List (List ℕ)) → x ++ further by xs ++ (newline ∷ []) ≡ parted by (x ∷ xs)
unfolding parted
parted_is by x [] = append_assoc x [] (newline ∷ [])
parted_is by x (y ∷ ys) =
    append_assoc x (by ∷ y ++ further by ys) (newline ∷ [])
    ∙ ap (λ (l : List ℕ). x ++ (by ∷ l)) (parted_is by y ys)

pub further_append : (by : ℕ) (xs ys : List (List ℕ)) → further by xs ++ further by ys ≡ further by (xs ++ ys)
further_append by [] ys = refl
further_append by (x ∷ xs) ys =
    append_assoc (by ∷ x) (further by xs) (further by ys) ∙ ap (λ (l : List ℕ). (by ∷ x) ++ l) (further_append by xs ys)

-- an empty comment is none
pub no_comment : (by : ℕ) (text : List ℕ) → length text ≡ 0 → [] ≡ further by (commented (text_of text))
no_comment by [] e = refl
no_comment by (x ∷ xs) e = absurd (omega (arith, e))

pub some_comment : (by : ℕ) (text : List ℕ) → (length text ≡ 0 → ⊥) → (by ∷ percents) ++ (by ∷ text) ≡ further by (commented (text_of text))
some_comment by [] e = absurd (e refl)
some_comment by (b ∷ bs) e = ap (λ (l : List ℕ). (by ∷ percents) ++ (by ∷ b ∷ l)) (sym (append-nil bs))

pub keyword_line_lem : (keyword name : List ℕ) → keyword ++ (space ∷ name) ++ (newline ∷ []) ≡ keyword_line (keyword ∷ name ∷ [])
keyword_line_lem keyword name =
    ap (λ (l : List ℕ). keyword ++ (space ∷ l) ++ (newline ∷ [])) (sym (append-nil name)) ∙ parted_is space keyword (name ∷ [])
