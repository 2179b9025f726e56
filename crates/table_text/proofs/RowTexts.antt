-- The parts of a row's line, and the lines of rows one behind the other.
use Prim.Native.Nat.{ℕ, ◌+◌, ◌<◌}
use mathlib.Core.Path.{◌≡◌, sym, ap, ◌∙◌}
use mathlib.Core.List.{List, [], ◌∷◌, ◌++◌, map, append_assoc}
use lib.ListN.{length, get_or, take}
use lib.Seq.{take-suc}
use native.Mathlib.Numerals.{add-one}
use borrow.Author.Tests.{ne_eqb}
use Rattle.rules.specs.Lists.{joined}
use Rattle.rules.specs.Bytes.{newline}
use Rattle.rules.specs.Tables.{Row, word_tags}
use Rattle.rules.specs.Tidy.{tab, id_digits, flagged, second_text, row_line}
use Rattle.printing.specs.Further.{further}
use Rattle.printing.proofs.LinesMore.{lines_more}
use Rattle.printing.proofs.LineLaws.{parted_is, further_append}

pub no_flag : (n : ℕ) (r : Row) → (n ≡ word_tags → ⊥) → [] ≡ further tab (flagged n r)
no_flag n r h = rw (ne_eqb n word_tags h)

pub row_line_lem : (n : ℕ) (r : Row)
    → id_digits r.id1 ++ (tab ∷ r.first.bytes) ++ further tab (flagged n r) ++ further tab (second_text n r) ++ (newline ∷ []) ≡ row_line n r
row_line_lem n r =
    let id = id_digits r.id1 in
    let first = r.first.bytes in
    ap (λ (l : List ℕ). l ++ (newline ∷ []))
    (ap (λ (l : List ℕ). l ++ further tab (second_text n r)) (append_assoc id (tab ∷ first) (further tab (flagged n r)))
    ∙ append_assoc id ((tab ∷ first) ++ further tab (flagged n r)) (further tab (second_text n r))
    ∙ ap (λ (l : List ℕ). id ++ l) (further_append tab (first ∷ flagged n r) (second_text n r)))
    ∙ parted_is tab id (first ∷ flagged n r ++ second_text n r)

-- one line more
pub row_more : (line : ℕ → List ℕ) (ks : List ℕ) (i : ℕ) → i < length ks
    → joined (map line (take i ks)) ++ line (get_or ks i 0) ≡ joined (map line (take (i + 1) ks))
row_more line ks i h =
    lines_more line (take i ks) (get_or ks i 0)
    ∙ ap (λ (l : List ℕ). joined (map line l)) (sym (take-suc ks i 0 h) ∙ ap (λ (m : ℕ). take m ks) (sym (add-one i)))
