-- What a row's own tests say: reserved tags, flags, descriptions, and which table it is.
use Prim.Native.Nat.{ℕ, zero, suc, ◌≤◌}
use native.Mathlib.Omega.{arith}
use mathlib.Core.Path.{◌≡◌, refl, sym, ap, ◌∙◌}
use mathlib.Core.Logic.{◌⊎◌, inl, inr}
use mathlib.Core.Bool.{Bool, true, false, not, ◌&&◌, ◌||◌}
use mathlib.Core.List.{List, [], ◌∷◌}
use lib.ListN.{length}
use lib.Dec.{eqb}
use borrow.Author.Tests.{ne_eqb, eq-eqb, eqb-true, eqb-false}
use Rattle.rules.specs.Lists.{pick, bytes, same}
use Rattle.rules.specs.Texts.{Text, reads, trim}
use Rattle.rules.specs.Columns.{columns, column}
use Rattle.rules.specs.Numbers.{row_limit}
use Rattle.rules.specs.Tables.{origins, editors, word_tags, Row, dashes, unknown, reserved}
use Rattle.rules.specs.Rows.{tag_row, row_of, own_tag, yes, is_flag}
use Rattle.rules.proofs.BareColumns.{text_behind}
use Rattle.rules.specs.GrammarRows.{RowLine, YesOrNo}
use Rattle.rules.specs.GrammarTables.{Carries, TagTable, OriginTable, EditorTable, RowsFit}
use Rattle.rules.proofs.PlaceFree.{text_there}
use Rattle.rules.proofs.SaidOfLists.{and_both_ways, or_both_ways, not_both_ways}
use Rattle.rules.proofs.TestsAsFacts.{reads_are}

-- ---- reserved tags

no_dashes : unknown ≡ dashes → ⊥
no_dashes e = let z : ◌≡◌ {A = ℕ} 0 1 = cc in omega arith

own_else : (i : ℕ) (t : Text) → own_tag (suc (suc i)) t ≡ not (reserved t)
own_else i t = rw (ne_eqb (suc (suc i)) 0 (λ z. omega arith), ne_eqb (suc (suc i)) 1 (λ z. omega arith))

pub own_carries : (i : ℕ) (t : Text) (row : RowLine) → row.id1 ≡ i → row.first ≡ t.bytes → own_tag i t ≡ true → Carries row
own_carries i t row e q h = by i e h
  where
    by : (i : ℕ) → row.id1 ≡ i → own_tag i t ≡ true → Carries row
    by zero e h =
        let u : row.first ≡ unknown = q ∙ (reads_are unknown t).0 h in
        record { minus = (λ z. u, λ z. e); zero_row = (λ z. absurd (omega (arith, e, z)), λ z. absurd (no_dashes (sym u ∙ z))) }
    by (suc zero) e h =
        let d : row.first ≡ dashes = q ∙ (reads_are dashes t).0 h in
        record { minus = (λ z. absurd (omega (arith, e, z)), λ z. absurd (no_dashes (sym z ∙ d))); zero_row = (λ z. d, λ z. e) }
    by (suc (suc i)) e h =
        let n = (not_both_ways (reserved t)).0 (sym (own_else i t) ∙ h) in
        record {
          minus = (λ z. absurd (omega (arith, e, z)), λ z. absurd (n ((or_both_ways (reads dashes t) (reads unknown t)).1 (inr ((reads_are unknown t).1 (sym q ∙ z))))));
          zero_row = (λ z. absurd (omega (arith, e, z)), λ z. absurd (n ((or_both_ways (reads dashes t) (reads unknown t)).1 (inl ((reads_are dashes t).1 (sym q ∙ z))))));
        }

pub carries_own : (t : Text) (row : RowLine) → row.first ≡ t.bytes → Carries row → own_tag row.id1 t ≡ true
carries_own t row q c = by row.id1 refl
  where
    by : (i : ℕ) → row.id1 ≡ i → own_tag i t ≡ true
    by zero e = (reads_are unknown t).1 (sym q ∙ c.minus.0 e)
    by (suc zero) e = (reads_are dashes t).1 (sym q ∙ c.zero_row.0 e)
    by (suc (suc i)) e = own_else i t ∙ (not_both_ways (reserved t)).1 (λ r. either ((or_both_ways (reads dashes t) (reads unknown t)).0 r))
      where
        either : (reads dashes t ≡ true) ⊎ (reads unknown t ≡ true) → ⊥
        either (inl d) = let z = c.zero_row.1 (q ∙ (reads_are dashes t).0 d) in omega arith
        either (inr u) = let z = c.minus.1 (q ∙ (reads_are unknown t).0 u) in omega arith

-- ---- flags and descriptions

-- a flag's number as read
abbrev pub flag_read : ℕ → Text → ℕ
flag_read n t = pick (eqb n word_tags && reads yes t) 1 0

no_yes : (t : Text) → t.bytes ≡ bytes "N" → reads yes t ≡ false
no_yes t e = ap (λ (xs : List ℕ). same xs yes) e

pub flag_said : (n : ℕ) (t : Text) → n ≡ word_tags → (not (eqb n word_tags) || is_flag t) ≡ true → YesOrNo (t.bytes ∷ []) (flag_read n t)
flag_said n t w h = by ((or_both_ways (reads (bytes "Y") t) (reads (bytes "N") t)).0 (sym (ap (λ (b : Bool). not b || is_flag t) e) ∙ h))
  where
    e : eqb n word_tags ≡ true
    e = eq-eqb n word_tags w

    by : (reads (bytes "Y") t ≡ true) ⊎ (reads (bytes "N") t ≡ true) → YesOrNo (t.bytes ∷ []) (flag_read n t)
    by (inl y) = inl (ap (λ (x : List ℕ). x ∷ []) ((reads_are (bytes "Y") t).0 y), ap (λ (b : Bool). pick b 1 0) ((and_both_ways (eqb n word_tags) (reads yes t)).1 (e, y)))
    by (inr y) =
        let q = (reads_are (bytes "N") t).0 y in
        inr (ap (λ (x : List ℕ). x ∷ []) q, ap (λ (b : Bool). pick b 1 0) (ap (λ (b : Bool). b && reads yes t) e ∙ no_yes t q))

pub unflagged : (n : ℕ) (t : Text) → (n ≡ word_tags → ⊥) → flag_read n t ≡ 0
unflagged n t w = ap (λ (b : Bool). pick (b && reads yes t) 1 0) (ne_eqb n word_tags w)

module _ (n : ℕ) (t : Text) (flag : ℕ) (said : n ≡ word_tags → YesOrNo (t.bytes ∷ []) flag) where
  pub flag_held : (not (eqb n word_tags) || is_flag t) ≡ true
  flag_held = by (eqb n word_tags) refl
    where
      either : YesOrNo (t.bytes ∷ []) flag → is_flag t ≡ true
      either (inl y) = (or_both_ways (reads (bytes "Y") t) (reads (bytes "N") t)).1 (inl ((reads_are (bytes "Y") t).1 (cc)))
      either (inr y) = (or_both_ways (reads (bytes "Y") t) (reads (bytes "N") t)).1 (inr ((reads_are (bytes "N") t).1 (cc)))

      by : (b : Bool) → eqb n word_tags ≡ b → (not b || is_flag t) ≡ true
      by true e = either (said (eqb-true n word_tags e))
      by false e = refl

  pub flag_is : ((n ≡ word_tags → ⊥) → flag ≡ 0) → flag_read n t ≡ flag
  flag_is none = by (eqb n word_tags) refl
    where
      either : YesOrNo (t.bytes ∷ []) flag → pick (reads yes t) 1 0 ≡ flag
      either (inl y) = ap (λ (b : Bool). pick b 1 0) ((reads_are yes t).1 (cc)) ∙ sym y.1
      either (inr y) = ap (λ (b : Bool). pick b 1 0) (no_yes t (cc)) ∙ sym y.1

      by : (b : Bool) → eqb n word_tags ≡ b → pick (b && reads yes t) 1 0 ≡ flag
      by true e = either (said (eqb-true n word_tags e))
      by false e = sym (none (eqb-false n word_tags e))

module _ (line : Text) where
  pub description_there : (n : ℕ)
      → (trim (pick (eqb n word_tags) (column (columns line) 2) (column (columns line) 1)).after).bytes
      ≡ text_behind (pick (eqb n word_tags) 2 1) line.bytes
  description_there n = by (eqb n word_tags)
    where
      by : (b : Bool) → (trim (pick b (column (columns line) 2) (column (columns line) 1)).after).bytes ≡ text_behind (pick b 2 1) line.bytes
      by true = text_there line 2
      by false = text_there line 1

-- ---- which table it is

pub tags_row : (n : ℕ) (rs : List Row) (line : Text) → row_of (suc (suc n)) rs line ≡ tag_row (suc (suc n)) rs line
tags_row n rs line = rw (ne_eqb (suc (suc n)) 0 (λ z. omega arith), ne_eqb (suc (suc n)) 1 (λ z. omega arith))

pub rows_of_origins : (rows : List RowLine) → length rows ≤ row_limit → OriginTable rows → RowsFit origins rows
rows_of_origins rows few t =
    record { at_most = few; of_origins = λ e. t; of_editors = λ e. absurd (omega (arith, e)); of_tags = λ h. absurd (omega (arith, h)) }

pub rows_of_editors : (rows : List RowLine) → length rows ≤ row_limit → EditorTable rows → RowsFit editors rows
rows_of_editors rows few t =
    record { at_most = few; of_origins = λ e. absurd (omega (arith, e)); of_editors = λ e. t; of_tags = λ h. absurd (omega (arith, h)) }

pub rows_of_tags : (n : ℕ) (rows : List RowLine) → length rows ≤ row_limit → TagTable (suc (suc n)) rows → RowsFit (suc (suc n)) rows
rows_of_tags n rows few t =
    record { at_most = few; of_origins = λ e. absurd (omega (arith, e)); of_editors = λ e. absurd (omega (arith, e)); of_tags = λ h. t }

pub no_rows : (n : ℕ) → RowsFit n []
no_rows n =
    record {
      at_most = omega arith;
      of_origins = λ e. record { each_row = tt; ids_differ = tt };
      of_editors = λ e. record { each_row = tt; ids_differ = tt };
      of_tags = λ h. record { each_row = tt; in_order = record { minus_given = false; zero_given = false; others = 0; are = refl }; carried = tt; tags_differ = tt };
    }
