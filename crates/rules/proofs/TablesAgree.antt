-- Two surveys' tables agree, field by field, exactly if they mean the same: table by table, and seven tables are equal if
-- each is.
use Prim.Native.Nat.{ℕ, zero, suc, ◌≤◌, ◌<◌}
use native.Mathlib.Omega.{arith}
use mathlib.Core.Path.{◌≡◌, refl, sym, ap, ◌∙◌}
use mathlib.Core.Logic.{◌↔◌}
use Rattle.std.specs.Prelude.{Option, None, Some}
use mathlib.Core.List.{List, [], ◌∷◌, map}
use lib.ListN.{length, length-map, get_or-map}
use lib.Seq.{ext_get_or}
use Rattle.rules.specs.Lists.{sorted}
use Rattle.rules.specs.Tables.{Tables, Row, table, origins, editors}
use Rattle.rules.specs.Meaning.{bare_row, row_id, meant_rows, by_id, meant_tables}
use Rattle.rules.specs.Same.{InOrder, InAnyOrder, SameRow, Present, TablesAgree}
use Rattle.rules.proofs.AlikeLists.{alike_in_order, alike_in_any_order}
use Rattle.rules.proofs.SameFields.{Any, each_any, same_row}
use Rattle.rules.proofs.NumbersDiffer.{IdsDiffer, TablesDiffer}

-- ---- one table

unlike : (rs : List Row) → ◌≡◌ {A = Option (List Row)} None (Some rs) → ⊥
unlike rs e = let z : ◌≡◌ {A = ℕ} 0 1 = cc in omega arith

both_present : (Alike : List Row → List Row → Type 0) (rs qs xs ys : List Row) → (xs ≡ ys) ↔ Alike rs qs → (Some xs ≡ Some ys) ↔ Alike rs qs
both_present Alike rs qs xs ys exactly = ((λ e. let same : xs ≡ ys = cc in exactly.0 same), (λ a. ap Some (exactly.1 a)))

-- rows as they stand
tag_table : (o p : Option (List Row)) → (meant_rows o ≡ meant_rows p) ↔ Present (InOrder SameRow) o p
tag_table None None = ((λ e. tt), (λ a. refl))
tag_table None (Some qs) = (unlike (map bare_row qs), (λ a. absurd a))
tag_table (Some rs) None = ((λ e. unlike (map bare_row rs) (sym e)), (λ a. absurd a))
tag_table (Some rs) (Some qs) =
    both_present (InOrder SameRow) rs qs (map bare_row rs) (map bare_row qs) (alike_in_order bare_row Any SameRow same_row rs qs (each_any rs) (each_any qs))

-- rows in any order
id_table : (o p : Option (List Row)) → IdsDiffer o → IdsDiffer p → (meant_rows (by_id o) ≡ meant_rows (by_id p)) ↔ Present (InAnyOrder SameRow) o p
id_table None None d c = ((λ e. tt), (λ a. refl))
id_table None (Some qs) d c = (unlike (map bare_row (sorted row_id qs)), (λ a. absurd a))
id_table (Some rs) None d c = ((λ e. unlike (map bare_row (sorted row_id rs)) (sym e)), (λ a. absurd a))
id_table (Some rs) (Some qs) d c =
    both_present (InAnyOrder SameRow) rs qs (map bare_row (sorted row_id rs)) (map bare_row (sorted row_id qs))
    (alike_in_any_order bare_row Any SameRow same_row row_id row_id (λ r. refl) rs qs (each_any rs) (each_any qs) d c)

-- ---- each of the seven

origin_meant : (ts : Tables) → table origins (meant_tables ts) ≡ meant_rows (by_id (table origins ts))
origin_meant [] = refl
origin_meant (o ∷ []) = refl
origin_meant (o ∷ e ∷ ts) = refl

editor_meant : (ts : Tables) → table editors (meant_tables ts) ≡ meant_rows (by_id (table editors ts))
editor_meant [] = refl
editor_meant (o ∷ []) = refl
editor_meant (o ∷ e ∷ ts) = refl

tag_meant : (n : ℕ) (ts : Tables) → table (suc (suc n)) (meant_tables ts) ≡ meant_rows (table (suc (suc n)) ts)
tag_meant n [] = refl
tag_meant n (o ∷ []) = refl
tag_meant n (o ∷ e ∷ ts) = get_or-map meant_rows ts n None

pub length_meant : (ts : Tables) → length (meant_tables ts) ≡ length ts
length_meant [] = refl
length_meant (o ∷ []) = refl
length_meant (o ∷ e ∷ ts) = ap (λ (n : ℕ). suc (suc n)) (length-map ts meant_rows)

module _ (ts us : Tables) (d : TablesDiffer ts) (c : TablesDiffer us) where
  origin_table : (meant_rows (by_id (table origins ts)) ≡ meant_rows (by_id (table origins us))) ↔ Present (InAnyOrder SameRow) (table origins ts) (table origins us)
  origin_table = id_table (table origins ts) (table origins us) d.origin_ids c.origin_ids

  editor_table : (meant_rows (by_id (table editors ts)) ≡ meant_rows (by_id (table editors us))) ↔ Present (InAnyOrder SameRow) (table editors ts) (table editors us)
  editor_table = id_table (table editors ts) (table editors us) d.editor_ids c.editor_ids

  meant_agree : meant_tables ts ≡ meant_tables us → TablesAgree ts us
  meant_agree e =
      record {
        origin_rows = origin_table.0 (sym (origin_meant ts) ∙ ap (table origins) e ∙ origin_meant us);
        editor_rows = editor_table.0 (sym (editor_meant ts) ∙ ap (table editors) e ∙ editor_meant us);
        tag_rows = tags;
      }
    where
      tags : (n : ℕ) → 2 ≤ n → n ≤ 6 → Present (InOrder SameRow) (table n ts) (table n us)
      tags zero h l = absurd (omega arith)
      tags (suc zero) h l = absurd (omega arith)
      tags (suc (suc n)) h l = (tag_table (table (suc (suc n)) ts) (table (suc (suc n)) us)).0 (sym (tag_meant n ts) ∙ ap (table (suc (suc n))) e ∙ tag_meant n us)

  agree_meant : TablesAgree ts us → meant_tables ts ≡ meant_tables us
  agree_meant a =
      let seven = length_meant ts ∙ d.seven in
      ext_get_or None (meant_tables ts) (meant_tables us) (seven ∙ sym (length_meant us ∙ c.seven)) (λ n l. each n (omega (arith, seven)))
    where
      each : (n : ℕ) → n < 7 → table n (meant_tables ts) ≡ table n (meant_tables us)
      each zero l = origin_meant ts ∙ origin_table.1 a.origin_rows ∙ sym (origin_meant us)
      each (suc zero) l = editor_meant ts ∙ editor_table.1 a.editor_rows ∙ sym (editor_meant us)
      each (suc (suc n)) l =
          tag_meant n ts ∙ (tag_table (table (suc (suc n)) ts) (table (suc (suc n)) us)).1 (a.tag_rows (suc (suc n)) (omega arith) (omega arith)) ∙ sym (tag_meant n us)

  pub tables_agree : (meant_tables ts ≡ meant_tables us) ↔ TablesAgree ts us
  tables_agree = (meant_agree, agree_meant)
