-- A tag table by its place in document 01's order: what its count on a sheet tells, of any sheet and of a survey's.
use Prim.Native.Nat.{ℕ, zero, suc, ◌-◌, ◌≤◌}
use native.Mathlib.Omega.{arith}
use mathlib.Core.Path.{◌≡◌, refl, sym, ap, ◌∙◌, subst}
use mathlib.Core.Bool.{Bool, true, false}
use Rattle.std.specs.Prelude.{Option, None, Some}
use mathlib.Core.List.{List}
use lib.ListN.{get_or}
use Rattle.rules.specs.Lists.{pick, between}
use Rattle.rules.specs.Tables.{Row, Tables, table, rows_of, there, word_tags, sec_edge_tags}
use Rattle.rules.specs.Sheets.{row_place, count, table_sheet}
use Rattle.rules.specs.Survey.{survey_of}
use Rattle.table_sheet.specs.SheetRows.{rows_from, tables_in}
use Rattle.table_sheet.proofs.OpenSheets.{count_of_table}
use Rattle.citations.proofs.TablesThere.{table_absent, table_there}
use Rattle.rules.specs.Explaining.{tag_rows}
use Rattle.rules.specs.ExplainingRules.{TagsApart, TagTablePlace}
use Rattle.explaining.specs.Promise.{tag_count, Telling}
use Rattle.rules.proofs.TagsDiffer.{tags_differ}
use Rattle.rules.proofs.ExplainedExactly.{between_named}
use Rattle.citations.proofs.SurveyedTables.{have_room, sheet_tabled, tables_back}

-- ---- any sheet

module _ (file sheet : List ℕ) (place : ℕ) where
  pub in_order_lem : (tag_count sheet place ≡ 0 → ⊥) → TagTablePlace (place - 1) place
  in_order_lem d = by (between (suc word_tags) (suc sec_edge_tags) place) refl d
    where
      by : (b : Bool) → between (suc word_tags) (suc sec_edge_tags) place ≡ b → (pick b (get_or sheet (place - 1) 0) 0 ≡ 0 → ⊥) → TagTablePlace (place - 1) place
      by true e d = between_named place e
      by false e d = absurd (d refl)

  pub uncounted : tag_count sheet place ≡ 0 → tag_rows place (tables_in file sheet) ≡ None
  uncounted e = by (between (suc word_tags) (suc sec_edge_tags) place) refl e
    where
      by : (b : Bool) → between (suc word_tags) (suc sec_edge_tags) place ≡ b → pick b (get_or sheet (place - 1) 0) 0 ≡ 0 → pick b (table (place - 1) (tables_in file sheet)) None ≡ None
      by true q e = let t = between_named place q in table_absent file sheet (place - 1) (omega (arith, t.first, t.last)) e
      by false q e = refl

  pub its_count : (tag_count sheet place ≡ 0 → ⊥) → tag_count sheet place ≡ get_or sheet (place - 1) 0
  its_count d = by (between (suc word_tags) (suc sec_edge_tags) place) d
    where
      by : (b : Bool) → (pick b (get_or sheet (place - 1) 0) 0 ≡ 0 → ⊥) → pick b (get_or sheet (place - 1) 0) 0 ≡ get_or sheet (place - 1) 0
      by true d = refl
      by false d = absurd (d refl)

  pub its_rows : (tag_count sheet place ≡ 0 → ⊥) → tag_rows place (tables_in file sheet) ≡ Some (rows_from file sheet (row_place (place - 1) 0) (tag_count sheet place - 1))
  its_rows d = by (between (suc word_tags) (suc sec_edge_tags) place) refl d
    where
      by : (b : Bool) → between (suc word_tags) (suc sec_edge_tags) place ≡ b → (pick b (get_or sheet (place - 1) 0) 0 ≡ 0 → ⊥)
          → pick b (table (place - 1) (tables_in file sheet)) None ≡ Some (rows_from file sheet (row_place (place - 1) 0) (pick b (get_or sheet (place - 1) 0) 0 - 1))
      by true q d = let t = between_named place q in table_there file sheet (place - 1) (omega (arith, t.first, t.last)) d
      by false q d = absurd (d refl)

no_rows_apart : (file sheet : List ℕ) (at : ℕ) → TagsApart (rows_from file sheet at 0)
unfolding rows_from
no_rows_apart file sheet at = tt

-- ---- a survey's sheet

module _ (file : List ℕ) where
  abbrev ts : Tables
  ts = (survey_of file).tables

  sheet_apart : (n : ℕ) → word_tags ≤ n → n ≤ sec_edge_tags → TagsApart (rows_from file (table_sheet ts) (row_place n 0) (get_or (table_sheet ts) n 0 - 1))
  sheet_apart n low high = by (get_or (table_sheet ts) n 0) refl
    where
      by : (c : ℕ) → get_or (table_sheet ts) n 0 ≡ c → TagsApart (rows_from file (table_sheet ts) (row_place n 0) (c - 1))
      by zero e = no_rows_apart file (table_sheet ts) (row_place n 0)
      by (suc rows) e =
          let d : get_or (table_sheet ts) n 0 ≡ 0 → ⊥ = λ z. omega (arith, e, z) in
          let same : Some (rows_from file (table_sheet ts) (row_place n 0) (get_or (table_sheet ts) n 0 - 1)) ≡ table n ts = sym (table_there file (table_sheet ts) n (omega (arith, high)) d) ∙ ap (table n) (tables_back file) in
          subst (λ (c : ℕ). TagsApart (rows_from file (table_sheet ts) (row_place n 0) (c - 1))) e
          (subst (λ (o : Option (List Row)). TagsApart (rows_of o)) (sym same) (tags_differ file n low))

  pub sheet_tells : Telling file (table_sheet ts)
  sheet_tells = record { tabled = sheet_tabled file; apart = sheet_apart }

  count_there : (place : ℕ) → tag_count (table_sheet ts) place ≡ count (tag_rows place ts)
  count_there place = by (between (suc word_tags) (suc sec_edge_tags) place) refl
    where
      by : (b : Bool) → between (suc word_tags) (suc sec_edge_tags) place ≡ b → pick b (get_or (table_sheet ts) (place - 1) 0) 0 ≡ count (pick b (table (place - 1) ts) None)
      by true q = let t = between_named place q in count_of_table ts (place - 1) (omega (arith, t.first, t.last, (have_room file).seven))
      by false q = refl

  there_counted : (o : Option (List Row)) → (count o ≡ 0 → ⊥) → there o ≡ true
  there_counted None d = absurd (d refl)
  there_counted (Some rs) d = refl

  not_counted : (o : Option (List Row)) → count o ≡ 0 → there o ≡ false
  not_counted None e = refl
  not_counted (Some rs) e = absurd (omega (arith, e))

  pub file_has : (place : ℕ) → (tag_count (table_sheet ts) place ≡ 0 → ⊥) → there (tag_rows place ts) ≡ true
  file_has place d = there_counted (tag_rows place ts) (λ e. d (count_there place ∙ e))

  pub file_lacks : (place : ℕ) → tag_count (table_sheet ts) place ≡ 0 → there (tag_rows place ts) ≡ false
  file_lacks place e = not_counted (tag_rows place ts) (sym (count_there place) ∙ e)
