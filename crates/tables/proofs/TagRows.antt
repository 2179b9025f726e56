-- The rules of a tag's row in their order: what each test told of the line, and the step where the line is left.
use native.Mathlib.Omega.{arith}
use Prim.Native.Nat.{ℕ, ◌-◌, ◌≤◌, ◌<◌}
use mathlib.Core.Path.{◌≡◌, refl, sym, ap, ◌∙◌}
use mathlib.Core.Bool.{Bool, true, false, not, ◌&&◌, ◌||◌}
use Rattle.std.specs.Prelude.{Option, None, Some, Result}
use mathlib.Core.List.{List, [], ◌∷◌}
use lib.Dec.{eqb}
use borrow.Author.Tests.{eq-eqb}
use Rattle.rules.specs.Lists.{pick}
use Rattle.rules.specs.Bytes.{percents}
use Rattle.rules.specs.Texts.{Text, given, at_most, trim, reads}
use Rattle.rules.specs.Columns.{Column, column, written}
use Rattle.rules.specs.Numbers.{signed_id, value}
use Rattle.rules.specs.Tables.{Row, word_tags, tag_limit}
use Rattle.rules.specs.Rows.{yes, is_flag, tag_row}
use Rattle.rules.specs.Lines.{taken_as, row_line}
use Rattle.columns.specs.Listing.{span_of}
use Rattle.columns.specs.Lines.{text_in, columns_in}
use Rattle.columns.specs.declared.listing.Span.{Span}
use Rattle.columns.specs.declared.listed.ListedLine.{ListedLine}
use Rattle.steps.specs.Faults.{refusal}
use Rattle.steps.specs.Steps.{step_of}
use Rattle.steps.specs.declared.Fault.{Fault}
use Rattle.steps.specs.declared.Step.{Step}
use Rattle.tables.specs.RowTexts.{description_column, flag_of}
use Rattle.tables.specs.RowRules.{asked, room_rule, row_step, tag_in_place}
use Rattle.tables.proofs.Asked.{holds, breaks, same_row}
use Rattle.tables.proofs.BegunRows.{text_missing, id_unread, row_begun}
use Rattle.tables.proofs.SpanTests.{some_given, too_long, short_enough}
use Rattle.tables.proofs.RowTexts.{description_behind, tag_there, flag_there, flag_wrong, flag_right, flagged_if_wrong}

abbrev tag_right : ℕ → Text → Bool
tag_right table t = at_most (tag_limit table) t && not (reads percents t)

abbrev with_bytes : Text → List ℕ → Text
with_bytes t bytes = record { start = t.start; bytes = bytes }

module _ (l : ListedLine) (table : ℕ) (rs : List Row) where
  abbrev cs : List Column
  cs = columns_in l

  abbrev flagged : Bool
  flagged = eqb table word_tags

  abbrev rest : Text
  rest = trim (pick flagged (column cs 2) (column cs 1)).after

  abbrev id : Option ℕ
  id = signed_id (written cs 0).bytes

  abbrev step : Result Step Fault
  step = step_of (taken_as row_line (tag_row table rs (text_in l)))

  module _ {described : Span} {k : ℕ} (told : described ≡ span_of (trim (column cs (k - 1)).after)) (from : k ≡ description_column table) where
    rest_is : described ≡ span_of rest
    rest_is =
        told
        ∙ ap (λ (n : ℕ). span_of (trim (column cs (n - 1)).after)) from
        ∙ ap (λ (c : Column). span_of (trim c.after)) (description_behind flagged cs)

    pub none_described : described.len ≡ 0 → refusal 7 l.start ≡ step
    unfolding tag_row
    none_described e = text_missing rest id _ _ _ _ refl rest_is e

    module _ (some : described.len ≡ 0 → ⊥) where
      there : given rest ≡ true
      there = some_given rest rest_is some

      pub tag_column : 1 < l.columns
      tag_column = omega (arith, tag_there cs flagged there, l.listed.counted)

      pub flag_column : table ≡ word_tags → 2 < l.columns
      flag_column e = omega (arith, flag_there cs flagged there (eq-eqb table word_tags e), l.listed.counted)

      module _ {column0 : List ℕ} (column0_is : column0 ≡ (written cs 0).bytes) {read : Option ℕ} (read_told : read ≡ signed_id column0) where
        read_is : read ≡ id
        read_is = read_told ∙ ap (λ (xs : List ℕ). signed_id xs) column0_is

        pub bad_id : read ≡ None → refusal 8 (written cs 0).start ≡ step
        unfolding tag_row
        bad_id e = id_unread rest id _ _ _ _ refl there (sym read_is ∙ e)

        module _ {id1 : ℕ} (good_id : read ≡ Some id1) {tag : List ℕ} (tag_is : tag ≡ (written cs 1).bytes) {first : Span} (first_is : first ≡ span_of (written cs 1)) {right : Bool} (tested : (start : ℕ) → right ≡ tag_right table (record { start = start; bytes = tag })) where
          id_is : id ≡ Some id1
          id_is = sym read_is ∙ good_id

          tag_told : right ≡ tag_right table (written cs 1)
          tag_told = tested (written cs 1).start ∙ ap (λ (xs : List ℕ). tag_right table (with_bytes (written cs 1) xs)) tag_is

          pub bad_tag : right ≡ false → refusal 10 first.start ≡ step
          unfolding tag_row
          bad_tag e =
              ap (λ (p : Span). refusal 10 p.start) first_is
              ∙ sym (row_begun rest id _ _ _ _ refl there id_is ∙ breaks _ _ _ (sym tag_told ∙ e))

          module _ (tag_good : right ≡ true) {flag_read : Option ℕ} (flag_told : flag_read ≡ flag_of flagged (written cs 2)) where
            unflagged : flag_read ≡ None → (not flagged || is_flag (written cs 2)) ≡ false
            unflagged e = flag_wrong _ _ (sym flag_told ∙ e)

            pub bad_flag_column : flag_read ≡ None → 2 < l.columns
            bad_flag_column e = omega (arith, flag_there cs flagged there (flagged_if_wrong flagged (is_flag (written cs 2)) (unflagged e)), l.listed.counted)

            pub bad_flag : flag_read ≡ None → refusal 10 (written cs 2).start ≡ step
            unfolding tag_row
            bad_flag e =
                sym
                (row_begun rest id _ _ _ _ refl there id_is
                ∙ holds _ _ _ (sym tag_told ∙ tag_good)
                ∙ breaks _ _ _ (unflagged e))

            module _ {flag : ℕ} (good_flag : flag_read ≡ Some flag) where
              abbrev flags : Bool
              flags = not flagged || is_flag (written cs 2)

              flag_is : (flags ≡ true) × (pick (flagged && reads yes (written cs 2)) 1 0 ≡ flag)
              flag_is = flag_right _ _ _ (sym flag_told ∙ good_flag)

              pub long_description : 80 < described.len → refusal 10 described.start ≡ step
              unfolding tag_row
              long_description e =
                  ap (λ (p : Span). refusal 10 p.start) rest_is
                  ∙ sym
                  (row_begun rest id _ _ _ _ refl there id_is
                  ∙ holds _ _ _ (sym tag_told ∙ tag_good)
                  ∙ holds _ _ _ flag_is.0
                  ∙ breaks _ _ _ (too_long rest rest_is 80 e))

              module _ (short : described.len ≤ 80) {in_place : Bool} (placed_told : (start : ℕ) → in_place ≡ tag_in_place id1 (record { start = start; bytes = tag }) rs) where
                placed : in_place ≡ tag_in_place (value id) (written cs 1) rs
                placed =
                    placed_told (written cs 1).start
                    ∙ ap (λ (xs : List ℕ). tag_in_place id1 (with_bytes (written cs 1) xs) rs) tag_is
                    ∙ ap (λ (i : ℕ). tag_in_place i (written cs 1) rs) (sym (ap value id_is))

                pub out_of_place : in_place ≡ false → refusal 11 l.start ≡ step
                unfolding tag_row
                out_of_place e =
                    sym
                    (row_begun rest id _ _ _ _ refl there id_is
                    ∙ holds _ _ _ (sym tag_told ∙ tag_good)
                    ∙ holds _ _ _ flag_is.0
                    ∙ holds _ _ _ (short_enough rest rest_is 80 short)
                    ∙ breaks _ _ _ (sym placed ∙ e))

                pub row_left : in_place ≡ true
                    → asked (room_rule (text_in l) rs ∷ []) (row_step (record { id1 = id1; first = first; second = described; flag = flag })) ≡ step
                unfolding tag_row
                row_left e =
                    same_row (λ (i : ℕ). room_rule (text_in l) rs ∷ []) (sym (ap value id_is)) first_is rest_is (sym flag_is.1)
                    ∙ sym
                    (row_begun rest id _ _ _ _ refl there id_is
                    ∙ holds _ _ _ (sym tag_told ∙ tag_good)
                    ∙ holds _ _ _ flag_is.0
                    ∙ holds _ _ _ (short_enough rest rest_is 80 short)
                    ∙ holds _ _ _ (sym placed ∙ e))
