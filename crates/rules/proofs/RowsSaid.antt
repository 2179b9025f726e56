-- A row that is taken is what its line says. By its columns, and by the rules that hold of them.
use Prim.Native.Nat.{ℕ, zero, suc, ◌<◌}
use native.Mathlib.Omega.{arith}
use mathlib.Core.Path.{◌≡◌, refl, sym, ap, subst}
use mathlib.Core.Logic.{inl, inr}
use mathlib.Core.Bool.{Bool, true, false, not, ◌&&◌, ◌||◌}
use Rattle.std.specs.Prelude.{Option, None, Some}
use mathlib.Core.List.{List, [], ◌∷◌}
use lib.ListN.{length}
use lib.Dec.{eqb}
use borrow.Author.Tests.{eqb-true, eqb-false, ne_eqb}
use Rattle.rules.specs.Lists.{pick, bytes}
use Rattle.rules.specs.Texts.{Text, no_text, given, reads, trim_from, trim, front_bytes, in_front, behind}
use Rattle.rules.specs.Columns.{Column, columns, column, written}
use Rattle.rules.specs.Numbers.{origin_id, number, signed_id, value}
use Rattle.rules.specs.Rules.{Rule, broken, unless, checked}
use Rattle.rules.specs.Tables.{Row, word_tags}
use Rattle.rules.specs.Rows.{origin_row, editor_row, yes, is_flag, tag_row, row_of}
use Rattle.rules.specs.Phases.{Answer, refuse, next}
use Rattle.rules.specs.Tidy.{id_digits}
use Rattle.rules.specs.GrammarColumns.{Begins}
use Rattle.rules.specs.AsWritten.{OriginSaid, FlagSaid, TagSaid, TableRowSaid}
use Rattle.rules.proofs.RuleLaws.{none_broken}
use Rattle.rules.proofs.RulesHeld.{Held, held}
use Rattle.rules.proofs.SaidOfLists.{never_both}
use Rattle.rules.proofs.TestsAsFacts.{reads_are, good_some}
use Rattle.rules.proofs.Decimal.{id_one_writing}
use Rattle.rules.proofs.NumbersAgain.{number_again}
use Rattle.rules.proofs.PlaceFree.{column_there, rest_there, count_columns}
use Rattle.rules.proofs.NamesAndNotes.{note_said}
use Rattle.rules.proofs.StrippedTexts.{stripped_said}
use Rattle.rules.proofs.RowsAsRead.{begins_one, begins_two, begins_three}

-- what is made of a line by its rules, if they hold
if_held : (P : Answer → Type 0) → ((r : Rule) → P (refuse r)) → {A : Type 0} (f : A → Answer) (rs : List Rule) (a : A) → (Held rs → P (f a)) → P (next f (checked rs a))
unfolding checked
if_held P bad f rs a p = by (broken rs) refl
  where
    by : (o : Option Rule) → broken rs ≡ o → P (next f (unless o a))
    by None e = p (held rs (none_broken rs e))
    by (Some r) e = bad r

-- a text behind a column says that the column is there
behind_there : (F : Text → Text) → given (F no_text) ≡ false → (cs : List Column) (n : ℕ) → given (F (column cs n).after) ≡ true → n < length cs
behind_there F z [] n g = absurd (never_both (given (F no_text)) g z)
behind_there F z (c ∷ cs) zero g = omega arith
behind_there F z (c ∷ cs) (suc n) g = omega (arith, behind_there F z cs n g)

no_name : given (trim (in_front no_text)) ≡ false
unfolding trim_from front_bytes
no_name = refl

no_text_lem : given (trim no_text) ≡ false
unfolding trim_from
no_text_lem = refl

module _ (line : Text) where
  abbrev cs : List Column
  cs = columns line

  one_column : 0 < length (columns line) → Begins line.bytes ((written (columns line) 0).bytes ∷ []) (column (columns line) 0).after.bytes
  one_column h =
      rw (column_there line 0, rest_there line 0) (begins_one line.bytes (omega (arith, count_columns line)))

  two_columns : 1 < length (columns line) → Begins line.bytes ((written (columns line) 0).bytes ∷ (written (columns line) 1).bytes ∷ []) (column (columns line) 1).after.bytes
  two_columns h =
      rw (column_there line 0, column_there line 1, rest_there line 1) (begins_two line.bytes (omega (arith, count_columns line)))

  three_columns : 2 < length (columns line)
      → Begins line.bytes ((written (columns line) 0).bytes ∷ (written (columns line) 1).bytes ∷ (written (columns line) 2).bytes ∷ []) (column (columns line) 2).after.bytes
  three_columns h =
      rw (column_there line 0, column_there line 1, column_there line 2, rest_there line 2) (begins_three line.bytes (omega (arith, count_columns line)))

  module _ (P : Answer → Type 0) (bad : (r : Rule) → P (refuse r)) (f : Row → Answer) where
    origin_said : (rs : List Row) → ((r : Row) → OriginSaid r line.bytes → P (f r)) → P (next f (origin_row rs line))
    unfolding origin_row
    origin_said rs good =
        if_held P bad f _ _
        (λ h.
        let c = column cs 0 in
        let there = behind_there (λ (t : Text). trim (in_front t)) no_name cs 0 h.0 in
        let id = number origin_id c.text.bytes in
        good _ (record {
          rest = c.after.bytes;
          columns = subst (λ (x : List ℕ). Begins line.bytes (x ∷ []) c.after.bytes) (sym (number_again origin_id c.text.bytes (value id) (good_some id h.1.0))) (one_column there);
          name = front_bytes c.after.bytes;
          note = (behind c.after).bytes;
          parted = note_said c.after;
          its_name = stripped_said (in_front c.after);
          its_note = stripped_said (behind c.after);
          flag = refl;
        }))

    editor_said : (rs : List Row) → ((r : Row) → TagSaid 1 r line.bytes → P (f r)) → P (next f (editor_row rs line))
    unfolding editor_row
    editor_said rs good =
        if_held P bad f _ _
        (λ h.
        let c = column cs 0 in
        let there = behind_there trim no_text_lem cs 1 h.0 in
        let id = signed_id c.text.bytes in
        good _ (record {
          flags = [];
          rest = (column cs 1).after.bytes;
          columns =
              subst (λ (x : List ℕ). Begins line.bytes (x ∷ (written cs 1).bytes ∷ []) (column cs 1).after.bytes) (sym (id_one_writing c.text.bytes (value id) (good_some id h.1.0)))
              (two_columns there);
          flag = inr ((λ e. omega (arith, e)), refl, refl);
          description = stripped_said (column cs 1).after;
        }))

    tag_said : (n : ℕ) (rs : List Row) → ((r : Row) → TagSaid n r line.bytes → P (f r)) → P (next f (tag_row n rs line))
    unfolding tag_row
    tag_said n rs good =
        if_held P bad f _ _
        (λ h.
        let id = signed_id (written cs 0).bytes in
        good _ (by (value id) (eqb n word_tags) refl (id_one_writing (written cs 0).bytes (value id) (good_some id h.1.0)) h.0 h.1.1.1.0))
      where
        flag_said : (u : Bool) → n ≡ 2 → reads yes (written (columns line) 2) ≡ u → (u || reads (bytes "N") (written (columns line) 2)) ≡ true
            → FlagSaid n (pick u 1 0) ((written (columns line) 2).bytes ∷ [])
        flag_said true e q g = inl (e, inl (ap (λ (x : List ℕ). x ∷ []) ((reads_are yes (written (columns line) 2)).0 q), refl))
        flag_said false e q g = inl (e, inr (ap (λ (x : List ℕ). x ∷ []) ((reads_are (bytes "N") (written (columns line) 2)).0 g), refl))

        by : (i : ℕ) (t : Bool) → eqb n word_tags ≡ t → id_digits i ≡ (written (columns line) 0).bytes → given (trim (pick t (column (columns line) 2) (column (columns line) 1)).after) ≡ true
            → (not t || is_flag (written (columns line) 2)) ≡ true
            → TagSaid n
            (record {
              id1 = i;
              first = written (columns line) 1;
              second = trim (pick t (column (columns line) 2) (column (columns line) 1)).after;
              flag = pick (t && reads yes (written (columns line) 2)) 1 0;
            }) line.bytes
        by i true e d g k =
            record {
              flags = (written (columns line) 2).bytes ∷ [];
              rest = (column (columns line) 2).after.bytes;
              columns =
                  subst (λ (x : List ℕ). Begins line.bytes (x ∷ (written (columns line) 1).bytes ∷ (written (columns line) 2).bytes ∷ []) (column (columns line) 2).after.bytes) (sym d)
                  (three_columns (behind_there trim no_text_lem (columns line) 2 g));
              flag = flag_said (reads yes (written (columns line) 2)) (eqb-true n word_tags e) refl k;
              description = stripped_said (column (columns line) 2).after;
            }
        by i false e d g k =
            record {
              flags = [];
              rest = (column (columns line) 1).after.bytes;
              columns =
                  subst (λ (x : List ℕ). Begins line.bytes (x ∷ (written (columns line) 1).bytes ∷ []) (column (columns line) 1).after.bytes) (sym d)
                  (two_columns (behind_there trim no_text_lem (columns line) 1 g));
              flag = inr (eqb-false n word_tags e, refl, refl);
              description = stripped_said (column (columns line) 1).after;
            }

    pub row_said : (n : ℕ) (rs : List Row) → ((r : Row) → TableRowSaid n r line.bytes → P (f r)) → P (next f (row_of n rs line))
    row_said zero rs good = origin_said rs good
    row_said (suc zero) rs good = editor_said rs good
    row_said (suc (suc n)) rs good = rw (ne_eqb (suc (suc n)) 0 (λ e. omega arith), ne_eqb (suc (suc n)) 1 (λ e. omega arith)) (tag_said (suc (suc n)) rs good)
