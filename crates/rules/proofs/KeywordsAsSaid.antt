-- The keyword lines of the format and of tables, and the end of a sentence, are granted exactly if they are as the grammar
-- says. Rule by rule.
use Prim.Native.Nat.{ℕ, zero, suc, ◌≤◌, ◌<◌}
use native.Mathlib.Omega.{arith}
use mathlib.Core.Path.{◌≡◌, refl, sym, ap, ◌∙◌, subst}
use mathlib.Core.Logic.{inr}
use mathlib.Core.Bool.{Bool, true, false, false≢true, not, ◌||◌}
use Rattle.std.specs.Prelude.{Option, None, Some}
use mathlib.Core.List.{List, [], ◌∷◌, map}
use lib.ListN.{length, get_or}
use lib.Dec.{ltb, eqb}
use borrow.Author.Tests.{le-ltb, eq-eqb, eqb-true, not-true}
use Rattle.rules.specs.Lists.{pick, bytes}
use Rattle.rules.specs.Bytes.{white}
use Rattle.rules.specs.Texts.{Text}
use Rattle.rules.specs.Columns.{Column, columns_from, columns, written, texts}
use Rattle.rules.specs.Numbers.{format_number, number, value}
use Rattle.rules.specs.Tables.{Tables, table_names, table_named, present}
use Rattle.rules.specs.Keywords.{format_of, fresh, table_opened, itself, table_ended, leading_white, first_column}
use Rattle.rules.specs.Sentences.{Sentence}
use Rattle.rules.specs.Phases.{Phase, Answer, next}
use Rattle.rules.specs.GrammarColumns.{Columns}
use Rattle.rules.proofs.ColumnsSaid.{columns_said, said_columns}
use Rattle.rules.proofs.BareColumns.{all_columns, column_at}
use Rattle.rules.specs.GrammarTables.{Names}
use Rattle.rules.specs.Grammar.{FormatFits}
use Rattle.rules.proofs.PlaceFree.{column_there, count_columns}
use Rattle.rules.proofs.BytesAsSaid.{Started}
use Rattle.rules.proofs.SaidOfLists.{or_both_ways, not_both_ways}
use Rattle.rules.proofs.NumeralsAsSaid.{number_said}
use Rattle.rules.proofs.TestsAsFacts.{good_some, some_good, some_value}
use Rattle.rules.proofs.TablesAsSaid.{named_is, is_named}
use Rattle.rules.proofs.LineByLine.{Through, through_held, held_through}

-- ---- the first column

pub first_starts : (line : Text) → 1 ≤ length (first_column line).bytes → Started line.bytes
unfolding first_column columns_from
first_starts line h = by line.bytes h
  where
    by : (l : List ℕ) → 1 ≤ length (first_column (record { start = line.start; bytes = l })).bytes → Started l
    by [] h = absurd (omega arith)
    by (b ∷ bs) h = white_or_not (white b) refl
      where
        white_or_not : (t : Bool) → white b ≡ t → not (white b) ≡ true
        white_or_not true e = absurd (omega (arith, ap (λ (t : Bool). length (pick t (record { start = 0; bytes = [] }) (written (columns_from line.start (b ∷ bs)) 0)).bytes) e, h))
        white_or_not false e = ap not e

pub starts_first : (line : Text) → Started line.bytes → (first_column line).bytes ≡ column_at 0 line.bytes
unfolding first_column
starts_first line s = by line.bytes s ∙ column_there line 0
  where
    by : (l : List ℕ) → Started l → (pick (leading_white l) (record { start = 0; bytes = [] }) (written (columns line) 0)).bytes ≡ (written (columns line) 0).bytes
    by [] e = absurd (false≢true e)
    by (b ∷ bs) e = rw (not-true (white b) e)

-- ---- two columns

pub column_of_all : (cs : List Column) (n : ℕ) → get_or (map (λ (t : Text). t.bytes) (texts cs)) n [] ≡ (written cs n).bytes
column_of_all [] n = refl
column_of_all (c ∷ cs) zero = refl
column_of_all (c ∷ cs) (suc n) = column_of_all cs n

two : (xs : List (List ℕ)) → length xs ≡ 2 → xs ≡ get_or xs 0 [] ∷ get_or xs 1 [] ∷ []
two [] e = absurd (omega (arith, e))
two (x ∷ []) e = absurd (omega (arith, e))
two (x ∷ y ∷ []) e = refl
two (x ∷ y ∷ z ∷ xs) e = absurd (omega (arith, e))

module _ (line : Text) where
  abbrev all : List (List ℕ)
  all = all_columns line.bytes

  pub two_columns : eqb (length (columns line)) 2 ≡ true → all_columns line.bytes ≡ column_at 0 line.bytes ∷ (written (columns line) 1).bytes ∷ []
  two_columns e =
      two all (sym (count_columns line) ∙ eqb-true (length (columns line)) 2 e)
      ∙ ap (λ (x : List ℕ). x ∷ get_or all 1 [] ∷ []) (column_of_all (columns_from 0 line.bytes) 0)
      ∙ ap (λ (x : List ℕ). column_at 0 line.bytes ∷ x ∷ []) (column_of_all (columns_from 0 line.bytes) 1 ∙ sym (column_there line 1))

  module _ (keyword name : List ℕ) (c : Columns line.bytes (keyword ∷ name ∷ [])) where
    its_columns : all_columns line.bytes ≡ keyword ∷ name ∷ []
    its_columns = said_columns line.bytes (keyword ∷ name ∷ []) c

    pub columns_two : length (columns line) ≡ 2
    columns_two = count_columns line ∙ ap length its_columns

    pub keyword_first : column_at 0 line.bytes ≡ keyword
    keyword_first = sym (column_of_all (columns_from 0 line.bytes) 0) ∙ ap (λ (xs : List (List ℕ)). get_or xs 0 []) its_columns

    pub name_second : (written (columns line) 1).bytes ≡ name
    name_second = column_there line 1 ∙ sym (column_of_all (columns_from 0 line.bytes) 1) ∙ ap (λ (xs : List (List ℕ)). get_or xs 1 []) its_columns

-- ---- lines

module _ (K : Phase → List Sentence → Type 0) (out : List Sentence) (line : Text) where
  pub format_granted : (f : ℕ → Answer) → column_at 0 line.bytes ≡ bytes "#FORMAT" → Through K out (next f (format_of line)) → (n : ℕ) × (FormatFits line.bytes n × Through K out (f n))
  unfolding format_of
  format_granted f q g =
      let h = through_held K out f _ _ g in
      let n = number format_number (written (columns line) 1).bytes in (
        value n,
        (
          record {
            number_text = (written (columns line) 1).bytes;
            columns = columns_said line.bytes (bytes "#FORMAT" ∷ (written (columns line) 1).bytes ∷ []) (two_columns line h.0.0 ∙ ap (λ (x : List ℕ). x ∷ (written (columns line) 1).bytes ∷ []) q);
            number_written = (number_said format_number (written (columns line) 1).bytes (value n)).0 (good_some n h.0.1.0);
            three = eqb-true (value n) 3 h.0.1.1.0;
          },
          h.1,
        ),
      )

  pub format_grants : (f : ℕ → Answer) (format : ℕ) → FormatFits line.bytes format → Through K out (f format) → Through K out (next f (format_of line))
  unfolding format_of
  format_grants f format t goes_on =
      let n = number format_number (written (columns line) 1).bytes in
      let e : n ≡ Some format = ap (number format_number) (name_second line (bytes "#FORMAT") t.number_text t.columns) ∙ (number_said format_number t.number_text format).1 t.number_written in
      let v : value n ≡ format = some_value n format e in
      held_through K out f _ _ (
        eq-eqb (length (columns line)) 2 (columns_two line (bytes "#FORMAT") t.number_text t.columns),
        (some_good n format e, (eq-eqb (value n) 3 (v ∙ t.three), tt)),
      )
      (rw v goes_on)

  -- a name where two columns stand
  named : (T : Option ℕ → Bool) → eqb (length (columns line)) 2 ≡ true → (ltb (length (columns line)) 2 || T (table_named (written (columns line) 1))) ≡ true
      → T (table_named (written (columns line) 1)) ≡ true
  named T e h =
      let n : ltb (length (columns line)) 2 ≡ false = le-ltb (length (columns line)) 2 (omega (arith, eqb-true (length (columns line)) 2 e)) in
      sym (ap (λ (b : Bool). b || T (table_named (written (columns line) 1))) n) ∙ h

  pub record TableBegun (f : ℕ → Answer) (T : Tables) : Type 0 where
    pub which : ℕ
    pub one_of_seven : which < 7
    pub names : Names (bytes "#BOT") which line.bytes
    pub new : present which T ≡ true → ⊥
    pub goes_on : Through K out (f which)

  pub opened_granted : (f : ℕ → Answer) (T : Tables) → column_at 0 line.bytes ≡ bytes "#BOT" → Through K out (next f (table_opened T line)) → TableBegun f T
  unfolding table_opened
  opened_granted f T q g =
      let h = through_held K out f _ _ g in
      by (table_named (written (columns line) 1)) refl (named (fresh T) h.0.1.0 h.0.0) (two_columns line h.0.1.0) h.1
    where
      by : (o : Option ℕ) → table_named (written (columns line) 1) ≡ o → fresh T o ≡ true
          → all_columns line.bytes ≡ column_at 0 line.bytes ∷ (written (columns line) 1).bytes ∷ [] → Through K out (f (value o)) → TableBegun f T
      by None e h c g = absurd (false≢true h)
      by (Some n) e h c g =
          let m = named_is (written (columns line) 1) n e in
          record {
            which = n;
            one_of_seven = m.0;
            names = columns_said line.bytes (bytes "#BOT" ∷ get_or table_names n [] ∷ []) (c ∙ ap (λ (x : List ℕ). x ∷ (written (columns line) 1).bytes ∷ []) q ∙ ap (λ (x : List ℕ). bytes "#BOT" ∷ x ∷ []) m.1);
            new = (not_both_ways (present n T)).0 h;
            goes_on = g;
          }

  pub opened_grants : (f : ℕ → Answer) (T : Tables) (n : ℕ) → n < 7 → Names (bytes "#BOT") n line.bytes → (present n T ≡ true → ⊥) → Through K out (f n) → Through K out (next f (table_opened T line))
  unfolding table_opened
  opened_grants f T n l e new goes_on =
      let s = is_named (written (columns line) 1) n l (name_second line (bytes "#BOT") (get_or table_names n []) e) in
      held_through K out f _ _ (
        (or_both_ways (ltb (length (columns line)) 2) (fresh T (table_named (written (columns line) 1)))).1 (inr (ap (fresh T) s ∙ (not_both_ways (present n T)).1 new)),
        (eq-eqb (length (columns line)) 2 (columns_two line (bytes "#BOT") (get_or table_names n []) e), tt),
      )
      (subst (λ (o : Option ℕ). Through K out (f (value o))) (sym s) goes_on)

  pub ended_granted : (f : ℕ → Answer) (n : ℕ) → column_at 0 line.bytes ≡ bytes "#EOT" → Through K out (next f (table_ended n line)) → Names (bytes "#EOT") n line.bytes × Through K out (f n)
  unfolding table_ended
  ended_granted f n q g =
      let h = through_held K out f _ _ g in
      (by (table_named (written (columns line) 1)) refl (named (itself n) h.0.1.0 h.0.0) (two_columns line h.0.1.0), h.1)
    where
      by : (o : Option ℕ) → table_named (written (columns line) 1) ≡ o → itself n o ≡ true
          → all_columns line.bytes ≡ column_at 0 line.bytes ∷ (written (columns line) 1).bytes ∷ [] → Names (bytes "#EOT") n line.bytes
      by None e h c = absurd (false≢true h)
      by (Some m) e h c =
          let s = named_is (written (columns line) 1) m e in
          columns_said line.bytes (bytes "#EOT" ∷ get_or table_names n [] ∷ [])
          (c ∙ ap (λ (x : List ℕ). x ∷ (written (columns line) 1).bytes ∷ []) q
          ∙ ap (λ (x : List ℕ). bytes "#EOT" ∷ x ∷ []) (s.1 ∙ ap (λ (k : ℕ). get_or table_names k []) (sym (eqb-true n m h))))

  pub ended_grants : (f : ℕ → Answer) (n : ℕ) → n < 7 → Names (bytes "#EOT") n line.bytes → Through K out (f n) → Through K out (next f (table_ended n line))
  unfolding table_ended
  ended_grants f n l e goes_on =
      let s = is_named (written (columns line) 1) n l (name_second line (bytes "#EOT") (get_or table_names n []) e) in
      held_through K out f _ _ (
        (or_both_ways (ltb (length (columns line)) 2) (itself n (table_named (written (columns line) 1)))).1 (inr (ap (itself n) s ∙ eq-eqb n n refl)),
        (eq-eqb (length (columns line)) 2 (columns_two line (bytes "#EOT") (get_or table_names n []) e), tt),
      )
      goes_on
