-- What an opening that is promised so leaves: 0 with the sentence's sheet and list, and then there is such a sentence.
use Prim.Native.Nat.{ℕ, zero, suc}
use native.Mathlib.Omega.{arith}
use mathlib.Core.Path.{◌≡◌, refl, sym, ◌∙◌}
use mathlib.Core.Bool.{Bool, true, false}
use Rattle.std.specs.Prelude.{Option, None, Some}
use mathlib.Core.List.{List}
use lib.ListN.{length}
use lib.Dec.{eqb}
use Rattle.rules.specs.Lists.{pick}
use Rattle.rules.specs.Numbers.{edge_limit}
use Rattle.rules.specs.Sentences.{Sentence}
use Rattle.rules.specs.Sheets.{sentence_sheet, edge_list}
use Rattle.rules.specs.Survey.{Survey, survey_of, file_fits}
use Rattle.rules.specs.Index.{beginning}
use Rattle.rules.specs.SentenceFrom.{sentence_from}
use Rattle.rules.specs.Opening.{Opened, OpenedAt, sentence_of, all_fit, sentence_fits, opened, opened_as, after_opening, after_opening_at}
use Rattle.rules.specs.Layout.{flat_list}
use Rattle.rules.proofs.AtIndex.{at_index, not_at_index}
use Rattle.opening.specs.FlatLists.{edge_records, flat_size}
use Rattle.opening.specs.Promise.{OpenedFlat, flattened, after_opening_flat, OpenedFlatAt, flattened_at, after_opening_flat_at}

pub record Given (o : Option Sentence) (sheet edges : List ℕ) : Type 0 where
  pub s : Sentence
  pub its : o ≡ Some s
  pub sheet_is : sheet ≡ sentence_sheet s
  pub edges_are : edges ≡ flat_list (edge_list s)

-- ---- by the sentence's number

zero_opened : (v : Survey) (t u w : Bool) (o : Option Sentence) (two one : Opened) (other : OpenedFlat)
    → two.answer ≡ 2 → one.answer ≡ 1 → other.answer ≡ 1
    → (pick t (flattened (pick u (pick w (opened v o) two) one)) other).answer ≡ 0
    → Given o (pick t (flattened (pick u (pick w (opened v o) two) one)) other).sheet (pick t (flattened (pick u (pick w (opened v o) two) one)) other).edges
zero_opened v true true true None two one other a b c e = absurd (omega (arith, e))
zero_opened v true true true (Some s) two one other a b c e = record { s = s; its = refl; sheet_is = refl; edges_are = refl }
zero_opened v true true false o two one other a b c e = absurd (omega (arith, e, a))
zero_opened v true false w o two one other a b c e = absurd (omega (arith, e, b))
zero_opened v false u w o two one other a b c e = absurd (omega (arith, e, c))

module _ (file : List ℕ) (n : ℕ) (tables seen sheet edges : List ℕ) where
  pub zero_gives : (after_opening_flat file n tables seen sheet edges).answer ≡ 0
      → Given (sentence_of n (survey_of file).handed) (after_opening_flat file n tables seen sheet edges).sheet (after_opening_flat file n tables seen sheet edges).edges
  unfolding after_opening_flat after_opening
  zero_gives e =
      zero_opened (survey_of file) (eqb (length edges) flat_size) (all_fit tables seen sheet (edge_records edge_limit edges)) (file_fits file) (sentence_of n (survey_of file).handed)
      _ _ _ refl refl refl e

-- the sentence of a number begins at a place
pub begins_somewhere : (file : List ℕ) (n : ℕ) (s : Sentence) → sentence_of n (survey_of file).handed ≡ Some s → (at : ℕ) × (sentence_from file at ≡ Some s)
begins_somewhere file n s e = by (beginning (survey_of file).handed n) refl
  where
    by : (k : ℕ) → beginning (survey_of file).handed n ≡ k → (at : ℕ) × (sentence_from file at ≡ Some s)
    by zero q = absurd (let l = sym (not_at_index file n q) ∙ e in let z : ◌≡◌ {A = ℕ} 0 1 = cc in omega arith)
    by (suc at) q = (at, at_index file n at q ∙ e)

-- ---- by the place of its first line

zero_opened_at : (t u w : Bool) (o : Option Sentence) (two one : OpenedAt) (other : OpenedFlatAt)
    → two.answer ≡ 2 → one.answer ≡ 1 → other.answer ≡ 1
    → (pick t (flattened_at (pick u (pick w (opened_as o) two) one)) other).answer ≡ 0
    → Given o (pick t (flattened_at (pick u (pick w (opened_as o) two) one)) other).sheet (pick t (flattened_at (pick u (pick w (opened_as o) two) one)) other).edges
zero_opened_at true true true None two one other a b c e = absurd (omega (arith, e))
zero_opened_at true true true (Some s) two one other a b c e = record { s = s; its = refl; sheet_is = refl; edges_are = refl }
zero_opened_at true true false o two one other a b c e = absurd (omega (arith, e, a))
zero_opened_at true false w o two one other a b c e = absurd (omega (arith, e, b))
zero_opened_at false u w o two one other a b c e = absurd (omega (arith, e, c))

module _ (file : List ℕ) (at : ℕ) (sheet edges : List ℕ) where
  pub zero_gives_at : (after_opening_flat_at file at sheet edges).answer ≡ 0
      → Given (sentence_from file at) (after_opening_flat_at file at sheet edges).sheet (after_opening_flat_at file at sheet edges).edges
  unfolding after_opening_flat_at after_opening_at
  zero_gives_at e =
      zero_opened_at (eqb (length edges) flat_size) (sentence_fits sheet (edge_records edge_limit edges)) (file_fits file) (sentence_from file at)
      _ _ _ refl refl refl e
