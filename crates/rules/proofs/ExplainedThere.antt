-- A granted part stands where it says in the file or in the list, of any two files: a description is the second text of a row,
-- and those stand there.
use Prim.Native.Nat.{ℕ, zero, suc, ◌-◌}
use native.Mathlib.Omega.{arith}
use mathlib.Core.Path.{refl}
use mathlib.Core.Bool.{Bool, true, false, ◌&&◌, ◌||◌}
use Rattle.std.specs.Prelude.{Option, None, Some}
use mathlib.Core.List.{List, [], ◌∷◌}
use lib.ListN.{replicate}
use lib.Dec.{eqb}
use Rattle.rules.specs.Lists.{pick, between, same, Each}
use Rattle.rules.specs.Texts.{Text, no_text}
use Rattle.rules.specs.Tables.{Row, Tables, table, rows_of, there, word_tags, sec_edge_tags, dashes, unknown}
use Rattle.rules.specs.Places.{LiesIn, RowLies}
use Rattle.rules.specs.Sheets.{table_sheet_size, seen_set_size}
use Rattle.rules.specs.Survey.{survey_of, sheets_fit, file_fits}
use Rattle.rules.proofs.LiesThere.{lies_there}
use Rattle.rules.specs.Explaining.{tag_rows, described, described_in, description, Explanation, refused_by, part_of, explanation, explained, ExplainingOutcome, after_explaining}
use Rattle.rules.specs.ExplainingRules.{PartStands}

-- ---- one file

module _ (file : List ℕ) where
  pub nothing_lies : LiesIn file no_text
  nothing_lies = record { found = refl; absent = λ e. refl }

  abbrev TextLies : Option Text → Type 0
  TextLies None = Unit {0}
  TextLies (Some t) = LiesIn file t

  picked : (b : Bool) (t : Text) (o : Option Text) → LiesIn file t → TextLies o → TextLies (pick b (Some t) o)
  picked true t o k l = k
  picked false t o k l = l

  described_lies : (tag : List ℕ) (rs : List Row) → Each (RowLies file) rs → TextLies (described tag rs)
  unfolding described
  described_lies tag [] k = picked (same tag dashes || same tag unknown) no_text None nothing_lies tt
  described_lies tag (r ∷ rs) k = picked (same tag r.first.bytes) r.second (described tag rs) k.0.second (described_lies tag rs k.1)

  rows_lie : (ts : Tables) (n : ℕ) → Each (λ (t : Option (List Row)). Each (RowLies file) (rows_of t)) ts → Each (RowLies file) (rows_of (table n ts))
  rows_lie [] n k = tt
  rows_lie (t ∷ ts) zero k = k.0
  rows_lie (t ∷ ts) (suc n) k = rows_lie ts n k.1

  in_table : (tag : List ℕ) (o : Option (List Row)) → Each (RowLies file) (rows_of o) → TextLies (described_in tag o)
  in_table tag None k = tt
  in_table tag (Some rs) k = described_lies tag rs k

  description_lies : (place : ℕ) (tag : List ℕ) → TextLies (description (survey_of file).tables place tag)
  description_lies place tag = by (between (suc word_tags) (suc sec_edge_tags) place)
    where
      by : (b : Bool) → TextLies (described_in tag (pick b (table (place - 1) (survey_of file).tables) None))
      by true = in_table tag (table (place - 1) (survey_of file).tables) (rows_lie (survey_of file).tables (place - 1) (lies_there file).tables)
      by false = tt

-- ---- the file and the list

module _ (file list : List ℕ) where
  refused_stands : (n : ℕ) → PartStands file list (refused_by n)
  refused_stands n = record { in_file = λ e. nothing_lies file; in_list = λ e. nothing_lies list; refused = λ d. (refl, refl) }

  from_file : (o : Option Text) → TextLies file o → PartStands file list (part_of 1 o)
  from_file None k = refused_stands 26
  from_file (Some t) k = record { in_file = λ e. k; in_list = λ e. absurd (omega (arith, e)); refused = λ d. absurd (d refl) }

  from_list : (o : Option Text) → TextLies list o → PartStands file list (part_of 2 o)
  from_list None k = refused_stands 26
  from_list (Some t) k = record { in_file = λ e. absurd (e refl); in_list = λ e. k; refused = λ d. absurd (d refl) }

  module _ (place : ℕ) (tag : List ℕ) where
    explanation_stands : PartStands file list (explanation (survey_of file).tables (survey_of list).tables place tag)
    explanation_stands = by (there (tag_rows place (survey_of file).tables))
      where
        by : (b : Bool) → PartStands file list (pick b (part_of 1 (description (survey_of file).tables place tag)) (part_of 2 (description (survey_of list).tables place tag)))
        by true = from_file (description (survey_of file).tables place tag) (description_lies file place tag)
        by false = from_list (description (survey_of list).tables place tag) (description_lies list place tag)

    unless : (a b : Bool) (e f g : Explanation) → PartStands file list e → PartStands file list f → PartStands file list g → PartStands file list (pick a (pick b e f) g)
    unless true true e f g k l m = k
    unless true false e f g k l m = l
    unless false b e f g k l m = m

    explained_stands : PartStands file list (explained (survey_of file) (survey_of list) place tag)
    explained_stands =
        unless (eqb (survey_of file).refusal 0) (eqb (survey_of list).refusal 0) _ _ _ explanation_stands (refused_stands (survey_of list).refusal)
        (refused_stands (survey_of file).refusal)

    pub part_stands : (tables seen : List ℕ) → PartStands file list (after_explaining file list place tag tables seen).answer
    unfolding after_explaining
    part_stands tables seen = by (sheets_fit tables seen) (file_fits file && file_fits list)
      where
        by : (a b : Bool)
            → PartStands file list
            (pick {X = ExplainingOutcome} a (pick b (record { answer = explained (survey_of file) (survey_of list) place tag; tables = replicate table_sheet_size 0; seen = replicate seen_set_size 0 }) (record { answer = refused_by 2; tables = tables; seen = seen }))
            (record { answer = refused_by 1; tables = tables; seen = seen })
            ).answer
        by true true = explained_stands
        by true false = refused_stands 2
        by false b = refused_stands 1
