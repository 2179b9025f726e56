-- What the openings answer and leave behind with a list of records, by what they do with one of plain numbers.
use mathlib.Core.Path.{◌≡◌, refl, ap, ◌∙◌}
use mathlib.Core.Logic.{◌≢◌}
use Prim.Native.Nat.{ℕ}
use Rattle.std.specs.Prelude.{Option, None, Some}
use mathlib.Core.Bool.{Bool, true, false, ◌&&◌}
use mathlib.Core.List.{List, ◌++◌}
use lib.Dec.{eqb}
use lib.ListN.{length, drop, replicate, length-map, length-replicate}
use borrow.Author.Tests.{ne_eqb}
use Rattle.rules.specs.Lists.{pick}
use Rattle.rules.specs.Sheets.{EdgeRecord, sentence_sheet_size}
use Rattle.rules.specs.Sentences.{Sentence}
use Rattle.rules.specs.Survey.{Survey, survey_of, sheets_fit, file_fits}
use Rattle.rules.specs.SentenceFrom.{sentence_from}
use Rattle.rules.specs.Opening.{Opened, OpenedAt, after_opening, after_opening_at, sentence_of, opened, opened_as}
use Rattle.opening.specs.FlatLists.{edge_records}
use Rattle.opening.specs.Promise.{OpenedFlat, OpenedFlatAt, after_opening_flat, after_opening_flat_at}
use Rattle.opening.specs.Promise as flat
use Rattle.opening.proofs.Flattened.{length_records}
use Rattle.edges.specs.declared.Edge.{Edge}
use Rattle.edges.specs.Edges.{first_edges, filled_by}
use Rattle.edges.specs.Promise.{as_record, as_records, outcome, outcome_at}
use Rattle.edges.proofs.Records.{filled_list}

pub length_as_records : (ys : List Edge) → length (as_records ys) ≡ length ys
unfolding as_records
length_as_records ys = length-map ys as_record

pub and_false : (b : Bool) → (b && false) ≡ false
and_false true = refl
and_false false = refl

-- what stays and what is filled of a list lent beside the numbers
abbrev pub list : ℕ → List EdgeRecord → List EdgeRecord → List EdgeRecord
list r lent filled = pick (eqb (filled_by r) 0) lent filled

abbrev pub zeros : List ℕ
zeros = replicate 2048 0

abbrev pub zero_list : List EdgeRecord
zero_list = edge_records 512 zeros

-- ---- by the place of its first line

module _ (file : List ℕ) (at : ℕ) (sheet : List ℕ) where
  abbrev by_place : List EdgeRecord → OpenedAt
  by_place es = after_opening_at file at sheet es

  abbrev listed_at : List EdgeRecord → OpenedAt → OpenedAt
  listed_at es x = record { answer = x.answer; sheet = x.sheet; edges = list x.answer es x.edges }

  listed_as : (es : List EdgeRecord) (s : Option Sentence) → listed_at es (opened_as s) ≡ opened_as s
  listed_as es None = refl
  listed_as es (Some s) = refl

  listed_at_lem : (es : List EdgeRecord) → length es ≡ 512 → listed_at es (by_place zero_list) ≡ by_place es
  unfolding after_opening_at
  listed_at_lem es l = rw (length_records 512 zeros, l) (go (eqb (length sheet) sentence_sheet_size) (file_fits file)) where
    go : (t u : Bool) → listed_at es (pick (t && true) (pick u (opened_as (sentence_from file at)) (record { answer = 2; sheet = sheet; edges = zero_list })) (record { answer = 1; sheet = sheet; edges = zero_list }))
        ≡ pick (t && true) (pick u (opened_as (sentence_from file at)) (record { answer = 2; sheet = sheet; edges = es })) (record { answer = 1; sheet = sheet; edges = es })
    go true true = listed_as es (sentence_from file at)
    go true false = refl
    go false u = refl

  by_numbers_at : after_opening_flat_at file at sheet zeros ≡ flat.flattened_at (by_place zero_list)
  unfolding after_opening_flat_at
  by_numbers_at = refl

  module _ (ys : List Edge) where
    pub other_length_open_at : length ys ≢ 512 → outcome_at 1 sheet ys ≡ by_place (as_records ys)
    unfolding after_opening_at
    other_length_open_at ne =
        rw (length_as_records ys, ne_eqb (length ys) 512 ne, and_false (eqb (length sheet) sentence_sheet_size)) refl

    pub listed_open_at : (r k : ℕ) (sheet' numbers : List ℕ) (zs : List Edge) → length ys ≡ 512
        → (flat.outcome_at r sheet' numbers ≡ after_opening_flat_at file at sheet zeros) × (length numbers ≡ length zeros)
        → k ≡ filled_by r → zs ≡ first_edges numbers k ++ drop k ys → outcome_at r sheet' zs ≡ by_place (as_records ys)
    listed_open_at r k sheet' numbers zs l e ck full =
        let x : flat.outcome_at r sheet' numbers ≡ flat.flattened_at (by_place zero_list) = e.0 ∙ by_numbers_at in
        let o : OpenedAt = by_place zero_list in
        ap (λ (es : List EdgeRecord). record { answer = r; sheet = sheet'; edges = es })
        (filled_list r k o.edges numbers ys zs ck l (ap (λ (y : OpenedFlatAt). y.edges) x) (e.1 ∙ length-replicate {A = ℕ} 2048 0) full)
        ∙ ap (λ (y : OpenedFlatAt). record { answer = y.answer; sheet = y.sheet; edges = list y.answer (as_records ys) o.edges }) x
        ∙ listed_at_lem (as_records ys) (length_as_records ys ∙ l)

-- ---- by the sentence's number

module _ (file : List ℕ) (n : ℕ) (tables seen sheet : List ℕ) where
  abbrev by_number : List EdgeRecord → Opened
  by_number es = after_opening file n tables seen sheet es

  abbrev listed : List EdgeRecord → Opened → Opened
  listed es x = record { answer = x.answer; tables = x.tables; seen = x.seen; sheet = x.sheet; edges = list x.answer es x.edges }

  listed_opened : (es : List EdgeRecord) (v : Survey) (s : Option Sentence) → listed es (opened v s) ≡ opened v s
  listed_opened es v None = refl
  listed_opened es v (Some s) = refl

  abbrev refused_by : ℕ → List EdgeRecord → Opened
  refused_by r es = record { answer = r; tables = tables; seen = seen; sheet = sheet; edges = es }

  listed_by : (es : List EdgeRecord) → length es ≡ 512 → listed es (by_number zero_list) ≡ by_number es
  unfolding after_opening
  listed_by es l = rw (length_records 512 zeros, l) (go (sheets_fit tables seen && eqb (length sheet) sentence_sheet_size) (file_fits file)) where
    go : (t u : Bool) → listed es (pick (t && true) (pick u (opened (survey_of file) (sentence_of n (survey_of file).handed)) (refused_by 2 zero_list)) (refused_by 1 zero_list))
        ≡ pick (t && true) (pick u (opened (survey_of file) (sentence_of n (survey_of file).handed)) (refused_by 2 es)) (refused_by 1 es)
    go true true = listed_opened es (survey_of file) (sentence_of n (survey_of file).handed)
    go true false = refl
    go false u = refl

  by_numbers : after_opening_flat file n tables seen sheet zeros ≡ flat.flattened (by_number zero_list)
  unfolding after_opening_flat
  by_numbers = refl

  module _ (ys : List Edge) where
    pub other_length_open_sentence : length ys ≢ 512 → outcome 1 tables seen sheet ys ≡ by_number (as_records ys)
    unfolding after_opening
    other_length_open_sentence ne =
        rw (length_as_records ys, ne_eqb (length ys) 512 ne, and_false (sheets_fit tables seen && eqb (length sheet) sentence_sheet_size)) refl

    pub listed_open_sentence : (r k : ℕ) (tables' seen' sheet' numbers : List ℕ) (zs : List Edge) → length ys ≡ 512
        → (flat.outcome r tables' seen' sheet' numbers ≡ after_opening_flat file n tables seen sheet zeros) × (length numbers ≡ length zeros)
        → k ≡ filled_by r → zs ≡ first_edges numbers k ++ drop k ys → outcome r tables' seen' sheet' zs ≡ by_number (as_records ys)
    listed_open_sentence r k tables' seen' sheet' numbers zs l e ck full =
        let x : flat.outcome r tables' seen' sheet' numbers ≡ flat.flattened (by_number zero_list) = e.0 ∙ by_numbers in
        let o : Opened = by_number zero_list in
        ap (λ (es : List EdgeRecord). record { answer = r; tables = tables'; seen = seen'; sheet = sheet'; edges = es })
        (filled_list r k o.edges numbers ys zs ck l (ap (λ (y : OpenedFlat). y.edges) x) (e.1 ∙ length-replicate {A = ℕ} 2048 0) full)
        ∙ ap (λ (y : OpenedFlat). record { answer = y.answer; tables = y.tables; seen = y.seen; sheet = y.sheet; edges = list y.answer (as_records ys) o.edges }) x
        ∙ listed_by (as_records ys) (length_as_records ys ∙ l)
