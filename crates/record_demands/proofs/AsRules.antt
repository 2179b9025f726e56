-- What the contracts of the openings with a list of records say, number by number of the list. From the rules of openings, by
-- the size of the list: 512 records are 2,048 numbers.
use Prim.Native.Nat.{ℕ}
use native.Mathlib.Omega.{arith}
use mathlib.Core.Path.{◌≡◌, sym, ap, ◌∙◌, subst}
use mathlib.Core.Logic.{◌↔◌}
use mathlib.Core.Bool.{true}
use Rattle.std.specs.Prelude.{Some}
use mathlib.Core.List.{List}
use lib.ListN.{replicate}
use Rattle.rules.specs.Lists.{member}
use Rattle.rules.specs.Numbers.{edge_limit}
use Rattle.rules.specs.Sentences.{Sentence}
use Rattle.rules.specs.Reading.{numbers}
use Rattle.rules.specs.Sheets.{EdgeRecord, sentence_sheet, edge_list}
use Rattle.rules.specs.Survey.{SurveyOutcome, survey_of}
use Rattle.rules.specs.SentenceFrom.{sentence_from}
use Rattle.rules.specs.Opening.{Opened, OpenedAt, after_opening, after_opening_at}
use Rattle.rules.specs.Layout.{zero_record, flat_list}
use Rattle.rules.specs.LentBuffers.{AllSized, OpeningRule}
use Rattle.rules.specs.IndexRules.{SentenceSized, OpeningAtRule}
use Rattle.rules.proofs.FlatLaid.{flat_laid}
use Rattle.rules.proofs.Sizes.{wrong_sizes}
use Rattle.rules.proofs.OpenedExactly.{opened_exactly}
use Rattle.rules.proofs.OpenedThere.{opened_at_exactly}
use Rattle.opening.proofs.Flattened.{flat_none}
use Rattle.opened_demands.specs.Calls.{FlatSized, AllFlatSized, Left, left, left_there}
use Rattle.opened_demands.specs.OpenedRules.{OpenedByNumber, OpenedAtPlace}
use Rattle.opened_demands.proofs.Outcomes.{numbers_of, numbers_there}
use Rattle.edges.specs.declared.Edge.{Edge}
use Rattle.record_demands.specs.Records.{told_all, records_left, records_there}
use Rattle.record_demands.specs.RecordRules.{RecordsOpened, RecordsOpenedAt}
use Rattle.record_demands.proofs.Told.{told_apart}

-- ---- sizes

module _ (tables seen sheet : List ℕ) (es : List EdgeRecord) where
  pub in_records : AllFlatSized tables seen sheet (flat_list es) → AllSized tables seen sheet es
  in_records s =
      record {
        sheets = s.sheets;
        sentence_sheet_lem = s.sentence.sentence_sheet_lem;
        edge_list_lem = omega (arith, (flat_laid es).size, s.sentence.edge_list_lem);
      }

  pub in_numbers : AllSized tables seen sheet es → AllFlatSized tables seen sheet (flat_list es)
  in_numbers s =
      record {
        sheets = s.sheets;
        sentence = record { sentence_sheet_lem = s.sentence_sheet_lem; edge_list_lem = omega (arith, (flat_laid es).size, s.edge_list_lem) };
      }

-- ---- by the sentence's number

module _ (file : List ℕ) (n : ℕ) (tables seen sheet : List ℕ) (es : List EdgeRecord) (o : Opened) (p : o ≡ after_opening file n tables seen sheet es) where
  rule : OpeningRule file n tables seen sheet es
  rule = opened_exactly file n tables seen sheet es

  -- the survey's sheets, under an answer, a sheet and a list
  abbrev over : ℕ → List ℕ → List EdgeRecord → SurveyOutcome → Left
  over a h list v = left a v.tables v.seen h (flat_list list)

  numbers_opened : OpenedByNumber file n tables seen sheet (flat_list es) (numbers_of o)
  numbers_opened =
      record {
        wrong_size = λ other. ap numbers_of (p ∙ rule.wrong_size (λ s. other (in_numbers tables seen sheet es s)));
        too_long = λ s h. ap numbers_of (p ∙ rule.too_long (in_records tables seen sheet es s) h);
        exactly =
            λ s h.
            subst (λ (x : Opened). (x.answer ≡ 0) ↔ (member n (numbers (survey_of file).handed) ≡ true)) (sym p)
            (rule.exactly (in_records tables seen sheet es s) h);
        given =
            λ s h front g back e q.
            ap numbers_of (p ∙ rule.given (in_records tables seen sheet es s) h front g back e q)
            ∙ ap (over 0 (sentence_sheet g.sentence) (edge_list g.sentence)) ((wrong_sizes file tables seen).filled s.sheets h);
        absent =
            λ s h e.
            ap numbers_of (p ∙ rule.absent (in_records tables seen sheet es s) h e)
            ∙ ap (over 24 (replicate 11009 0) (replicate 512 zero_record)) ((wrong_sizes file tables seen).filled s.sheets h)
            ∙ ap (left 24 _ _ (replicate 11009 0)) (flat_none edge_limit);
      }

module _ (file : List ℕ) (n : ℕ) (tables seen sheet : List ℕ) (edges : List Edge) (r : ℕ) (tables' seen' sheet' : List ℕ) (edges' : List Edge) where
  pub records_opened : records_left r tables' seen' sheet' edges' ≡ after_opening file n tables seen sheet (told_all edges)
      → RecordsOpened file n tables seen sheet edges r tables' seen' sheet' edges'
  records_opened p =
      let rule = opened_exactly file n tables seen sheet (told_all edges) in
      record {
        whole = p;
        flat = numbers_opened file n tables seen sheet (told_all edges) (records_left r tables' seen' sheet' edges') p;
        wrong_size = λ other. told_apart edges' edges (ap (λ (o : Opened). o.edges) (p ∙ rule.wrong_size other));
        too_long = λ s h. told_apart edges' edges (ap (λ (o : Opened). o.edges) (p ∙ rule.too_long s h));
      }

-- ---- at a place

module _ (file : List ℕ) (at : ℕ) (sheet : List ℕ) (es : List EdgeRecord) (o : OpenedAt) (p : o ≡ after_opening_at file at sheet es) where
  there : OpeningAtRule file at sheet es
  there = opened_at_exactly file at sheet es

  few : FlatSized sheet (flat_list es) → SentenceSized sheet es
  few s = record { sentence_sheet_lem = s.sentence_sheet_lem; edge_list_lem = omega (arith, (flat_laid es).size, s.edge_list_lem) }

  many : SentenceSized sheet es → FlatSized sheet (flat_list es)
  many s = record { sentence_sheet_lem = s.sentence_sheet_lem; edge_list_lem = omega (arith, (flat_laid es).size, s.edge_list_lem) }

  numbers_there_lem : OpenedAtPlace file at sheet (flat_list es) (numbers_there o)
  numbers_there_lem =
      record {
        wrong_size = λ other. ap numbers_there (p ∙ there.wrong_size (λ s. other (many s)));
        too_long = λ s h. ap numbers_there (p ∙ there.too_long (few s) h);
        exactly =
            λ s h.
            subst (λ (x : OpenedAt). (x.answer ≡ 0) ↔ ((s : Sentence) × (sentence_from file at ≡ Some s))) (sym p) (there.exactly (few s) h);
        given = λ s h t e. ap numbers_there (p ∙ there.given (few s) h t e);
        absent = λ s h e. ap numbers_there (p ∙ there.absent (few s) h e) ∙ ap (left_there 24 (replicate 11009 0)) (flat_none edge_limit);
      }

module _ (file : List ℕ) (at : ℕ) (sheet : List ℕ) (edges : List Edge) (r : ℕ) (sheet' : List ℕ) (edges' : List Edge) where
  pub records_opened_at : records_there r sheet' edges' ≡ after_opening_at file at sheet (told_all edges)
      → RecordsOpenedAt file at sheet edges r sheet' edges'
  records_opened_at p =
      let rule = opened_at_exactly file at sheet (told_all edges) in
      record {
        whole = p;
        flat = numbers_there_lem file at sheet (told_all edges) (records_there r sheet' edges') p;
        wrong_size = λ other. told_apart edges' edges (ap (λ (o : OpenedAt). o.edges) (p ∙ rule.wrong_size other));
        too_long = λ s h. told_apart edges' edges (ap (λ (o : OpenedAt). o.edges) (p ∙ rule.too_long s h));
      }
