-- Wrong readings of what is said of calls, each refuted by a file and by what was lent: the edits of the statements in demands,
-- and of those here that speak of lent buffers.
use Prim.Native.Nat.{ℕ, ◌≤◌}
use native.Mathlib.Omega.{arith}
use mathlib.Core.Path.{◌≡◌, refl, sym, ap, ◌∙◌, subst}
use mathlib.Core.Bool.{true}
use Rattle.std.specs.Prelude.{Some}
use mathlib.Core.List.{List, [], ◌++◌}
use lib.ListN.{length, take, get_or, replicate, length-replicate}
use borrow.Author.Tests.{lt-leb}
use Rattle.rules.specs.Lists.{Each, member}
use Rattle.rules.specs.Bytes.{ignored}
use Rattle.rules.specs.Texts.{right_trim, trim_from, front_bytes, behind_from}
use Rattle.rules.specs.Columns.{columns_from, fields, comment}
use Rattle.rules.specs.Numbers.{value_from, decimal}
use Rattle.rules.specs.Rules.{broken, checked}
use Rattle.rules.specs.Tables.{no_tables, has_id, has_tag, known}
use Rattle.rules.specs.Rows.{origin_row, editor_row, tag_row}
use Rattle.rules.specs.Sentences.{heading_of, end_rules, end_of}
use Rattle.rules.specs.Pairs.{pairs, paired}
use Rattle.rules.specs.Nodes.{parents_written, tags_short, tags_known, parents_allowed, word_of, phrase_of}
use Rattle.rules.specs.Keywords.{format_of, table_opened, table_ended, first_column}
use Rattle.rules.specs.Lines.{at_start, behind_one, at_top, among_rows, among_nodes}
use Rattle.rules.specs.Phases.{line_at, taken, judged, after, step}
use Rattle.rules.specs.Reading.{Handed, numbers}
use Rattle.rules.specs.Sheets.{rows_room, table_sheet, seen_set, EdgeRecord}
use Rattle.rules.specs.Survey.{SurveyOutcome, last_end, survey_of, after_survey}
use Rattle.rules.specs.Opening.{Opened, sentence_of, after_opening}
use Rattle.rules.specs.Cutting.{ended_within}
use Rattle.rules.specs.LentBuffers.{SheetsSized, AllSized, WithinLimit, TooLong}
use Rattle.rules.proofs.CheckedByHand.{file_a}
use Rattle.rules.proofs.Sizes.{wrong_sizes}
use Rattle.rules.proofs.OpenedExactly.{opened_exactly}
use Rattle.rules.proofs.WrongReadings.{handed_a_lem, nine, faulty, none_cut}

pub of_a : ((survey_of file_a).refusal ≡ 0) × (get_or (table_sheet (survey_of file_a).tables) 0 0 ≡ 2) × (get_or (seen_set (numbers (survey_of file_a).handed)) 0 0 ≡ 128)
unfolding ignored right_trim trim_from front_bytes behind_from columns_from fields comment value_from decimal broken checked has_id has_tag known origin_row editor_row tag_row heading_of end_rules end_of pairs paired parents_written tags_short tags_known parents_allowed word_of phrase_of format_of table_opened table_ended first_column at_start behind_one at_top among_rows among_nodes line_at taken judged after step survey_of table_sheet rows_room seen_set
of_a = (refl, refl, refl)

pub of_two : length (survey_of (take 126 file_a ++ nine)).handed ≡ 2
unfolding ignored right_trim trim_from front_bytes behind_from columns_from fields comment value_from decimal broken checked has_id has_tag known origin_row editor_row tag_row heading_of end_rules end_of pairs paired parents_written tags_short tags_known parents_allowed word_of phrase_of format_of table_opened table_ended first_column at_start behind_one at_top among_rows among_nodes line_at taken judged after step survey_of
of_two = refl

pub of_faulty : ((survey_of faulty).place ≡ 139) × (last_end (survey_of faulty).handed ≡ 126) × ((survey_of (take (survey_of faulty).sound_end faulty)).place ≡ 126)
unfolding ignored right_trim trim_from front_bytes behind_from columns_from fields comment value_from decimal broken checked has_id has_tag known origin_row editor_row tag_row heading_of end_rules end_of pairs paired parents_written tags_short tags_known parents_allowed word_of phrase_of format_of table_opened table_ended first_column at_start behind_one at_top among_rows among_nodes line_at taken judged after step survey_of
of_faulty = (refl, refl, refl)

abbrev tables : List ℕ
tables = replicate 10759 5

abbrev seen : List ℕ
seen = replicate 8192 0

sized : SheetsSized tables seen
sized = record { table_sheet_lem = length-replicate {A = ℕ} 10759 5; seen_set_lem = length-replicate {A = ℕ} 8192 0 }

no_seen_set : SheetsSized tables [] → ⊥
no_seen_set s = let z : ◌≡◌ {A = ℕ} 0 8192 = s.seen_set_lem in omega (arith, z)

-- ---- a survey

within_a : WithinLimit file_a
within_a = let h : 126 ≤ 268435456 = omega arith in h

-- the seen set that was lent is left
pub seen_as_lent : ((f tables seen : List ℕ) → SheetsSized tables seen → WithinLimit f → (after_survey f tables seen).seen ≡ seen) → ⊥
seen_as_lent w =
    let e = sym (w file_a tables seen sized within_a) ∙ ap (λ (o : SurveyOutcome). o.seen) ((wrong_sizes file_a tables seen).filled sized within_a) in
    let z : ◌≡◌ {A = ℕ} 0 128 = ap (λ (xs : List ℕ). get_or xs 0 0) e ∙ of_a.2 in
    omega (arith, z)

-- the sound end is where the fault is
pub sound_end_at_fault : ((f : List ℕ) → last_end (survey_of f).handed ≡ (survey_of f).place) → ⊥
sound_end_at_fault w = omega (arith, w faulty, of_faulty.0, of_faulty.1)

-- the seen set may have any size
pub sized_by_table_sheet : ((f tables seen : List ℕ) → length tables ≡ 10759 → (after_survey f tables seen).answer.refusal ≡ (survey_of f).refusal) → ⊥
sized_by_table_sheet w =
    let e = sym (ap (λ (o : SurveyOutcome). o.answer.refusal) ((wrong_sizes file_a tables []).wrong_size no_seen_set)) ∙ w file_a tables [] sized.table_sheet_lem in
    let z : ◌≡◌ {A = ℕ} 1 0 = e ∙ of_a.0 in
    omega (arith, z)

-- after 1 the table sheet is filled
pub untouched_but_filled : ((f tables seen : List ℕ) → (SheetsSized tables seen → ⊥) → (after_survey f tables seen).tables ≡ table_sheet (survey_of f).tables) → ⊥
untouched_but_filled w =
    let e = sym (ap (λ (o : SurveyOutcome). o.tables) ((wrong_sizes file_a tables []).wrong_size no_seen_set)) ∙ w file_a tables [] no_seen_set in
    let z : ◌≡◌ {A = ℕ} 5 2 = ap (λ (xs : List ℕ). get_or xs 0 0) e ∙ of_a.1 in
    omega (arith, z)

-- a longer file is read too: any such file refutes it
pub readable_past_limit : ((f tables seen : List ℕ) → SheetsSized tables seen → (after_survey f tables seen).tables ≡ table_sheet (survey_of f).tables) → (f : List ℕ) → TooLong f → ⊥
unfolding survey_of table_sheet rows_room
readable_past_limit w f long =
    let none_read : (survey_of f).tables ≡ no_tables = rw (lt-leb (length f) 268435456 long) in
    let e = sym (ap (λ (o : SurveyOutcome). o.tables) ((wrong_sizes f tables seen).too_long sized long)) ∙ w f tables seen sized ∙ ap table_sheet none_read in
    let z : ◌≡◌ {A = ℕ} 5 0 = ap (λ (xs : List ℕ). get_or xs 0 0) e in
    omega (arith, z)

-- ---- cuts

-- what follows a cut hands out nothing
pub restored_never_others : ((f : List ℕ) (n : ℕ) (x : List ℕ) → length (survey_of (take n f ++ x)).handed ≡ length (ended_within n (survey_of f).handed)) → ⊥
restored_never_others w =
    let z : ◌≡◌ {A = ℕ} 2 1 = sym of_two ∙ w file_a 126 nine ∙ ap (λ (hs : List Handed). length (ended_within 126 hs)) handed_a_lem in
    omega (arith, z)

-- the sound part's place is that of the fault
pub sound_place_of_fault : ((f : List ℕ) → (survey_of (take (survey_of f).sound_end f)).place ≡ (survey_of f).place) → ⊥
sound_place_of_fault w = omega (arith, w faulty, of_faulty.0, of_faulty.2)

-- a sentence that ends behind the cut is found
pub unchanged_behind_cut : ((f : List ℕ) (n : ℕ) (x : List ℕ) → Each (λ (h : Handed). sentence_of h.sentence.heading.number (survey_of (take n f ++ x)).handed ≡ Some h.sentence) (survey_of f).handed) → ⊥
unchanged_behind_cut w =
    let found = (subst (Each (λ (h : Handed). sentence_of h.sentence.heading.number (survey_of (take 125 file_a ++ [])).handed ≡ Some h.sentence)) handed_a_lem (w file_a 125 [])).0 in
    let z : ◌≡◌ {A = ℕ} 0 1 = cc (sym (ap (sentence_of 7) none_cut) ∙ found) in
    omega arith

-- ---- an opening

-- a sentence sheet of any size will do
pub opens_any_sheet : ((f : List ℕ) (n : ℕ) (tables seen sheet : List ℕ) (edges : List EdgeRecord) → SheetsSized tables seen → member n (numbers (survey_of f).handed) ≡ true → (after_opening f n tables seen sheet edges).answer ≡ 0) → ⊥
opens_any_sheet w =
    let there : member 7 (numbers (survey_of file_a).handed) ≡ true = ap (λ (hs : List Handed). member 7 (numbers hs)) handed_a_lem in
    let unsized : AllSized tables seen [] [] → ⊥ = λ s. (let z : ◌≡◌ {A = ℕ} 0 11009 = s.sentence_sheet_lem in omega (arith, z)) in
    let z : ◌≡◌ {A = ℕ} 1 0 = sym (ap (λ (o : Opened). o.answer) ((opened_exactly file_a 7 tables seen [] []).wrong_size unsized)) ∙ w file_a 7 tables seen [] [] sized there in
    omega (arith, z)
