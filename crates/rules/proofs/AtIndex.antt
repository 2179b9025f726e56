-- The index, entry by entry, of every file and every number; and the sentence that begins at the place which an entry gives is
-- the sentence of that number: every sentence handed out is the one that begins at its place.
use Prim.Native.Nat.{ℕ, suc, ◌≤◌, ◌<◌}
use native.Mathlib.Nat.{zero-add}
use native.Mathlib.Omega.{arith}
use mathlib.Core.Path.{◌≡◌, refl, sym, ap, ap₂, ◌∙◌, subst}
use mathlib.Core.Bool.{Bool, true, false, ◌&&◌}
use Rattle.std.specs.Prelude.{None, Some}
use mathlib.Core.List.{List, [], ◌∷◌, map}
use lib.ListN.{length, get_or, length-map, get_or-eq_default}
use lib.Dec.{eqb, ltb}
use borrow.Author.Tests.{eq-eqb, eqb-true, ne_eqb, ltb-true, ltb-false}
use Rattle.rules.specs.Lists.{pick, counting, Each}
use Rattle.rules.specs.Sentences.{Sentence}
use Rattle.rules.specs.Reading.{Handed}
use Rattle.rules.specs.Survey.{Survey, survey_of, sheets_fit, after_survey}
use Rattle.rules.specs.Index.{beginning, beginnings, after_indexing}
use Rattle.rules.specs.SentenceFrom.{sentence_from}
use Rattle.rules.specs.Opening.{sentence_of}
use Rattle.rules.specs.LentBuffers.{WithinLimit}
use Rattle.rules.specs.IndexRules.{IndexSized, IndexRule}
use Rattle.rules.proofs.Conjunctions.{and_left, and_right, false_if_never}
use Rattle.rules.proofs.EachElement.{each_back}
use Rattle.rules.proofs.Counting.{length_counting, at_counting}
use Rattle.rules.proofs.Sizes.{sheets_fit_lem, fit_sheets, within_fits, long_misfits}
use Rattle.rules.proofs.HandedKept.{handed_kept}
use Rattle.rules.proofs.Beginnings.{not_begun, begins_there}
use Rattle.rules.proofs.FromThere.{from_there}

-- ---- in a list of sentences handed out

found_there : (file : List ℕ) (n at : ℕ) (hs : List Handed) → Each (λ (h : Handed). sentence_from file h.sentence.start ≡ Some h.sentence) hs
    → beginning hs n ≡ suc at → sentence_from file at ≡ sentence_of n hs
found_there file n at [] a e = absurd (omega (arith, e))
found_there file n at (h ∷ hs) a e = by (eqb n h.sentence.heading.number) (found_there file n at hs a.1) e
  where
    by : (t : Bool) → (beginning hs n ≡ suc at → sentence_from file at ≡ sentence_of n hs) → pick t (suc h.sentence.start) (beginning hs n) ≡ suc at
        → sentence_from file at ≡ pick t (Some h.sentence) (sentence_of n hs)
    by true more e =
        let place : at ≡ h.sentence.start = omega (arith, e) in
        ap (sentence_from file) place ∙ a.0
    by false more e = more e

-- and it is one
one_there : (n at : ℕ) (hs : List Handed) → beginning hs n ≡ suc at → (s : Sentence) × (sentence_of n hs ≡ Some s)
one_there n at [] e = absurd (omega (arith, e))
one_there n at (h ∷ hs) e = by (eqb n h.sentence.heading.number) (one_there n at hs) e
  where
    by : (t : Bool) → (beginning hs n ≡ suc at → (s : Sentence) × (sentence_of n hs ≡ Some s)) → pick t (suc h.sentence.start) (beginning hs n) ≡ suc at
        → (s : Sentence) × (pick t (Some h.sentence) (sentence_of n hs) ≡ Some s)
    by true more e = (h.sentence, refl)
    by false more e = more e

not_there : (n : ℕ) (hs : List Handed) → beginning hs n ≡ 0 → sentence_of n hs ≡ None
not_there n [] e = refl
not_there n (h ∷ hs) e = by (eqb n h.sentence.heading.number) (not_there n hs) e
  where
    by : (t : Bool) → (beginning hs n ≡ 0 → sentence_of n hs ≡ None) → pick t (suc h.sentence.start) (beginning hs n) ≡ 0 → pick t (Some h.sentence) (sentence_of n hs) ≡ None
    by true more e = absurd (omega (arith, e))
    by false more e = more e

-- ---- of any file

module _ (file : List ℕ) (n : ℕ) where
  pub at_index : (at : ℕ) → beginning (survey_of file).handed n ≡ suc at → sentence_from file at ≡ sentence_of n (survey_of file).handed
  at_index at e = found_there file n at (survey_of file).handed (from_there file) e

  pub begun_found : (at : ℕ) → beginning (survey_of file).handed n ≡ suc at → (s : Sentence) × (sentence_of n (survey_of file).handed ≡ Some s)
  begun_found at e = one_there n at (survey_of file).handed e

  pub not_at_index : beginning (survey_of file).handed n ≡ 0 → sentence_of n (survey_of file).handed ≡ None
  not_at_index e = not_there n (survey_of file).handed e

-- a sentence handed out has a number that the index has room for
abbrev Low : Handed → Type 0
Low h = h.sentence.heading.number < 65536

numbers_low : (file : List ℕ) → Each Low (survey_of file).handed
numbers_low file = handed_kept (λ (v : Survey) (s : Sentence). s.heading.number < 65536) (λ v s k. omega (arith, k.part.heading.number.1)) file

-- ---- the entry of any number

above_none : (n : ℕ) (hs : List Handed) → Each Low hs → 65536 ≤ n → beginning hs n ≡ 0
above_none n [] a l = refl
above_none n (h ∷ hs) a l = rw (ne_eqb n h.sentence.heading.number (λ z. omega (arith, a.0))) (above_none n hs a.1 l)

pub at_entry : (size n : ℕ) (hs : List Handed) → (size ≤ n → beginning hs n ≡ 0) → get_or (beginnings 0 size hs) n 0 ≡ beginning hs n
unfolding beginnings
at_entry size n hs above = by (ltb n size) refl
  where
    by : (t : Bool) → ltb n size ≡ t → get_or (map (beginning hs) (counting 0 size)) n 0 ≡ beginning hs n
    by true e = at_counting (beginning hs) 0 size n 0 (ltb-true n size e) ∙ ap (beginning hs) (zero-add n)
    by false e =
        let wide : length (map (beginning hs) (counting 0 size)) ≡ size = length-map (counting 0 size) (beginning hs) ∙ length_counting 0 size in
        let out : size ≤ n = ltb-false n size e in
        get_or-eq_default (map (beginning hs) (counting 0 size)) 0 (omega (arith, wide, out)) ∙ sym (above out)

-- ---- the index

module _ (file tables seen places : List ℕ) where
  index_fits : IndexSized tables seen places → (sheets_fit tables seen && eqb (length places) 65536) ≡ true
  index_fits s = ap₂ ◌&&◌ (sheets_fit_lem tables seen s.sheets) (eq-eqb (length places) 65536 s.index)

  index_misfits : (IndexSized tables seen places → ⊥) → (sheets_fit tables seen && eqb (length places) 65536) ≡ false
  index_misfits other =
      false_if_never (sheets_fit tables seen && eqb (length places) 65536)
      (λ e. other (record {
        sheets = fit_sheets tables seen (and_left (sheets_fit tables seen) (eqb (length places) 65536) e);
        index = eqb-true (length places) 65536 (and_right (sheets_fit tables seen) (eqb (length places) 65536) e);
      }))

  abbrev hs : List Handed
  hs = (survey_of file).handed

  module _ (s : IndexSized tables seen places) (h : WithinLimit file) where
    pub indexed : (after_indexing file tables seen places).places ≡ beginnings 0 65536 hs
    unfolding after_indexing
    indexed = rw (index_fits s, within_fits file h)

    pub entry_is : (n : ℕ) → get_or (after_indexing file tables seen places).places n 0 ≡ beginning hs n
    entry_is n = ap (λ (l : List ℕ). get_or l n 0) indexed ∙ at_entry 65536 n hs (above_none n hs (numbers_low file))

  pub index_exactly : IndexRule file tables seen places
  unfolding after_indexing after_survey
  index_exactly =
      record {
        wrong_size = λ other. rw (index_misfits other);
        too_long = λ s h. rw (index_fits s, long_misfits file h);
        answer = λ s h. rw (index_fits s, sheets_fit_lem tables seen s.sheets, within_fits file h);
        table_sheet_lem = λ s h. rw (index_fits s, sheets_fit_lem tables seen s.sheets, within_fits file h);
        seen_set_lem = λ s h. rw (index_fits s, sheets_fit_lem tables seen s.sheets, within_fits file h);
        size = λ s h. ap length (indexed s h) ∙ (begins_there file 65536).count;
        its = λ s h front g back e. ap (λ (l : List ℕ). get_or l g.sentence.heading.number 0) (indexed s h) ∙ (begins_there file 65536).its front g back e (each_back Low front (g ∷ back) (subst (Each Low) e (numbers_low file))).0;
        no_other = λ s h n e. entry_is s h n ∙ not_begun n hs e;
      }
