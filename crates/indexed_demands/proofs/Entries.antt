-- What the index leaves where sizes are right and the file is no longer than the limit: nothing of what was lent. From there: the
-- index and the opening of a number agree, and the index has one outcome.
use Prim.Native.Nat.{ℕ, zero, suc, ◌-◌}
use native.Mathlib.Nat.{suc-sub-suc, sub-zero}
use native.Mathlib.Omega.{arith}
use mathlib.Core.Path.{◌≡◌, refl, sym, ap, ap₂, ◌∙◌, subst}
use mathlib.Core.Logic.{◌≢◌}
use Rattle.std.specs.Prelude.{Option, None, Some}
use mathlib.Core.List.{List}
use lib.ListN.{length, get_or}
use borrow.Author.Tests.{eq-eqb}
use Rattle.rules.specs.Sentences.{Sentence}
use Rattle.rules.specs.Reading.{numbers}
use Rattle.rules.specs.Sheets.{table_sheet, seen_set}
use Rattle.rules.specs.Survey.{survey_of, told}
use Rattle.rules.specs.Index.{Indexed, beginning, beginnings, index_size, after_indexing}
use Rattle.rules.specs.SentenceFrom.{sentence_from}
use Rattle.rules.specs.Opening.{sentence_of, opened_as}
use Rattle.rules.specs.LentBuffers.{WithinLimit}
use Rattle.rules.specs.IndexRules.{IndexSized}
use Rattle.rules.proofs.Sizes.{sheets_fit_lem, within_fits}
use Rattle.rules.proofs.AtIndex.{at_index, not_at_index, begun_found, entry_is}
use Rattle.opened_demands.specs.Calls.{FlatSized, AllFlatSized, Left, LeftThere, left_there}
use Rattle.opened_demands.specs.OpenedRules.{OpenedAtPlace}
use Rattle.opened_demands.proofs.Outcomes.{after_flat, numbers_there, part, opened_flat, part_opened, nothing_flat}
use Rattle.indexed_demands.specs.Entries.{OpenedAtEntry, SameThere}

-- ---- an entry, and the number that it stands for

-- with buffers of their sizes and a file within the limit, what the rule of a place leaves
there_as : (file : List ℕ) (at : ℕ) (sheet edges : List ℕ) (o : LeftThere) → OpenedAtPlace file at sheet edges o → FlatSized sheet edges → WithinLimit file
    → o ≡ numbers_there (opened_as (sentence_from file at))
there_as file at sheet edges o rule sized fits = by (sentence_from file at) refl
  where
    by : (x : Option Sentence) → sentence_from file at ≡ x → o ≡ numbers_there (opened_as x)
    by None e = rule.absent sized fits e ∙ sym nothing_flat
    by (Some s) e = rule.given sized fits s e

module _ (file : List ℕ) (entry : ℕ) (sheet edges : List ℕ) (o : LeftThere) where
  pub at_entry : entry ≢ 0 → OpenedAtPlace file (entry - 1) sheet edges o → OpenedAtEntry file entry sheet edges o
  at_entry ne rule =
      record {
        no_entry = λ e. absurd (ne e);
        there = λ at e. subst (λ (k : ℕ). OpenedAtPlace file k sheet edges o) (ap (λ (k : ℕ). k - 1) e ∙ suc-sub-suc at 0 ∙ sub-zero at) rule;
      }

  pub no_place : entry ≡ 0 → o ≡ left_there 24 sheet edges → OpenedAtEntry file entry sheet edges o
  no_place z same = record { no_entry = λ e. same; there = λ at e. absurd (omega (arith, z, e)) }

module _ (file : List ℕ) (n : ℕ) (fits : WithinLimit file) (tables seen sheet edges : List ℕ) (sized : AllFlatSized tables seen sheet edges)
    (sheet2 edges2 : List ℕ) (sized2 : FlatSized sheet2 edges2) where
  abbrev its : Option Sentence
  its = sentence_of n (survey_of file).handed

  abbrev Same : ℕ → LeftThere → Type 0
  Same entry there = SameThere entry (part (after_flat file n tables seen sheet edges)) there

  by_number_lem : part (after_flat file n tables seen sheet edges) ≡ numbers_there (opened_as its)
  by_number_lem = ap part (opened_flat tables seen sheet edges sized file n fits) ∙ part_opened (survey_of file) its

  zero_given : (o : Option Sentence) → ((s : Sentence) × (o ≡ Some s)) → (opened_as o).answer ≡ 0
  zero_given o g = ap (λ (x : Option Sentence). (opened_as x).answer) g.1

  same_at : (k : ℕ) (there : LeftThere) → beginning (survey_of file).handed n ≡ k → OpenedAtEntry file k sheet2 edges2 there → Same k there
  same_at zero there e t =
      record {
        found = λ ne. absurd (ne refl);
        same = λ ne. absurd (ne refl);
        absent = λ z. by_number_lem ∙ ap (λ (o : Option Sentence). numbers_there (opened_as o)) (not_at_index file n e) ∙ nothing_flat;
      }
  same_at (suc at) there e t =
      record {
        found = λ ne. ap (λ (o : LeftThere). o.answer) by_number_lem ∙ zero_given its (begun_found file n at e);
        same = λ ne. there_as file at sheet2 edges2 there (t.there at refl) sized2 fits ∙ ap (λ (o : Option Sentence). numbers_there (opened_as o)) (at_index file n at e) ∙ sym by_number_lem;
        absent = λ z. absurd (omega (arith, z));
      }

  module _ (tables' seen' places : List ℕ) (index_sized : IndexSized tables' seen' places) where
    -- as the three calls are promised
    pub same_there : (left : Indexed) (entry : ℕ) (by_number : Left) (there : LeftThere)
        → left ≡ after_indexing file tables' seen' places → entry ≡ get_or left.places n 0
        → by_number ≡ after_flat file n tables seen sheet edges → OpenedAtEntry file entry sheet2 edges2 there → SameThere entry (part by_number) there
    same_there left entry by_number there i e o t =
        let begins : beginning (survey_of file).handed n ≡ entry = sym (e ∙ ap (λ (l : Indexed). get_or l.places n 0) i ∙ entry_is file tables' seen' places index_sized fits n) in
        rw o (same_at entry there begins t)

-- ---- one outcome

indexed_as : (file tables seen places : List ℕ) → WithinLimit file → IndexSized tables seen places
    → after_indexing file tables seen places
    ≡ record {
      answer = told (survey_of file);
      tables = table_sheet (survey_of file).tables;
      seen = seen_set (numbers (survey_of file).handed);
      places = beginnings 0 index_size (survey_of file).handed;
    }
unfolding after_indexing
indexed_as file tables seen places fits sized =
    rw (sheets_fit_lem tables seen sized.sheets, eq-eqb (length places) 65536 sized.index, within_fits file fits)

module _ (file tables seen places tables2 seen2 places2 : List ℕ) (left left2 : Indexed)
    (p : left ≡ after_indexing file tables seen places) (q : left2 ≡ after_indexing file tables2 seen2 places2) where
  pub indexed_only : tables ≡ tables2 → seen ≡ seen2 → places ≡ places2 → left ≡ left2
  indexed_only t s e = p ∙ ap₂ (λ (a b : List ℕ). after_indexing file a b places) t s ∙ ap (after_indexing file tables2 seen2) e ∙ sym q

  pub indexed_fresh : WithinLimit file → IndexSized tables seen places → IndexSized tables2 seen2 places2 → left ≡ left2
  indexed_fresh fits sized sized2 = p ∙ indexed_as file tables seen places fits sized ∙ sym (q ∙ indexed_as file tables2 seen2 places2 fits sized2)
