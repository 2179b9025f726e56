-- An opening at a place answers 0 exactly where a sentence begins; at a place that the index gives for a number it leaves what
-- an opening leaves for that number; and after a cut the sentences of the kept part are opened at their places as before.
use Prim.Native.Nat.{ℕ, suc, ◌+◌}
use native.Mathlib.Numerals.{add-one}
use native.Mathlib.Omega.{arith}
use mathlib.Core.Path.{◌≡◌, refl, sym, ap, ap₂, ◌∙◌, subst}
use mathlib.Core.Logic.{◌↔◌}
use mathlib.Core.Bool.{true, false, ◌&&◌}
use Rattle.std.specs.Prelude.{Option, None, Some}
use mathlib.Core.List.{List, ◌∷◌, ◌++◌}
use lib.ListN.{length, take, get_or, length-append}
use lib.Dec.{eqb}
use borrow.Author.Tests.{eq-eqb, eqb-true}
use Rattle.rules.specs.Lists.{Each}
use Rattle.rules.specs.Sentences.{Sentence}
use Rattle.rules.specs.Reading.{Handed}
use Rattle.rules.specs.Sheets.{EdgeRecord}
use Rattle.rules.specs.Survey.{Survey, survey_of}
use Rattle.rules.specs.Index.{beginning, after_indexing}
use Rattle.rules.specs.SentenceFrom.{sentence_from}
use Rattle.rules.specs.Opening.{sentence_of, sentence_fits, opened, after_opening, OpenedAt, opened_as, after_opening_at}
use Rattle.rules.specs.LentBuffers.{AllSized, WithinLimit}
use Rattle.rules.specs.IndexRules.{IndexSized, SentenceSized, OpeningAtRule, opened_part, OpenedThere, CutOpeningAt}
use Rattle.rules.proofs.Conjunctions.{and_left, and_right, false_if_never}
use Rattle.rules.proofs.EachElement.{each_back}
use Rattle.rules.proofs.Sizes.{within_fits, long_misfits}
use Rattle.rules.proofs.OpenedExactly.{opens}
use Rattle.rules.proofs.ReadFromPlace.{HandedAt}
use Rattle.rules.proofs.CutThere.{kept_there, lost_there}
use Rattle.rules.proofs.FromThere.{handed_at}
use Rattle.rules.proofs.AtIndex.{at_index, not_at_index, begun_found, entry_is}

-- ---- sizes

module _ (sheet : List ℕ) (edges : List EdgeRecord) where
  sentence_fits_lem : SentenceSized sheet edges → sentence_fits sheet edges ≡ true
  sentence_fits_lem s = ap₂ ◌&&◌ (eq-eqb (length sheet) 11009 s.sentence_sheet_lem) (eq-eqb (length edges) 512 s.edge_list_lem)

  sentence_misfits : (SentenceSized sheet edges → ⊥) → sentence_fits sheet edges ≡ false
  sentence_misfits other =
      false_if_never (sentence_fits sheet edges)
      (λ e. other (record {
        sentence_sheet_lem = eqb-true (length sheet) 11009 (and_left (eqb (length sheet) 11009) (eqb (length edges) 512) e);
        edge_list_lem = eqb-true (length edges) 512 (and_right (eqb (length sheet) 11009) (eqb (length edges) 512) e);
      }))

sized_sentence : (tables seen sheet : List ℕ) (edges : List EdgeRecord) → AllSized tables seen sheet edges → SentenceSized sheet edges
sized_sentence tables seen sheet edges s = record { sentence_sheet_lem = s.sentence_sheet_lem; edge_list_lem = s.edge_list_lem }

-- ---- the opening at a place

zero_begins : (o : Option Sentence) → ((opened_as o).answer ≡ 0) ↔ ((s : Sentence) × (o ≡ Some s))
zero_begins None = (λ e. absurd (omega (arith, e)), λ b. absurd (let e = b.1 in let z : ◌≡◌ {A = ℕ} 0 1 = cc in omega arith))
zero_begins (Some s) = (λ e. (s, refl), λ b. refl)

module _ (file : List ℕ) (at : ℕ) (sheet : List ℕ) (edges : List EdgeRecord) where
  opens_at : SentenceSized sheet edges → WithinLimit file → after_opening_at file at sheet edges ≡ opened_as (sentence_from file at)
  unfolding after_opening_at
  opens_at s h = rw (sentence_fits_lem sheet edges s, within_fits file h)

  pub opened_at_exactly : OpeningAtRule file at sheet edges
  unfolding after_opening_at
  opened_at_exactly =
      record {
        wrong_size = λ other. rw (sentence_misfits sheet edges other);
        too_long = λ s h. rw (sentence_fits_lem sheet edges s, long_misfits file h);
        exactly = λ s h. subst (λ (o : OpenedAt). (o.answer ≡ 0) ↔ ((s : Sentence) × (sentence_from file at ≡ Some s))) (sym (opens_at s h)) (zero_begins (sentence_from file at));
        given = λ s h t e. opens_at s h ∙ ap opened_as e;
        absent = λ s h e. opens_at s h ∙ ap opened_as e;
      }

-- ---- by the index

part_opened : (v : Survey) (o : Option Sentence) → opened_part (opened v o) ≡ opened_as o
part_opened v None = refl
part_opened v (Some s) = refl

module _ (file : List ℕ) (n : ℕ) (tables seen places : List ℕ) (sized : IndexSized tables seen places) (fits : WithinLimit file) where
  abbrev entry : ℕ
  entry = get_or (after_indexing file tables seen places).places n 0

  its_entry : (at : ℕ) → entry ≡ at + 1 → beginning (survey_of file).handed n ≡ suc at
  its_entry at e = sym (entry_is file tables seen places sized fits n) ∙ e ∙ add-one at

  opens_part : (ts used sheet : List ℕ) (edges : List EdgeRecord) → AllSized ts used sheet edges → opened_part (after_opening file n ts used sheet edges) ≡ opened_as (sentence_of n (survey_of file).handed)
  opens_part ts used sheet edges s = ap opened_part (opens file n ts used sheet edges s fits) ∙ part_opened (survey_of file) (sentence_of n (survey_of file).handed)

  pub opened_there : OpenedThere file n tables seen places
  opened_there =
      record {
        same =
            λ at e ts used sheet edges s.
            opens_at file at sheet edges (sized_sentence ts used sheet edges s) fits ∙ ap opened_as (at_index file n at (its_entry at e)) ∙ sym (opens_part ts used sheet edges s);
        found =
            λ at e sheet edges s.
            let i = its_entry at e in
            ((opened_at_exactly file at sheet edges).exactly s fits).1 ((begun_found file n at i).0, at_index file n at i ∙ (begun_found file n at i).1);
        absent =
            λ e ts used sheet edges s.
            opens_part ts used sheet edges s ∙ ap opened_as (not_at_index file n (sym (entry_is file tables seen places sized fits n) ∙ e));
      }

-- ---- after a cut

module _ (f : List ℕ) (front : List Handed) (h : Handed) (back : List Handed) (its : (survey_of f).handed ≡ front ++ (h ∷ back)) where
  begun_at_place : HandedAt f h
  begun_at_place = (each_back (HandedAt f) front (h ∷ back) (subst (Each (HandedAt f)) its (handed_at f))).0

  pub cut_opened_at : (n : ℕ) (x : List ℕ) → WithinLimit (take n f ++ x) → (sheet : List ℕ) (edges : List EdgeRecord) → SentenceSized sheet edges → CutOpeningAt f n x h sheet edges
  cut_opened_at n x fits sheet edges sized =
      let at = h.sentence.start in
      let s = h.sentence in
      let b = begun_at_place.begun in
      let end : b.handed.end ≡ h.end = ap (λ (g : Handed). g.end) begun_at_place.same in
      let less : WithinLimit (take n f) = omega (arith, fits, length-append (take n f) x) in
      record {
        kept = λ l. (opened_at_exactly (take n f ++ x) at sheet edges).given sized fits s (kept_there f at s b n x (omega (arith, l, end)));
        lost = λ l. (opened_at_exactly (take n f) at sheet edges).absent sized less (lost_there f at s b n (omega (arith, l, end)));
      }
