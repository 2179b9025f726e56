-- A sentence opened at its place, in its file and in what was restored of it: from the rule of openings at a place after a cut.
use Prim.Native.Nat.{ℕ}
use mathlib.Core.Path.{◌≡◌, refl, sym, ap, ap₂, ◌∙◌, subst}
use Rattle.std.specs.Prelude.{Option, Some}
use mathlib.Core.List.{List, ◌∷◌, ◌++◌, append-nil}
use lib.ListN.{length, take}
use borrow.Author.Tests.{eq-eqb}
use Rattle.rules.specs.Lists.{Each}
use Rattle.rules.specs.Numbers.{edge_limit}
use Rattle.rules.specs.Sentences.{Sentence}
use Rattle.rules.specs.Reading.{Handed}
use Rattle.rules.specs.Sheets.{EdgeRecord}
use Rattle.rules.specs.Survey.{survey_of}
use Rattle.rules.specs.SentenceFrom.{sentence_from}
use Rattle.rules.specs.Opening.{opened_as, after_opening_at}
use Rattle.rules.specs.LentBuffers.{WithinLimit}
use Rattle.rules.specs.IndexRules.{CutOpeningAt}
use Rattle.rules.specs.IndexRules as records_of
use Rattle.rules.proofs.EachElement.{each_back}
use Rattle.rules.proofs.FromThere.{from_there}
use Rattle.rules.proofs.OpenedThere.{cut_opened_at}
use Rattle.opening.specs.FlatLists.{edge_records}
use Rattle.opening.specs.Promise.{after_opening_flat_at}
use Rattle.opening.proofs.Flattened.{length_records}
use Rattle.opened_demands.specs.Calls.{FlatSized, LeftThere, opened_with}
use Rattle.opened_demands.proofs.Outcomes.{after_flat_at, numbers_there, opened_flat_at, nothing_flat}
use Rattle.cut_demands.specs.Opening.{CutAlike}

module _ (sheet edges : List ℕ) (sized : FlatSized sheet edges) where
  abbrev es : List EdgeRecord
  es = edge_records edge_limit edges

  as_records : records_of.SentenceSized sheet es
  as_records = record { sentence_sheet_lem = sized.sentence_sheet_lem; edge_list_lem = length_records edge_limit edges }

  by_records : (file : List ℕ) (at : ℕ) → after_flat_at file at sheet edges ≡ numbers_there (after_opening_at file at sheet es)
  unfolding after_opening_flat_at
  by_records file at = rw (eq-eqb (length edges) 2048 sized.edge_list_lem) refl

module _ (f : List ℕ) (whole : WithinLimit f) (front : List Handed) (h : Handed) (back : List Handed) (its : (survey_of f).handed ≡ front ++ (h ∷ back)) where
  abbrev at : ℕ
  at = h.sentence.start

  abbrev BegunThere : Handed → Type 0
  BegunThere g = sentence_from f g.sentence.start ≡ Some g.sentence

  begun : sentence_from f at ≡ Some h.sentence
  begun = (each_back BegunThere front (h ∷ back) (subst (Each BegunThere) its (from_there f))).0

  before_is : (sheet edges : List ℕ) → FlatSized sheet edges → after_flat_at f at sheet edges ≡ opened_with h.sentence
  before_is sheet edges sized = opened_flat_at f at sheet edges sized whole ∙ ap (λ (o : Option Sentence). numbers_there (opened_as o)) begun

  module _ (n : ℕ) (sheet edges : List ℕ) (sized : FlatSized sheet edges) (sheet2 edges2 : List ℕ) (sized2 : FlatSized sheet2 edges2) where
    -- as both calls are promised
    pub cut_alike_at : (x restored : List ℕ) (place : ℕ) → restored ≡ take n f ++ x → WithinLimit restored → at ≡ place → (before after : LeftThere)
        → before ≡ after_flat_at f place sheet edges → after ≡ after_flat_at restored place sheet2 edges2 → CutAlike h n x before after
    cut_alike_at x restored place e short same before after p q =
        let rule : CutOpeningAt f n x h sheet2 (edge_records edge_limit edges2) =
        cut_opened_at f front h back its n x (subst WithinLimit e short) sheet2 (edge_records edge_limit edges2) (as_records sheet2 edges2 sized2) in
        let first : before ≡ opened_with h.sentence = p ∙ ap (λ (k : ℕ). after_flat_at f k sheet edges) (sym same) ∙ before_is sheet edges sized in
        let second : after ≡ after_flat_at (take n f ++ x) at sheet2 edges2 = q ∙ ap₂ (λ (g : List ℕ) (k : ℕ). after_flat_at g k sheet2 edges2) e (sym same) in
        record {
          whole = first;
          kept = λ l. second ∙ by_records sheet2 edges2 sized2 (take n f ++ x) at ∙ ap numbers_there (rule.kept l) ∙ sym first;
          lost =
              λ z l.
              second ∙ ap (λ (y : List ℕ). after_flat_at (take n f ++ y) at sheet2 edges2) z
              ∙ ap (λ (g : List ℕ). after_flat_at g at sheet2 edges2) (append-nil (take n f)) ∙ by_records sheet2 edges2 sized2 (take n f) at
              ∙ ap numbers_there (rule.lost l) ∙ nothing_flat;
        }
