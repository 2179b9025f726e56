-- A sentence opened in its file and in what was restored of it: from the rule of openings after a cut.
use Prim.Native.Nat.{ℕ, ◌≤◌, ◌<◌}
use native.Mathlib.Omega.{arith}
use mathlib.Core.Path.{◌≡◌, refl, sym, ap, ap₂, ◌∙◌, subst}
use Rattle.std.specs.Prelude.{Option, None, Some}
use mathlib.Core.List.{List, ◌∷◌, ◌++◌, append-nil}
use lib.ListN.{length, take, length-append}
use Rattle.rules.specs.Numbers.{edge_limit}
use Rattle.rules.specs.Sentences.{Sentence}
use Rattle.rules.specs.Reading.{Handed}
use Rattle.rules.specs.Sheets.{EdgeRecord}
use Rattle.rules.specs.Survey.{survey_of}
use Rattle.rules.specs.Opening.{sentence_of, opened_as, after_opening}
use Rattle.rules.specs.LentBuffers.{WithinLimit, CutOpening}
use Rattle.rules.specs.Layout.{flat_list}
use Rattle.rules.proofs.OpenedExactly.{opened_exactly, cut_opened}
use Rattle.opening.specs.FlatLists.{edge_records}
use Rattle.opened_demands.specs.Calls.{AllFlatSized, Left, LeftThere, left_there, nothing, opened_with}
use Rattle.opened_demands.proofs.Outcomes.{after_flat, numbers_of, numbers_there, part, as_records, by_records, opened_flat, part_opened, nothing_flat}
use Rattle.cut_demands.specs.Opening.{CutAlike}

none_by_24 : (o : Option Sentence) → (opened_as o).answer ≡ 24 → numbers_there (opened_as o) ≡ nothing
none_by_24 None e = nothing_flat
none_by_24 (Some s) e = absurd (omega (arith, e))

module _ (f : List ℕ) (n : ℕ) (inside : n ≤ length f) (whole : WithinLimit f) (front : List Handed) (h : Handed) (back : List Handed) (its : (survey_of f).handed ≡ front ++ (h ∷ back)) where
  abbrev number : ℕ
  number = h.sentence.heading.number

  module _ (tables seen sheet edges : List ℕ) (sized : AllFlatSized tables seen sheet edges) where
    abbrev es : List EdgeRecord
    es = edge_records edge_limit edges

    before_is : part (after_flat f number tables seen sheet edges) ≡ opened_with h.sentence
    before_is =
        ap part
        (by_records tables seen sheet edges sized f number
        ∙ ap numbers_of ((opened_exactly f number tables seen sheet es).given (as_records tables seen sheet edges sized) whole front h back its refl))

    module _ (x : List ℕ) (fits : WithinLimit (take n f ++ x)) where
      rule : CutOpening f n x h tables seen sheet es
      rule = cut_opened f n whole inside front h back its tables seen sheet es (as_records tables seen sheet edges sized) x fits

      kept_is : h.end ≤ n → part (after_flat (take n f ++ x) number tables seen sheet edges) ≡ opened_with h.sentence
      kept_is l =
          let o = after_opening (take n f ++ x) number tables seen sheet es in
          ap part (by_records tables seen sheet edges sized (take n f ++ x) number)
          ∙ ap (λ (a : ℕ). left_there a o.sheet (flat_list o.edges)) (rule.kept l)
          ∙ ap₂ (λ (s : List ℕ) (list : List EdgeRecord). left_there 0 s (flat_list list)) (rule.kept_sheet l) (rule.kept_edges l)

      lost_is : n < h.end → part (after_flat (take n f) number tables seen sheet edges) ≡ nothing
      lost_is l =
          let less : WithinLimit (take n f) = omega (arith, fits, length-append (take n f) x) in
          let o = sentence_of number (survey_of (take n f)).handed in
          let there : part (after_flat (take n f) number tables seen sheet edges) ≡ numbers_there (opened_as o) =
          ap part (opened_flat tables seen sheet edges sized (take n f) number less) ∙ part_opened (survey_of (take n f)) o in
          let lost : (opened_as o).answer ≡ 24 =
          sym (ap (λ (i : LeftThere). i.answer) there) ∙ ap (λ (i : Left). i.answer) (by_records tables seen sheet edges sized (take n f) number) ∙ rule.lost l in
          there ∙ none_by_24 o lost

  module _ (tables seen sheet edges : List ℕ) (sized : AllFlatSized tables seen sheet edges) (tables2 seen2 sheet2 edges2 : List ℕ) (sized2 : AllFlatSized tables2 seen2 sheet2 edges2) where
    -- as both calls are promised
    pub cut_alike : (x restored : List ℕ) (k : ℕ) → restored ≡ take n f ++ x → WithinLimit restored → number ≡ k → (before after : Left)
        → before ≡ after_flat f k tables seen sheet edges → after ≡ after_flat restored k tables2 seen2 sheet2 edges2
        → CutAlike h n x (part before) (part after)
    cut_alike x restored k e short same before after p q =
        let fits : WithinLimit (take n f ++ x) = subst WithinLimit e short in
        let first : part before ≡ opened_with h.sentence =
        ap part (p ∙ ap (λ (m : ℕ). after_flat f m tables seen sheet edges) (sym same)) ∙ before_is tables seen sheet edges sized in
        let second : part after ≡ part (after_flat (take n f ++ x) number tables2 seen2 sheet2 edges2) =
        ap part (q ∙ ap₂ (λ (g : List ℕ) (m : ℕ). after_flat g m tables2 seen2 sheet2 edges2) e (sym same)) in
        record {
          whole = first;
          kept = λ l. second ∙ kept_is tables2 seen2 sheet2 edges2 sized2 x fits l ∙ sym first;
          lost =
              λ z l.
              second ∙ ap (λ (y : List ℕ). part (after_flat (take n f ++ y) number tables2 seen2 sheet2 edges2)) z
              ∙ ap (λ (g : List ℕ). part (after_flat g number tables2 seen2 sheet2 edges2)) (append-nil (take n f)) ∙ lost_is tables2 seen2 sheet2 edges2 sized2 x fits l;
        }
