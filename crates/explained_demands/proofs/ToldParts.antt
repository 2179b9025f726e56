-- What document 02 says of explaining a tag, told of a call whose number and sheets are the rules', and which tells a text that
-- stands in a file by its place or as its bytes: the theorems over the rules, one for each way out.
use Prim.Native.Nat.{ℕ}
use native.Mathlib.Omega.{arith}
use mathlib.Core.Path.{◌≡◌, sym, ap, subst, ◌∙◌}
use mathlib.Core.Logic.{◌≢◌}
use mathlib.Core.List.{List, []}
use Rattle.rules.specs.Texts.{Text, no_text}
use Rattle.rules.specs.Survey.{survey_of}
use Rattle.rules.specs.Places.{LiesIn}
use Rattle.rules.specs.Explaining.{Explanation, refused_by, explained, ExplainingOutcome, after_explaining}
use Rattle.rules.proofs.ExplainedThere.{nothing_lies, part_stands}
use Rattle.rules.proofs.ExplainedExactly.{explained_exactly, explaining_call}
use Rattle.explaining.specs.declared.Explained.{Explained}
use Rattle.explaining.specs.Promise.{Placed, placed, place_outcome, PartTold, part_told, part_outcome}
use Rattle.explained_demands.specs.ExplainedAs.{PlacedPart, GivenPart, Telling, Refused, Granted, Readable, ExplainedAs}

module _ (file list : List ℕ) (place : ℕ) (tag tables seen : List ℕ) where
  abbrev o : ExplainingOutcome
  o = after_explaining file list place tag tables seen

  module _ (refusal : ℕ) (Part : Telling) (tables' seen' : List ℕ) (number : refusal ≡ o.answer.refusal) (left : tables' ≡ o.tables)
      (left_seen : seen' ≡ o.seen)
      (told : (whole : List ℕ) → LiesIn whole o.answer.part → Part o.answer.of whole o.answer.part) where
    as_answered : (a : Explanation) → o.answer ≡ a → (whole : List ℕ) → LiesIn whole a.part → Part a.of whole a.part
    as_answered a e whole l =
        subst (λ (x : Explanation). Part x.of whole x.part) e
        (told whole (subst (λ (x : Explanation). LiesIn whole x.part) (sym e) l))

    refused_by_lem : (n : ℕ) → o.answer ≡ refused_by n → Refused refusal Part n
    refused_by_lem n e =
        record { number = number ∙ ap (λ (x : Explanation). x.refusal) e; empty = as_answered (refused_by n) e [] (nothing_lies []) }

    untouched : (n : ℕ) → o ≡ record { answer = refused_by n; tables = tables; seen = seen } → Refused refusal Part n × (tables' ≡ tables)
        × (seen' ≡ seen)
    untouched n e = (
      refused_by_lem n (ap (λ (x : ExplainingOutcome). x.answer) e),
      left ∙ ap (λ (x : ExplainingOutcome). x.tables) e,
      left_seen ∙ ap (λ (x : ExplainingOutcome). x.seen) e,
    )

    read : Readable file list tables seen → o.answer ≡ explained (survey_of file) (survey_of list) place tag
    read k =
        ap (λ (x : ExplainingOutcome). x.answer)
        ((explaining_call file list place tag tables seen).told k.sized k.file_within k.list_within)

    of_file : (t : Text) → o.answer ≡ record { refusal = 0; of = 1; part = t } → Granted refusal Part 1 file t
    of_file t e =
        record {
          number = number ∙ ap (λ (x : Explanation). x.refusal) e;
          part =
              as_answered (record { refusal = 0; of = 1; part = t }) e file
              (subst (λ (x : Explanation). LiesIn file x.part) e
              ((part_stands file list place tag tables seen).in_file
              (λ w. let z : ◌≡◌ {A = ℕ} 1 2 = sym (ap (λ (x : Explanation). x.of) e) ∙ w in omega (arith, z))));
        }

    of_list : (t : Text) → o.answer ≡ record { refusal = 0; of = 2; part = t } → Granted refusal Part 2 list t
    of_list t e =
        record {
          number = number ∙ ap (λ (x : Explanation). x.refusal) e;
          part =
              as_answered (record { refusal = 0; of = 2; part = t }) e list
              (subst (λ (x : Explanation). LiesIn list x.part) e
              ((part_stands file list place tag tables seen).in_list (ap (λ (x : Explanation). x.of) e)));
        }

    none_told : refusal ≢ 0 → Part 0 [] no_text
    none_told d =
        let k = (part_stands file list place tag tables seen).refused (λ e. d (number ∙ e)) in
        subst (λ (n : ℕ). Part n [] no_text) k.0
        (subst (λ (t : Text). Part o.answer.of [] t) k.1
        (told [] (subst (LiesIn []) (sym k.1) (nothing_lies []))))

    explained_as : ExplainedAs file list place tag tables seen refusal Part tables' seen'
    explained_as =
        let call = explaining_call file list place tag tables seen in
        let rule = explained_exactly file list place tag in
        record {
          wrong_size = λ other. untouched 1 (call.wrong_size other);
          file_too_long = λ s h. untouched 2 (call.file_too_long s h);
          list_too_long = λ s w h. untouched 2 (call.list_too_long s w h);
          zeros =
              λ k. (
                left ∙ ap (λ (x : ExplainingOutcome). x.tables) (call.told k.sized k.file_within k.list_within),
                left_seen ∙ ap (λ (x : ExplainingOutcome). x.seen) (call.told k.sized k.file_within k.list_within),
              );
          file_first = λ k d. refused_by_lem (survey_of file).refusal (read k ∙ rule.file_first d);
          then_list = λ k a d. refused_by_lem (survey_of list).refusal (read k ∙ rule.then_list a d);
          by_file = λ k a b n rs t at e tells. of_file t (read k ∙ rule.by_file a b n rs t at e tells);
          by_list = λ k a b n rs t at f e tells. of_list t (read k ∙ rule.by_list a b n rs t at f e tells);
          exactly =
              λ k a b.
              let same_number = number ∙ ap (λ (x : Explanation). x.refusal) (read k) in (
                λ e. (rule.exactly a b).0 (sym same_number ∙ e),
                λ u. same_number ∙ (rule.exactly a b).1 u,
              );
          refused = none_told;
        }

  -- ---- by place and length

  pub placed_as : (answer : Explained) (tables' seen' : List ℕ) → place_outcome answer tables' seen' ≡ placed o
      → ExplainedAs file list place tag tables seen answer.refusal (PlacedPart answer) tables' seen'
  placed_as answer tables' seen' e =
      let a : answer ≡ (placed o).answer = ap (λ (x : Placed). x.answer) e in
      explained_as answer.refusal (PlacedPart answer) tables' seen' (ap (λ (x : Explained). x.refusal) a)
      (ap (λ (x : Placed). x.tables) e)
      (ap (λ (x : Placed). x.seen) e)
      (λ whole l.
      record {
        of = ap (λ (x : Explained). x.of) a;
        start = ap (λ (x : Explained). x.start) a;
        len = ap (λ (x : Explained). x.len) a;
        found = rw a l.found;
      })

  -- ---- as the part itself

  pub given_as : (refusal : ℕ) (part tables' seen' : List ℕ) → part_outcome refusal part tables' seen' ≡ part_told o
      → ExplainedAs file list place tag tables seen refusal (GivenPart part) tables' seen'
  given_as refusal part tables' seen' e =
      let own = ap (λ (x : PartTold). x.bytes) e in
      explained_as refusal (GivenPart part) tables' seen' (ap (λ (x : PartTold). x.refusal) e) (ap (λ (x : PartTold). x.tables) e)
      (ap (λ (x : PartTold). x.seen) e)
      (λ whole l. record { own = own; found = own ∙ sym l.found })
