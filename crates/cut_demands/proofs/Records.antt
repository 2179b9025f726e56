-- Demand 3, unchanged records: what ends within the cut is opened alike from the whole file and from what was restored,
-- number by number and place by place. From the cut rule, and from what an opening finds first.
use Prim.Native.Nat.{ℕ, ◌≤◌}
use mathlib.Core.Path.{◌≡◌, ap, ◌∙◌, subst}
use mathlib.Core.Bool.{true}
use Rattle.std.specs.Prelude.{Some}
use mathlib.Core.List.{List, ◌++◌}
use lib.ListN.{length, take}
use borrow.Author.Tests.{le-leb}
use Rattle.rules.specs.Numbers.{file_limit}
use Rattle.rules.specs.Sentences.{Sentence}
use Rattle.rules.specs.Reading.{Handed}
use Rattle.rules.specs.Sheets.{EdgeRecord}
use Rattle.rules.specs.Survey.{survey_of}
use Rattle.rules.specs.Opening.{sentence_of, Opened, opened, all_fit, after_opening}
use Rattle.rules.specs.Cutting.{ended_within}
use Rattle.rules.proofs.EachElement.{each_then}
use Rattle.rules.proofs.Sorting.{Distinct}
use Rattle.rules.proofs.CutRule.{cut_rule}
use Rattle.demands.specs.Surveying.{number_of}
use Rattle.cut_demands.specs.Opening.{Opens, Unchanged}
use Rattle.cut_demands.proofs.FoundNumbers.{numbers_differ, distinct_front, each_found, found_front}
use Rattle.cut_demands.proofs.CutSurveyed.{front}

-- ---- a sentence that is found is given

after_opening_lem : (f : List ℕ) (k : ℕ) (tables seen sheet : List ℕ) (edges : List EdgeRecord) → all_fit tables seen sheet edges ≡ true → length f ≤ file_limit
    → after_opening f k tables seen sheet edges ≡ opened (survey_of f) (sentence_of k (survey_of f).handed)
unfolding after_opening
after_opening_lem f k tables seen sheet edges e h = rw (e, le-leb (length f) file_limit h)

pub found_opens : (f : List ℕ) (k : ℕ) (s : Sentence) → length f ≤ file_limit → sentence_of k (survey_of f).handed ≡ Some s → Opens f k s
found_opens f k s h found =
    record {
      found = found;
      given = λ tables seen sheet edges e.
          let o = after_opening_lem f k tables seen sheet edges e h ∙ ap (opened (survey_of f)) found in
          record {
            answer = ap (λ (i : Opened). i.answer) o;
            sheet = ap (λ (i : Opened). i.sheet) o;
            edges = ap (λ (i : Opened). i.edges) o;
          };
    }

-- ---- in front of a cut

module _ (f : List ℕ) (n : ℕ) (x : List ℕ) (h : n ≤ length f) (k : length f ≤ file_limit) (m : length (take n f ++ x) ≤ file_limit) where
  -- the sentence of a number, if it ends within the cut
  pub records_unchanged : (i : ℕ) (s : Sentence) → sentence_of i (ended_within n (survey_of f).handed) ≡ Some s → Opens f i s × Opens (take n f ++ x) i s
  records_unchanged i s e =
      let hs = ended_within n (survey_of f).handed in
      let w = front f n h k in
      let c = cut_rule f n x h k m in (
        found_opens f i s k (ap (sentence_of i) w.first ∙ found_front i s hs w.others e),
        found_opens (take n f ++ x) i s m (ap (sentence_of i) c.first ∙ found_front i s hs c.others e),
      )

  -- each sentence that ends within the cut, by its own number
  pub each_unchanged : Unchanged f n x
  each_unchanged =
      let hs = ended_within n (survey_of f).handed in
      let w = front f n h k in
      each_then (λ (g : Handed). sentence_of (number_of g) hs ≡ Some g.sentence)
      (λ (g : Handed). Opens f (number_of g) g.sentence × Opens (take n f ++ x) (number_of g) g.sentence)
      (λ g e. records_unchanged (number_of g) g.sentence e) hs
      (each_found hs (distinct_front hs w.others (subst (Distinct number_of) w.first (numbers_differ f))))
