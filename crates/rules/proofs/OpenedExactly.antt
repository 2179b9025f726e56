-- An opening answers 0 exactly for the numbers handed out, with that sentence's sheet and edges: no two sentences have the
-- same number. After a cut the sentences of the kept part are opened as before, and no others if nothing follows.
use Prim.Native.Nat.{ℕ, ◌≤◌, ◌<◌}
use native.Mathlib.Omega.{arith}
use mathlib.Core.Path.{◌≡◌, refl, sym, ap, ◌∙◌, subst}
use mathlib.Core.Logic.{◌↔◌}
use mathlib.Core.Bool.{Bool, true, false, ◌||◌}
use Rattle.std.specs.Prelude.{None, Some}
use mathlib.Core.List.{List, [], ◌∷◌, ◌++◌, append-nil, append_assoc}
use lib.ListN.{length, take}
use lib.Seq.{length-take-le}
use lib.Dec.{eqb}
use borrow.Author.Tests.{eq-eqb, ne_eqb, eqb-false, le-leb, lt-leb}
use Rattle.rules.specs.Lists.{pick, member}
use Rattle.rules.specs.Reading.{Handed, numbers}
use Rattle.rules.specs.Sheets.{EdgeRecord, sentence_sheet, edge_list}
use Rattle.rules.specs.Survey.{Survey, survey_of, after_survey}
use Rattle.rules.specs.Opening.{Opened, sentence_of, opened, after_opening}
use Rattle.rules.specs.Same.{handed_number as number_of}
use Rattle.rules.specs.Cutting.{ends_within, ended_within}
use Rattle.rules.specs.LentBuffers.{AllSized, WithinLimit, OpeningRule, CutOpening}
use Rattle.rules.proofs.Conjunctions.{or_left, or_right}
use Rattle.rules.proofs.Elements.{any_map}
use Rattle.rules.proofs.SaidOfLists.{never_both}
use Rattle.rules.proofs.Sorting.{Distinct, has}
use Rattle.rules.proofs.Cut.{within_append}
use Rattle.rules.proofs.CutRule.{cut_rule}
use Rattle.rules.proofs.NumbersDiffer.{numbers_differ}
use Rattle.rules.proofs.Sizes.{sheets_fit_lem, all_fit_lem, all_misfit, within_fits, long_misfits}

-- ---- looking for a number

pub has_around : (n : ℕ) (front : List Handed) (h : Handed) (back : List Handed) → has number_of n (front ++ (h ∷ back)) ≡ false → eqb n (number_of h) ≡ false
has_around n [] h back e = or_left (eqb n (number_of h)) (has number_of n back) e
has_around n (g ∷ front) h back e = has_around n front h back (or_right (eqb n (number_of g)) (has number_of n (front ++ (h ∷ back))) e)

pub other_way : (m n : ℕ) → eqb m n ≡ false → eqb n m ≡ false
other_way m n e = ne_eqb n m (λ z. eqb-false m n e (sym z))

found : (front : List Handed) (h : Handed) (back : List Handed) → Distinct number_of (front ++ (h ∷ back)) → sentence_of (number_of h) (front ++ (h ∷ back)) ≡ Some h.sentence
found [] h back d = rw (eq-eqb (number_of h) (number_of h) refl)
found (g ∷ front) h back d = rw (other_way (number_of g) (number_of h) (has_around (number_of g) front h back d.0)) (found front h back d.1)

not_found : (n : ℕ) (hs : List Handed) → member n (numbers hs) ≡ false → sentence_of n hs ≡ None
not_found n [] e = refl
not_found n (h ∷ hs) e = rw (or_left (eqb n (number_of h)) (member n (numbers hs)) e) (not_found n hs (or_right (eqb n (number_of h)) (member n (numbers hs)) e))

-- ---- the rule

zero_found : (v : Survey) (n : ℕ) (hs : List Handed) → ((opened v (sentence_of n hs)).answer ≡ 0) ↔ (member n (numbers hs) ≡ true)
zero_found v n [] = (λ e. absurd (omega (arith, e)), λ e. absurd (never_both false e refl))
zero_found v n (h ∷ hs) = by (eqb n (number_of h)) (zero_found v n hs)
  where
    by : (t : Bool) → ((opened v (sentence_of n hs)).answer ≡ 0) ↔ (member n (numbers hs) ≡ true)
        → ((opened v (pick t (Some h.sentence) (sentence_of n hs))).answer ≡ 0) ↔ ((t || member n (numbers hs)) ≡ true)
    by true more = (λ e. refl, λ e. refl)
    by false more = more

module _ (file : List ℕ) (n : ℕ) (tables seen sheet : List ℕ) (edges : List EdgeRecord) where
  pub opens : AllSized tables seen sheet edges → WithinLimit file → after_opening file n tables seen sheet edges ≡ opened (survey_of file) (sentence_of n (survey_of file).handed)
  unfolding after_opening
  opens s h = rw (all_fit_lem tables seen sheet edges s, within_fits file h)

  pub opened_exactly : OpeningRule file n tables seen sheet edges
  unfolding after_opening after_survey
  opened_exactly =
      record {
        wrong_size = λ other. rw (all_misfit tables seen sheet edges other);
        too_long = λ s h. rw (all_fit_lem tables seen sheet edges s, long_misfits file h);
        exactly = λ s h. subst (λ (o : Opened). (o.answer ≡ 0) ↔ (member n (numbers (survey_of file).handed) ≡ true)) (sym (opens s h)) (zero_found (survey_of file) n (survey_of file).handed);
        given =
            λ s h front g back e q.
            opens s h
            ∙ ap (opened (survey_of file)) (ap (sentence_of n) e ∙ ap (λ (m : ℕ). sentence_of m (front ++ (g ∷ back))) (sym q) ∙ found front g back (subst (Distinct number_of) e (numbers_differ file).sentences))
            ∙ rw (sheets_fit_lem tables seen s.sheets, within_fits file h);
        absent =
            λ s h e.
            opens s h ∙ ap (opened (survey_of file)) (not_found n (survey_of file).handed e) ∙ rw (sheets_fit_lem tables seen s.sheets, within_fits file h);
      }

-- ---- after a cut

within_around : (n : ℕ) (front : List Handed) (h : Handed) (back : List Handed) → h.end ≤ n → ended_within n (front ++ (h ∷ back)) ≡ ended_within n front ++ (h ∷ ended_within n back)
within_around n front h back l = within_append n front (h ∷ back) ∙ rw (le-leb h.end n l)

-- fewer sentences have fewer numbers
fewer : (m n : ℕ) (hs : List Handed) → has number_of m hs ≡ false → has number_of m (ended_within n hs) ≡ false
fewer m n [] e = refl
fewer m n (h ∷ hs) e =
    by (ends_within n h) (or_left (eqb m (number_of h)) (has number_of m hs) e) (fewer m n hs (or_right (eqb m (number_of h)) (has number_of m hs) e))
  where
    by : (t : Bool) → eqb m (number_of h) ≡ false → has number_of m (ended_within n hs) ≡ false → has number_of m (pick t (h ∷ ended_within n hs) (ended_within n hs)) ≡ false
    by true a b = rw (a, b)
    by false a b = b

lost_number : (n : ℕ) (front : List Handed) (h : Handed) (back : List Handed) → n < h.end → Distinct number_of (front ++ (h ∷ back)) → has number_of (number_of h) (ended_within n (front ++ (h ∷ back))) ≡ false
lost_number n [] h back l d = rw (lt-leb h.end n l) (fewer (number_of h) n back d.0)
lost_number n (g ∷ front) h back l d =
    by (ends_within n g) (other_way (number_of g) (number_of h) (has_around (number_of g) front h back d.0)) (lost_number n front h back l d.1)
  where
    by : (t : Bool) → eqb (number_of h) (number_of g) ≡ false → has number_of (number_of h) (ended_within n (front ++ (h ∷ back))) ≡ false
        → has number_of (number_of h) (pick t (g ∷ ended_within n (front ++ (h ∷ back))) (ended_within n (front ++ (h ∷ back)))) ≡ false
    by true a b = rw (a, b)
    by false a b = b

module _ (f : List ℕ) (n : ℕ) (whole : WithinLimit f) (inside : n ≤ length f) (front : List Handed) (h : Handed) (back : List Handed) (its : (survey_of f).handed ≡ front ++ (h ∷ back))
    (tables seen sheet : List ℕ) (edges : List EdgeRecord) (sized : AllSized tables seen sheet edges) where
  kept_opened : (x : List ℕ) → WithinLimit (take n f ++ x) → h.end ≤ n
      → after_opening (take n f ++ x) (number_of h) tables seen sheet edges
      ≡ record {
        answer = 0;
        tables = (after_survey (take n f ++ x) tables seen).tables;
        seen = (after_survey (take n f ++ x) tables seen).seen;
        sheet = sentence_sheet h.sentence;
        edges = edge_list h.sentence;
      }
  kept_opened x fits l =
      let c = cut_rule f n x inside whole fits in
      (opened_exactly (take n f ++ x) (number_of h) tables seen sheet edges).given sized fits (ended_within n front) h (ended_within n back ++ c.others)
      (c.first ∙ ap (λ (hs : List Handed). hs ++ c.others) (ap (ended_within n) its ∙ within_around n front h back l) ∙ append_assoc (ended_within n front) (h ∷ ended_within n back) c.others)
      refl

  lost_opened : n < h.end → (after_opening (take n f) (number_of h) tables seen sheet edges).answer ≡ 24
  lost_opened l =
      let fits : WithinLimit (take n f) = omega (arith, length-take-le n f inside) in
      let c = cut_rule f n [] inside whole (subst WithinLimit (sym (append-nil (take n f))) fits) in
      let handed : (survey_of (take n f)).handed ≡ ended_within n (survey_of f).handed =
      ap (λ (l : List ℕ). (survey_of l).handed) (sym (append-nil (take n f))) ∙ c.first ∙ ap (λ (hs : List Handed). ended_within n (survey_of f).handed ++ hs) (c.alone refl) ∙ append-nil (ended_within n (survey_of f).handed) in
      let gone : member (number_of h) (numbers (survey_of (take n f)).handed) ≡ false =
      any_map (eqb (number_of h)) number_of (survey_of (take n f)).handed
      ∙ ap (has number_of (number_of h)) (handed ∙ ap (ended_within n) its)
      ∙ lost_number n front h back l (subst (Distinct number_of) its (numbers_differ f).sentences) in
      ap (λ (o : Opened). o.answer) ((opened_exactly (take n f) (number_of h) tables seen sheet edges).absent sized fits gone)

  pub cut_opened : (x : List ℕ) → WithinLimit (take n f ++ x) → CutOpening f n x h tables seen sheet edges
  cut_opened x fits =
      record {
        kept = λ l. ap (λ (o : Opened). o.answer) (kept_opened x fits l);
        kept_sheet = λ l. ap (λ (o : Opened). o.sheet) (kept_opened x fits l);
        kept_edges = λ l. ap (λ (o : Opened). o.edges) (kept_opened x fits l);
        lost = lost_opened;
      }
