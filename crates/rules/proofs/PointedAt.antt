-- Document 02, request 4, of every file: the place of its refusal. By its first faulty line and what that line's step says of
-- the place, else by the file's end.
use Prim.Native.Nat.{ℕ}
use native.Mathlib.Nat.{zero-add}
use native.Mathlib.Omega.{arith}
use mathlib.Core.Path.{◌≡◌, refl, sym, ap, ◌∙◌, subst}
use mathlib.Core.Bool.{Bool, true, false, ◌&&◌, false≢true}
use Rattle.std.specs.Prelude.{Option, None, Some}
use mathlib.Core.List.{List, [], ◌∷◌, ◌++◌}
use lib.ListN.{length, length-append}
use lib.Dec.{leb}
use borrow.Author.Tests.{leb-true, leb-false}
use Rattle.rules.specs.Lists.{pick, member}
use Rattle.rules.specs.Texts.{Text}
use Rattle.rules.specs.Numbers.{file_limit}
use Rattle.rules.specs.Rules.{Fault, fault_of}
use Rattle.rules.specs.Tables.{origins, editors, present}
use Rattle.rules.specs.Phases.{Phase, start, top, in_table, in_sentence, behind_sentence, at_end}
use Rattle.rules.specs.Reading.{begin, numbers, read, closing, closing_unless}
use Rattle.rules.specs.Survey.{Survey, survey_of, nothing_read}
use Rattle.rules.specs.LentBuffers.{WithinLimit, TooLong}
use Rattle.rules.specs.Refusals.{Clean}
use Rattle.rules.specs.ColumnsAtFault.{pointing, Breaks}
use Rattle.rules.specs.PointedAt.{AtColumn, FaultyLine, at_line, at_rest, at_end_lem, too_long, PlaceRule}
use Rattle.rules.proofs.Cut.{grow}
use Rattle.rules.proofs.PointedRules.{Places, Placing}
use Rattle.rules.proofs.PointedSteps.{InsideLine, step_placing, step_inside}
use Rattle.rules.proofs.CleanFronts.{Fresh, survey_is, refused_here}
use Rattle.rules.proofs.LastLine.{unended_only}
use Rattle.rules.proofs.FirstFaulty.{FirstFaulty, first_faulty}

pub fresh_clean : (front : List ℕ) → WithinLimit front → Fresh front → Clean front
fresh_clean front fits k =
    record { fits = fits; place = ap (λ (v : Survey). v.place) (survey_is front fits) ∙ rw (k.sound, k.unbegun) k.at }

-- ---- a line is refused

module _ (file : List ℕ) (fits : WithinLimit file) (g : Fault) (faulty : (read begin file).fault ≡ Some g) where
  abbrev k : FirstFaulty file g
  k = first_faulty file g faulty

  abbrev line : Text
  line = record { start = length (first_faulty file g faulty).front; bytes = (first_faulty file g faulty).bytes }

  abbrev phase : Phase
  phase = (read begin (first_faulty file g faulty).front).phase

  fault_is : g ≡ fault_of (first_faulty file g faulty).by
  fault_is = k.fault

  refusal_is : (survey_of file).refusal ≡ (first_faulty file g faulty).by.number
  refusal_is =
      ap (λ (v : Survey). v.refusal) (survey_is file fits) ∙ ap (λ (o : Option Fault). (closing_unless o (read begin file)).number) faulty ∙ ap (λ (f : Fault). f.number) fault_is

  place_is : (survey_of file).place ≡ (first_faulty file g faulty).by.about.start
  place_is = ap (λ (v : Survey). v.place) (survey_is file fits) ∙ ap (λ (o : Option Fault). (closing_unless o (read begin file)).place) faulty ∙ ap (λ (f : Fault). f.place) fault_is

  places : Places (Breaks phase line) line (first_faulty file g faulty).by
  places = subst (Placing (Breaks phase line) line) k.refuses (step_placing line phase (numbers (read begin k.front).handed))

  clean : Clean (first_faulty file g faulty).front
  clean = fresh_clean k.front (omega (arith, fits, ap length k.are, length-append k.front (k.bytes ++ (10 ∷ k.behind)))) k.fresh

  faulty_line : FaultyLine file
  faulty_line =
      record {
        front = k.front;
        bytes = k.bytes;
        behind = k.behind;
        are = k.are;
        clean = clean;
        one_line = k.one_line;
        faulty =
            λ c.
            let r = refused_here k.front clean k.bytes k.one_line [] c.fits k.by k.refuses in
            let i = subst (InsideLine line) k.refuses (step_inside phase (numbers (read begin k.front).handed) line) in
            omega (arith, c.place, r.at, i.1, length-append k.front (k.bytes ++ (10 ∷ [])), length-append k.bytes (10 ∷ []));
      }

  line_refused : PlaceRule file
  unfolding faulty_line
  line_refused =
      record {
        pointed =
            λ p.
            record {
              its = faulty_line;
              at =
                  subst (λ (n : ℕ). AtColumn (Breaks phase line) line n (survey_of file).place) (sym refusal_is)
                  (subst (λ (at : ℕ). AtColumn (Breaks phase line) line k.by.number at) (sym place_is)
                  (places.column (sym (ap (λ (n : ℕ). member n pointing) refusal_is) ∙ p)));
            };
        not_pointed = λ p. at_line faulty_line (place_is ∙ places.first (sym (ap (λ (n : ℕ). member n pointing) refusal_is) ∙ p));
      }

-- ---- no line is refused

end_points : (ph : Phase) → member (at_end ph) pointing ≡ false
end_points start = refl
end_points (top p) = by (present origins p.tables && present editors p.tables)
  where
    by : (t : Bool) → member (pick t 0 13) pointing ≡ false
    by true = refl
    by false = refl
end_points (in_table p n rs) = refl
end_points (in_sentence p s) = refl
end_points (behind_sentence p) = refl

module _ (file : List ℕ) (fits : WithinLimit file) (sound : (read begin file).fault ≡ None) where
  -- what is said at the end, with these bytes behind the last newline
  ended_so : (part : List ℕ) → (read begin file).part ≡ part → (survey_of file).refusal ≡ (closing (read begin file) part).number
  ended_so part e = ap (λ (v : Survey). v.refusal) (survey_is file fits) ∙ ap (λ (o : Option Fault). (closing_unless o (read begin file)).number) sound ∙ ap (λ (l : List ℕ). (closing (read begin file) l).number) e

  ended_at : (part : List ℕ) → (read begin file).part ≡ part → (survey_of file).place ≡ (closing (read begin file) part).place
  ended_at part e = ap (λ (v : Survey). v.place) (survey_is file fits) ∙ ap (λ (o : Option Fault). (closing_unless o (read begin file)).place) sound ∙ ap (λ (l : List ℕ). (closing (read begin file) l).place) e

  no_line_refused : PlaceRule file
  no_line_refused = by (read begin file).part refl
    where
      by : (part : List ℕ) → (read begin file).part ≡ part → PlaceRule file
      by [] e =
          record {
            pointed = λ p. absurd (false≢true (sym (end_points (read begin file).phase) ∙ sym (ap (λ (n : ℕ). member n pointing) (ended_so [] e)) ∙ p));
            not_pointed = λ p. at_end_lem (record { fits = fits; place = ended_at [] e ∙ (grow begin file).place ∙ zero-add (length file) });
          }
      by (b ∷ bs) e =
          record {
            pointed = λ p. absurd (false≢true (sym (ap (λ (n : ℕ). member n pointing) (ended_so (b ∷ bs) e)) ∙ p));
            not_pointed = λ p. at_rest (ended_so (b ∷ bs) e) (unended_only file fits (ended_so (b ∷ bs) e));
          }

-- ---- every file

pub pointed_at : (file : List ℕ) → PlaceRule file
unfolding survey_of
pointed_at file = by (leb (length file) file_limit) refl
  where
    within : WithinLimit file → (o : Option Fault) → (read begin file).fault ≡ o → PlaceRule file
    within fits None e = no_line_refused file fits e
    within fits (Some g) e = line_refused file fits g e

    unread : TooLong file → survey_of file ≡ nothing_read 2 → PlaceRule file
    unread long e =
        record {
          pointed = λ p. absurd (false≢true (sym (ap (λ (v : Survey). member v.refusal pointing) e) ∙ p));
          not_pointed = λ p. too_long long (ap (λ (v : Survey). v.place) e);
        }

    by : (t : Bool) → leb (length file) file_limit ≡ t → PlaceRule file
    by true e = within (leb-true (length file) file_limit e) (read begin file).fault refl
    by false e = unread (leb-false (length file) file_limit e) (rw e)
