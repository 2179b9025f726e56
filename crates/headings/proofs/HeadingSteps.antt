-- The rules of #BOS in their order: first those of the line as it is written, then those of what it cites.
use Prim.Native.Nat.{ℕ, ◌≤◌, ◌<◌}
use native.Mathlib.Omega.{arith}
use mathlib.Core.Path.{◌≡◌, refl, sym, ap, ◌∙◌}
use mathlib.Core.Bool.{Bool, true, false}
use Rattle.std.specs.Prelude.{Option, None, Some, Result, Ok, Err}
use mathlib.Core.List.{List, [], ◌∷◌, ◌++◌}
use lib.ListN.{length, drop}
use Rattle.rules.specs.Lists.{pick}
use Rattle.rules.specs.Texts.{Text}
use Rattle.rules.specs.Columns.{columns, written, comment}
use Rattle.rules.specs.Numbers.{Kind, sentence_number, origin_id, date, number, signed_id, good, value}
use Rattle.rules.specs.Tables.{Tables}
use Rattle.rules.specs.Sentences.{heading_written, heading_in, heading_cites, heading_of}
use Rattle.rules.specs.Rules.{Rule, rule, checked}
use Rattle.rules.specs.Lines.{taken_as, sentence_begins}
use Rattle.columns.specs.Listing.{span_of}
use Rattle.numbers.proofs.Told.{number_tells}
use Rattle.steps.specs.Faults.{fault, fault_in, or_else}
use Rattle.steps.specs.Steps.{step_of, heading_said}
use Rattle.steps.specs.declared.Fault.{Fault}
use Rattle.steps.specs.declared.HeadingSaid.{HeadingSaid}
use Rattle.steps.specs.declared.Step.{Step}
use Rattle.steps.specs.declared.Step.TheVariants.{SentenceBegins}
use Rattle.steps.proofs.StepLaws.{step_checked, fault_append}
use Rattle.headings.specs.Headings.{whole, four_of, numbers_on, said_heading, heading_on, judged_heading}
use Rattle.headings.specs.declared.bos.HeadingNumbers.{HeadingNumbers}
use Rattle.headings.proofs.BosLines.{whole_comment, whole_long}

-- ---- the line as it is written

module _ (line : Text) where
  abbrev pub behind_columns : Result HeadingNumbers ℕ → Result HeadingSaid Fault
  behind_columns (Ok x) = Ok (said_heading (columns line) x)
  behind_columns (Err k) = Err (fault 8 (written (columns line) k).start)

  abbrev rules : Bool → Option ℕ → Option ℕ → Option ℕ → Option ℕ → List Rule
  rules w n e d o =
      rule 7 line w
      ∷ rule 8 (written (columns line) 1) (good n)
      ∷ rule 8 (written (columns line) 2) (good e)
      ∷ rule 8 (written (columns line) 3) (good d)
      ∷ rule 8 (written (columns line) 4) (good o)
      ∷ []

  abbrev said : Option ℕ → Option ℕ → Option ℕ → Option ℕ → Text → Result HeadingSaid Fault
  said n e d o t =
      Ok (record { number = value n; editor1 = value e; date = value d; origin = value o; comment = span_of t })

  pub as_written : heading_on line ≡ pick (whole (columns line)) (behind_columns (numbers_on (columns line))) (Err (fault 7 line.start))
  unfolding numbers_on fault_in
  as_written =
      by (whole (columns line)) refl (number sentence_number (written (columns line) 1).bytes) (signed_id (written (columns line) 2).bytes)
      (number date (written (columns line) 3).bytes) (number origin_id (written (columns line) 4).bytes)
    where
      by : (w : Bool) → whole (columns line) ≡ w → (n e d o : Option ℕ)
          → or_else (fault_in (rules w n e d o)) (said n e d o (comment (drop 5 (columns line))))
          ≡ pick w (behind_columns (four_of n e d o)) (Err (fault 7 line.start))
      by false q n e d o = refl
      by true q None e d o = refl
      by true q (Some n) None d o = refl
      by true q (Some n) (Some e) None o = refl
      by true q (Some n) (Some e) (Some d) None = refl
      by true q (Some n) (Some e) (Some d) (Some o) = ap (said (Some n) (Some e) (Some d) (Some o)) (whole_comment (columns line) q)

-- ---- a line that says a heading, and one that is at fault

record Passed (f : Result Unit Fault) (g h : HeadingSaid) : Type 0 where
  sound : f ≡ Ok tt
  is : g ≡ h

passed : (f : Result Unit Fault) (g h : HeadingSaid) → or_else f (Ok g) ≡ Ok h → Passed f g h
passed (Ok tt) g h e = record { sound = refl; is = cc }
passed (Err x) g h e = cc

failed : (f : Result Unit Fault) (g : HeadingSaid) (x : Fault) → or_else f (Ok g) ≡ Err x → f ≡ Err x
failed (Ok tt) g x e = cc
failed (Err y) g x e = cc

value_within : (k : Kind) (bs : List ℕ) → value (number k bs) ≤ k.highest
value_within k bs = by (number k bs) refl
  where
    by : (o : Option ℕ) → number k bs ≡ o → value o ≤ k.highest
    by None e = omega arith
    by (Some n) e = (number_tells k bs n e).highest

module _ (line : Text) (h : HeadingSaid) (e : heading_on line ≡ Ok h) where
  sound : Passed (fault_in (heading_written line)) (heading_said (heading_in line)) h
  sound = passed (fault_in (heading_written line)) (heading_said (heading_in line)) h e

  pub said_long : 4 < length (columns line)
  said_long = by (whole (columns line)) refl (sym (as_written line) ∙ e)
    where
      by : (w : Bool) → whole (columns line) ≡ w → pick w (behind_columns line (numbers_on (columns line))) (Err (fault 7 line.start)) ≡ Ok h
          → 4 < length (columns line)
      by true q s = whole_long (columns line) q
      by false q s = cc

  pub said_within : (h.number ≤ sentence_number.highest) × (h.origin ≤ origin_id.highest)
  said_within =
      rw (← sound.is)
      (value_within sentence_number (written (columns line) 1).bytes, value_within origin_id (written (columns line) 4).bytes)

-- ---- the step of the line alone

abbrev alone : Text → Result Step Fault
alone line = step_of (taken_as sentence_begins (checked (heading_written line) (heading_in line)))

alone_checked : (line : Text) → alone line ≡ or_else (fault_in (heading_written line)) (Ok (SentenceBegins (heading_said (heading_in line))))
alone_checked line = step_checked sentence_begins (heading_written line) (heading_in line) refl

pub alone_said : (line : Text) (h : HeadingSaid) → heading_on line ≡ Ok h → alone line ≡ Ok (SentenceBegins h)
alone_said line h e = let s = sound line h e in alone_checked line ∙ rw (s.sound, s.is)

pub alone_failed : (line : Text) (f : Fault) → heading_on line ≡ Err f → alone line ≡ Err f
alone_failed line f e =
    alone_checked line ∙ rw (failed (fault_in (heading_written line)) (heading_said (heading_in line)) f e)

-- ---- what it cites

either_fault : {A : Type 0} (f g : Result Unit Fault) (a : Result A Fault) → or_else (or_else f g) a ≡ or_else f (or_else g a)
either_fault (Ok u) g a = refl
either_fault (Err x) g a = refl

module _ (ts : Tables) (used : ℕ → Bool) (line : Text) where
  abbrev begins : Result Step Fault
  begins = step_of (taken_as sentence_begins (heading_of ts used line))

  written_then_cited : begins ≡ or_else (fault_in (heading_written line)) (judged_heading ts used line (heading_said (heading_in line)))
  unfolding heading_of judged_heading
  written_then_cited =
      step_checked sentence_begins (heading_written line ++ heading_cites ts used line) (heading_in line) refl
      ∙ ap (λ (f : Result Unit Fault). or_else f (Ok (SentenceBegins (heading_said (heading_in line))))) (fault_append (heading_written line) (heading_cites ts used line))
      ∙ either_fault (fault_in (heading_written line)) (fault_in (heading_cites ts used line)) (Ok (SentenceBegins (heading_said (heading_in line))))

  pub then_cited : (h : HeadingSaid) → heading_on line ≡ Ok h → begins ≡ judged_heading ts used line h
  then_cited h e =
      let s = sound line h e in
      written_then_cited
      ∙ ap (λ (f : Result Unit Fault). or_else f (judged_heading ts used line (heading_said (heading_in line)))) s.sound
      ∙ ap (judged_heading ts used line) s.is

  pub not_written : (f : Fault) → heading_on line ≡ Err f → begins ≡ Err f
  not_written f e =
      written_then_cited
      ∙ ap (λ (g : Result Unit Fault). or_else g (judged_heading ts used line (heading_said (heading_in line))))
      (failed (fault_in (heading_written line)) (heading_said (heading_in line)) f e)
