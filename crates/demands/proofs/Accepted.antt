-- Demands 1 and 2, carried to survey: it answers and fills from what is read, and accepts exactly the files that fit.
use Prim.Native.Nat.{ℕ, ◌≤◌}
use native.Mathlib.Omega.{arith}
use mathlib.Core.Path.{◌≡◌, refl, sym, ap, ◌∙◌, subst}
use mathlib.Core.Logic.{◌↔◌}
use mathlib.Core.Bool.{Bool, true, false}
use mathlib.Core.List.{List, ◌++◌, append-nil}
use lib.ListN.{length}
use lib.Dec.{leb}
use Rattle.rules.specs.Lists.{pick, Each}
use Rattle.rules.specs.Numbers.{file_limit}
use Rattle.rules.specs.Reading.{Handed, begin, read, numbers}
use Rattle.rules.specs.Sheets.{seen_set}
use Rattle.rules.specs.Survey.{SurveyOutcome, last_end, answered, nothing_read, survey_of, sheets_fit}
use Rattle.rules.specs.Grammar.{Fits}
use Rattle.rules.proofs.AcceptedExactly.{accepted_exactly, as_written, accepted_contains, accepted_with_buffers}
use Rattle.rules.proofs.EachElement.{each_front}
use Rattle.rules.proofs.References.{references_resolve}
use Rattle.rules.proofs.ParentsClimb.{climbs}
use Rattle.rules.proofs.ParentsOnSheet.{climbs_on_sheet}
use Rattle.seen.specs.Bits.{bit_at}
use Rattle.survey.specs.declared.Surveyed.{Surveyed}
use Rattle.demands.specs.Surveying.{number_of, Surveying, Readable, Seen, Filled, Answered, Promised}
use Rattle.demands.specs.Accepting.{ReadAsWritten}
use Rattle.demands.proofs.Outcomes.{after_read, wrong_size, too_long}
use Rattle.demands.proofs.SentenceNumbers.{in_range, each_seen}

-- ---- what is answered and filled

pub sound_end_is : (f : List ℕ) → (survey_of f).sound_end ≡ last_end (survey_of f).handed
unfolding survey_of
sound_end_is f = by (leb (length f) file_limit)
  where
    by : (t : Bool) → (pick t (answered (read begin f)) (nothing_read 2)).sound_end ≡ last_end (pick t (answered (read begin f)) (nothing_read 2)).handed
    by true = refl
    by false = refl

-- sentences that come first are in the seen set
pub seen_first : (c : Surveying) → c.seen_left ≡ seen_set (numbers (survey_of c.file).handed)
    → (hs others : List Handed) → (survey_of c.file).handed ≡ hs ++ others → Seen c hs
seen_first c seen hs others e =
    let low = each_front (λ (g : Handed). number_of g ≤ 65535) hs others (subst (Each (λ (g : Handed). number_of g ≤ 65535)) e (in_range c.file)) in
    subst (λ (s : List ℕ). Each (λ (g : Handed). bit_at s (number_of g) ≡ true) hs)
    (sym (seen ∙ ap (λ (gs : List Handed). seen_set (numbers gs)) e)) (each_seen hs others low)

pub handed_by_survey : (c : Surveying) → Promised c → Readable c.file c.tables c.seen → Filled c
handed_by_survey c p k =
    let e = p ∙ after_read c.file c.tables c.seen k.sized k.short in
    let seen = ap (λ (o : SurveyOutcome). o.seen) e in
    record {
      refusal = ap (λ (o : SurveyOutcome). o.answer.refusal) e;
      place = ap (λ (o : SurveyOutcome). o.answer.place) e;
      sentences = ap (λ (o : SurveyOutcome). o.answer.sentences) e;
      sound_end = ap (λ (o : SurveyOutcome). o.answer.sound_end) e ∙ sound_end_is c.file;
      tables = ap (λ (o : SurveyOutcome). o.tables) e;
      seen = seen;
      each_seen = seen_first c seen (survey_of c.file).handed _ (sym (append-nil (survey_of c.file).handed));
      references = references_resolve c.file;
      chains = climbs c.file;
      on_sheet = climbs_on_sheet c.file;
    }

pub answered_by_survey : (c : Surveying) → Promised c → Answered c
answered_by_survey c p = record { wrong_size = wrong_size c p; too_long = too_long c p; filled = handed_by_survey c p }

-- ---- what is accepted

pub accepted_by_survey : (c : Surveying) → Promised c → sheets_fit c.tables c.seen ≡ true → (c.answer.refusal ≡ 0) ↔ Fits c.file
accepted_by_survey c p k =
    let same : c.answer.refusal ≡ _ = ap (λ (o : SurveyOutcome). o.answer.refusal) p in
    let exactly = accepted_with_buffers c.file c.tables c.seen k in
    (λ e. exactly.0 (sym same ∙ e), λ h. same ∙ exactly.1 h)

-- buffers of a wrong size are refused
accepted_sized : (c : Surveying) → Promised c → c.answer.refusal ≡ 0 → sheets_fit c.tables c.seen ≡ true
accepted_sized c p e = by (sheets_fit c.tables c.seen) refl
  where
    by : (t : Bool) → sheets_fit c.tables c.seen ≡ t → t ≡ true
    by true s = refl
    by false s = absurd (let z : ◌≡◌ {A = ℕ} 1 0 = sym (ap (λ (a : Surveyed). a.refusal) (wrong_size c p s).answer) ∙ e in omega (arith, z))

pub accepted_as_written : (c : Surveying) → Promised c → c.answer.refusal ≡ 0 → ReadAsWritten c.file c.tables_left c.seen_left
accepted_as_written c p e =
    let sized = accepted_sized c p e in
    let fits = (accepted_by_survey c p sized).0 e in
    let filled = handed_by_survey c p (record { sized = sized; short = fits.1.short }) in
    record {
      contains = accepted_contains c.file ((accepted_exactly c.file).1 fits);
      only = as_written c.file;
      tables = filled.tables;
      seen = filled.seen;
    }
