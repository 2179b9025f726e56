-- A granted writing, by what its contract says: its file is accepted, its first bytes are the tidy text, and a survey of them
-- reads the same. A refused one leaves the output as lent. By the tests that come before the answer.
use Prim.Native.Nat.{ℕ}
use native.Mathlib.Omega.{arith}
use mathlib.Core.Path.{◌≡◌, refl, sym, ap, ◌∙◌, subst}
use mathlib.Core.Logic.{◌≢◌}
use mathlib.Core.Bool.{Bool, true, false}
use mathlib.Core.List.{List}
use lib.ListN.{length, take, drop}
use lib.Dec.{eqb}
use borrow.Author.Tests.{eqb-true}
use Rattle.rules.specs.Numbers.{edge_limit}
use Rattle.rules.specs.Reading.{numbers}
use Rattle.rules.specs.Sheets.{EdgeRecord, seen_set}
use Rattle.rules.specs.Survey.{survey_of, file_fits}
use Rattle.rules.specs.Opening.{all_fit}
use Rattle.rules.specs.Writing.{tidy_of, WritingOutcome, writing_answer, after_writing}
use Rattle.rules.specs.LentBuffers.{SheetsSized}
use Rattle.rules.proofs.Sizes.{sheets_fit_lem}
use Rattle.rules.proofs.AcceptedExactly.{accepted_exactly}
use Rattle.rules.proofs.WrittenExactly.{written_exactly}
use Rattle.opening.specs.FlatLists.{edge_records, flat_size}
use Rattle.writing.specs.Promise.{WrittenFlat, flattened, after_writing_flat}
use Rattle.demands.specs.Surveying.{Surveying, Promised}
use Rattle.written_demands.proofs.TidySurveyed.{tidy_by_survey}
use Rattle.written_demands.specs.Writings.{TextLeft, ReadBack}
use Rattle.written_demands.proofs.Alike.{as_text, after_text}

-- ---- the list as records

module _ (file tables seen sheet : List ℕ) (edges : List EdgeRecord) (output : List ℕ) where
  abbrev after : WritingOutcome
  after = after_writing file tables seen sheet edges output

  -- granted, so neither by 1 nor by 2
  record Accepted (o : WritingOutcome) : Type 0 where
    pub refusal : (survey_of file).refusal ≡ 0
    pub seen_set_lem : o.seen ≡ seen_set (numbers (survey_of file).handed)

  accepted_file : (writing_answer file output).refusal ≡ 0 → (survey_of file).refusal ≡ 0
  accepted_file z = by (eqb (survey_of file).refusal 0) refl
    where
      by : (t : Bool) → eqb (survey_of file).refusal 0 ≡ t → (survey_of file).refusal ≡ 0
      by true e = eqb-true (survey_of file).refusal 0 e
      by false e = rw e at z

  granted_accepted : after.answer.refusal ≡ 0 → Accepted after
  unfolding after_writing
  granted_accepted z = by (all_fit tables seen sheet edges) refl (file_fits file) refl
    where
      by : (t : Bool) → all_fit tables seen sheet edges ≡ t → (u : Bool) → file_fits file ≡ u → Accepted after
      by true e true f = record { refusal = accepted_file (rw (e, f) at z); seen_set_lem = rw (e, f) }
      by true e false f = absurd (let y : ◌≡◌ {A = ℕ} 2 0 = rw (e, f) at z in omega (arith, y))
      by false e u f = absurd (let y : ◌≡◌ {A = ℕ} 1 0 = rw e at z in omega (arith, y))

-- ---- the list as plain numbers

module _ (file tables seen sheet edges output : List ℕ) where
  abbrev es : List EdgeRecord
  es = edge_records edge_limit edges

  abbrev left : WrittenFlat
  left = after_writing_flat file tables seen sheet edges output

  pub by_records : left.answer.refusal ≡ 0 → left ≡ flattened (after_writing file tables seen sheet es output)
  unfolding after_writing_flat
  by_records z = by (eqb (length edges) flat_size) refl
    where
      by : (t : Bool) → eqb (length edges) flat_size ≡ t → left ≡ flattened (after_writing file tables seen sheet es output)
      by true e = rw e
      by false e = absurd (let y : ◌≡◌ {A = ℕ} 1 0 = rw e at z in omega (arith, y))

  untouched : left.answer.refusal ≢ 0 → left.output ≡ output
  unfolding after_writing_flat
  untouched ne = by (eqb (length edges) flat_size) refl
    where
      by : (t : Bool) → eqb (length edges) flat_size ≡ t → left.output ≡ output
      by true e = rw e ((written_exactly file tables seen sheet es output).untouched (rw e at ne))
      by false e = rw e

  -- as both calls are promised
  module _ (o : TextLeft) (p : o ≡ after_text file tables seen sheet edges output) where
    pub output_as_lent : o.refusal ≢ 0 → o.output ≡ output
    output_as_lent ne = ap (λ (i : TextLeft). i.output) p ∙ untouched (subst (λ (i : TextLeft). i.refusal ≢ 0) p ne)

    pub read_back : o.refusal ≡ 0 → (again : Surveying) → Promised again → again.file ≡ take o.written o.output
        → SheetsSized again.tables again.seen → ReadBack file output o again
    read_back z again q same sized =
        let zero : left.answer.refusal ≡ 0 = sym (ap (λ (i : TextLeft). i.refusal) p) ∙ z in
        let flat : o ≡ as_text (flattened (after_writing file tables seen sheet es output)) = p ∙ ap as_text (by_records zero) in
        let granted : (after_writing file tables seen sheet es output).answer.refusal ≡ 0 = sym (ap (λ (i : TextLeft). i.refusal) flat) ∙ z in
        let rule = (written_exactly file tables seen sheet es output).granted granted in
        let whole = granted_accepted file tables seen sheet es output granted in
        let text : take o.written o.output ≡ tidy_of file = ap (λ (i : TextLeft). take i.written i.output) flat ∙ rule.text in
        let fits = (accepted_exactly again.file).0 (ap (λ (l : List ℕ). (survey_of l).refusal) (same ∙ text ∙ sym rule.text) ∙ rule.accepted) in
        let alike = tidy_by_survey file again q whole.refusal (same ∙ text) (record { sized = sheets_fit_lem again.tables again.seen sized; short = fits.1.short }) in
        record {
          text = text;
          rest = subst (λ (i : TextLeft). drop i.written i.output ≡ drop i.written output) (sym flat) rule.rest;
          alike = alike;
          seen = alike.seen ∙ sym (ap (λ (i : TextLeft). i.seen) flat ∙ whole.seen_set_lem);
        }
