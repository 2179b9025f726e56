-- A writing is granted exactly if the file is accepted and its tidy text fits; what is then written is read back by the round
-- trip. By the tests that the answer is made of.
use Prim.Native.Nat.{ℕ, ◌+◌, ◌≤◌}
use native.Mathlib.Omega.{arith}
use mathlib.Core.Path.{◌≡◌, refl, sym, ap, ◌∙◌, subst}
use mathlib.Core.Logic.{◌↔◌, ◌⊎◌, inl, inr}
use mathlib.Core.Bool.{Bool, true, false, ◌&&◌}
use mathlib.Core.List.{List, ◌++◌}
use lib.ListN.{length, take, drop, length-append, length-drop}
use lib.Seq.{take-append_seam, drop-append_seam}
use lib.Dec.{leb, eqb}
use borrow.Author.Tests.{eq-eqb, ne_eqb, eqb-true, le-leb, leb-true}
use Rattle.rules.specs.Lists.{pick}
use Rattle.rules.specs.Sheets.{EdgeRecord}
use Rattle.rules.specs.Survey.{survey_of, after_survey, file_fits}
use Rattle.rules.specs.Opening.{all_fit}
use Rattle.rules.specs.Same.{SameTables, SameSentences}
use Rattle.rules.specs.Writing.{tidy_of, Written, WritingOutcome, writing_answer, output_after, after_writing}
use Rattle.rules.specs.LentBuffers.{AllSized, WithinLimit}
use Rattle.rules.specs.WritingRule.{HasRoom, BuffersAfter, GrantedWriting, WritingRule}
use Rattle.rules.proofs.Conjunctions.{and_left, and_right, and_both, false_if_never}
use Rattle.rules.proofs.SaidOfLists.{never_both}
use Rattle.rules.proofs.RoundTrip.{round_trip}
use Rattle.rules.proofs.Sizes.{sheets_fit_lem, all_fit_lem, all_misfit, within_fits, long_misfits}

-- ---- the tests

module _ (file output : List ℕ) where
  abbrev size : ℕ
  size = length (tidy_of file)

  abbrev roomy : Bool
  roomy = leb size (length output) && leb size 268435456

  room_test : HasRoom file output → roomy ≡ true
  room_test h = and_both (leb size (length output)) (leb size 268435456) (le-leb size (length output) h.in_output) (le-leb size 268435456 h.in_limit)

  test_room : roomy ≡ true → HasRoom file output
  test_room e =
      record {
        in_output = leb-true size (length output) (and_left (leb size (length output)) (leb size 268435456) e);
        in_limit = leb-true size 268435456 (and_right (leb size (length output)) (leb size 268435456) e);
      }

  -- ---- the answer to a file within the limit

  answer_granted : (survey_of file).refusal ≡ 0 → HasRoom file output → writing_answer file output ≡ record { refusal = 0; place = length file; written = size }
  answer_granted e h = rw (eq-eqb (survey_of file).refusal 0 e, room_test h)

  answer_no_room : (survey_of file).refusal ≡ 0 → (HasRoom file output → ⊥) → writing_answer file output ≡ record { refusal = 25; place = length file; written = 0 }
  answer_no_room e h = rw (eq-eqb (survey_of file).refusal 0 e, false_if_never roomy (λ t. h (test_room t)))

  answer_refused : ((survey_of file).refusal ≡ 0 → ⊥) → writing_answer file output ≡ record { refusal = (survey_of file).refusal; place = (survey_of file).place; written = 0 }
  answer_refused e = rw (ne_eqb (survey_of file).refusal 0 e)

  granted_why : (writing_answer file output).refusal ≡ 0 → ((survey_of file).refusal ≡ 0) × HasRoom file output
  granted_why z = by (eqb (survey_of file).refusal 0) refl roomy refl z
    where
      by : (t : Bool) → eqb (survey_of file).refusal 0 ≡ t → (u : Bool) → roomy ≡ u
          → (pick {X = Written} t (pick u (record { refusal = 0; place = length file; written = size }) (record { refusal = 25; place = length file; written = 0 }))
          (record { refusal = (survey_of file).refusal; place = (survey_of file).place; written = 0 })).refusal ≡ 0
          → ((survey_of file).refusal ≡ 0) × HasRoom file output
      by true e true f z = (eqb-true (survey_of file).refusal 0 e, test_room f)
      by true e false f z = absurd (omega (arith, z))
      by false e u f z = absurd (never_both (eqb (survey_of file).refusal 0) (eq-eqb (survey_of file).refusal 0 z) e)

  output_granted : (writing_answer file output).refusal ≡ 0 → output_after file output ≡ tidy_of file ++ drop size output
  output_granted z = rw (eq-eqb (writing_answer file output).refusal 0 z)

  output_refused : ((writing_answer file output).refusal ≡ 0 → ⊥) → output_after file output ≡ output
  output_refused z = rw (ne_eqb (writing_answer file output).refusal 0 z)

  -- the first bytes are the text, and the round trip reads them back
  granted_writing : (o : WritingOutcome) → o.answer ≡ writing_answer file output → o.output ≡ output_after file output → o.answer.refusal ≡ 0 → GrantedWriting file output o
  granted_writing o a b z =
      let zero : (writing_answer file output).refusal ≡ 0 = sym (ap (λ (w : Written). w.refusal) a) ∙ z in
      let why = granted_why zero in
      let answer = a ∙ answer_granted why.0 why.1 in
      let length_is : o.answer.written ≡ size = ap (λ (w : Written). w.written) answer in
      let filled : o.output ≡ tidy_of file ++ drop size output = b ∙ output_granted zero in
      let text : take o.answer.written o.output ≡ tidy_of file =
      ap (λ (n : ℕ). take n o.output) length_is ∙ ap (take size) filled ∙ take-append_seam (tidy_of file) (drop size output) in
      let back = round_trip file why.0 why.1.in_limit in
      record {
        place = ap (λ (w : Written). w.place) answer;
        written = length_is;
        text = text;
        rest = ap (λ (n : ℕ). drop n o.output) length_is ∙ ap (drop size) filled ∙ drop-append_seam (tidy_of file) (drop size output) ∙ ap (λ (n : ℕ). drop n output) (sym length_is);
        size = ap length filled ∙ length-append (tidy_of file) (drop size output) ∙ (let d = length-drop size output in let g : size + length (drop size output) ≡ length output = omega (arith, why.1.in_output) in g);
        accepted = ap (λ (l : List ℕ). (survey_of l).refusal) text ∙ back.0;
        tables = subst (λ (l : List ℕ). SameTables l file) (sym text) back.1.tables;
        sentences = subst (λ (l : List ℕ). SameSentences l file) (sym text) back.1.sentences;
      }

-- ---- with the lent buffers

module _ (file tables seen sheet : List ℕ) (edges : List EdgeRecord) (output : List ℕ) where
  abbrev after : WritingOutcome
  after = after_writing file tables seen sheet edges output

  module _ (s : AllSized tables seen sheet edges) (h : WithinLimit file) where
    answers : after.answer ≡ writing_answer file output
    unfolding after_writing
    answers = rw (all_fit_lem tables seen sheet edges s, within_fits file h)

    buffers_after : BuffersAfter file tables seen after
    unfolding after_writing after_survey
    buffers_after =
        record {
          table_sheet_lem = rw (all_fit_lem tables seen sheet edges s, within_fits file h, sheets_fit_lem tables seen s.sheets);
          seen_set_lem = rw (all_fit_lem tables seen sheet edges s, within_fits file h, sheets_fit_lem tables seen s.sheets);
          sentence_sheet_lem = rw (all_fit_lem tables seen sheet edges s, within_fits file h);
          edge_list_lem = rw (all_fit_lem tables seen sheet edges s, within_fits file h);
        }

    exactly_then : (after.answer.refusal ≡ 0) ↔ (((survey_of file).refusal ≡ 0) × HasRoom file output)
    exactly_then =
        (λ z. granted_why file output (sym (ap (λ (w : Written). w.refusal) answers) ∙ z), λ k. ap (λ (w : Written). w.refusal) (answers ∙ answer_granted file output k.0 k.1))

  -- refused by 1 or by 2, with the output as lent, or answered
  record Answered (o : WritingOutcome) : Type 0 where
    pub answer : o.answer ≡ writing_answer file output
    pub left : o.output ≡ output_after file output

  record Shut (o : WritingOutcome) : Type 0 where
    pub refusal : o.answer.refusal ≡ 0 → ⊥
    pub left : o.output ≡ output

  either_way : Answered after ⊎ Shut after
  unfolding after_writing
  either_way = by (all_fit tables seen sheet edges) refl (file_fits file) refl
    where
      one : (n : ℕ) → 1 ≤ n → n ≡ 0 → ⊥
      one n h e = omega arith

      by : (t : Bool) → all_fit tables seen sheet edges ≡ t → (u : Bool) → file_fits file ≡ u → Answered after ⊎ Shut after
      by true e true f = inl (record { answer = rw (e, f); left = rw (e, f) })
      by true e false f = inr (record { refusal = λ z. one 2 (omega arith) (rw (e, f) at z); left = rw (e, f) })
      by false e u f = inr (record { refusal = λ z. one 1 (omega arith) (rw e at z); left = rw e })

  granted_then : after.answer.refusal ≡ 0 → GrantedWriting file output after
  granted_then z = by either_way
    where
      by : Answered after ⊎ Shut after → GrantedWriting file output after
      by (inl a) = granted_writing file output after a.answer a.left z
      by (inr b) = absurd (b.refusal z)

  untouched_else : (after.answer.refusal ≡ 0 → ⊥) → after.output ≡ output
  untouched_else z = by either_way
    where
      by : Answered after ⊎ Shut after → after.output ≡ output
      by (inl a) = a.left ∙ output_refused file output (λ y. z (ap (λ (w : Written). w.refusal) a.answer ∙ y))
      by (inr b) = b.left

  pub written_exactly : WritingRule file tables seen sheet edges output (after_writing file tables seen sheet edges output)
  unfolding after_writing
  written_exactly =
      record {
        wrong_size = λ other. rw (all_misfit tables seen sheet edges other);
        too_long = λ s h. rw (all_fit_lem tables seen sheet edges s, long_misfits file h);
        buffers = buffers_after;
        exactly = exactly_then;
        granted = granted_then;
        no_room = λ s h e r. answers s h ∙ answer_no_room file output e r;
        refused = λ s h e. answers s h ∙ answer_refused file output e;
        untouched = untouched_else;
      }
