-- Two writings: of the same lent there is one outcome; of buffers of the right size nothing shows but the length of the output,
-- and its rest behind the bytes written. By the answer of a file within the limit.
use Prim.Native.Nat.{ℕ}
use mathlib.Core.Path.{◌≡◌, refl, sym, ap, ap₂, ◌∙◌}
use mathlib.Core.Bool.{Bool, true, false, ◌&&◌}
use mathlib.Core.List.{List}
use lib.ListN.{length, take, drop}
use native.Mathlib.Omega.{arith}
use lib.Seq.{take_all, take-append_seam, drop-append_seam}
use lib.Dec.{leb, eqb}
use borrow.Author.Tests.{eq-eqb}
use Rattle.rules.specs.Lists.{pick}
use Rattle.rules.specs.Numbers.{file_limit, edge_limit}
use Rattle.rules.specs.Reading.{numbers}
use Rattle.rules.specs.Sheets.{table_sheet, seen_set}
use Rattle.rules.specs.Survey.{survey_of}
use Rattle.rules.specs.Opening.{no_sheet, no_edges}
use Rattle.rules.specs.Writing.{tidy_of, Written, writing_answer, written_over, output_after, after_writing}
use Rattle.rules.specs.LentBuffers.{WithinLimit}
use Rattle.rules.specs.Layout.{flat_list}
use Rattle.rules.proofs.Sizes.{all_fit_lem, within_fits}
use Rattle.opening.specs.FlatLists.{edge_records}
use Rattle.writing.specs.Promise.{WrittenFlat, after_writing_flat}
use Rattle.opened_demands.specs.Calls.{AllFlatSized}
use Rattle.opened_demands.proofs.Outcomes.{as_records}
use Rattle.written_demands.specs.Writings.{TextLeft, SameWritten}

-- ---- the outcome as the contract of the writing says it, and as it is said here

abbrev pub as_text : WrittenFlat → TextLeft
as_text o =
    record {
      refusal = o.answer.refusal;
      place = o.answer.place;
      written = o.answer.written;
      tables = o.tables;
      seen = o.seen;
      sheet = o.sheet;
      edges = o.edges;
      output = o.output;
    }

abbrev pub after_text : List ℕ → List ℕ → List ℕ → List ℕ → List ℕ → List ℕ → TextLeft
after_text file tables seen sheet edges output = as_text (after_writing_flat file tables seen sheet edges output)

-- ---- what is answered and written, with room or without

module _ (file output : List ℕ) where
  abbrev w : ℕ
  w = (writing_answer file output).written

  record Parts (written : ℕ) (left : List ℕ) : Type 0 where
    pub text : take written left ≡ take written (tidy_of file)
    pub rest : drop written left ≡ drop written output

  whole_text : Parts (length (tidy_of file)) (written_over (tidy_of file) output)
  whole_text =
      let t = tidy_of file in
      record {
        text = take-append_seam t (drop (length t) output) ∙ sym (take_all (length t) t (omega arith));
        rest = drop-append_seam t (drop (length t) output);
      }

  -- by whether the file is accepted, and whether there is room
  abbrev answer : Bool → Bool → Written
  answer t u =
      pick t
      (pick u (record { refusal = 0; place = length file; written = length (tidy_of file) }) (record { refusal = 25; place = length file; written = 0 }))
      (record { refusal = (survey_of file).refusal; place = (survey_of file).place; written = 0 })

  parts : Parts w (output_after file output)
  parts = by (eqb (survey_of file).refusal 0) refl (leb (length (tidy_of file)) (length output) && leb (length (tidy_of file)) file_limit)
    where
      by : (t : Bool) → eqb (survey_of file).refusal 0 ≡ t → (u : Bool) → Parts (answer t u).written (pick (eqb (answer t u).refusal 0) (written_over (tidy_of file) output) output)
      by true e true = whole_text
      by true e false = record { text = refl; rest = refl }
      by false e u = rw e (record { text = refl; rest = refl })

-- ---- with buffers of the right size

abbrev filled : List ℕ → List ℕ → WrittenFlat
filled file output =
    record {
      answer = writing_answer file output;
      tables = table_sheet (survey_of file).tables;
      seen = seen_set (numbers (survey_of file).handed);
      sheet = no_sheet;
      edges = flat_list no_edges;
      output = output_after file output;
    }

written_as : (file tables seen sheet edges output : List ℕ) → WithinLimit file → AllFlatSized tables seen sheet edges
    → after_writing_flat file tables seen sheet edges output ≡ filled file output
unfolding after_writing_flat after_writing
written_as file tables seen sheet edges output fits sized =
    rw (eq-eqb (length edges) 2048 sized.sentence.edge_list_lem, all_fit_lem tables seen sheet (edge_records edge_limit edges) (as_records tables seen sheet edges sized), within_fits file fits)

module _ (file tables seen sheet edges output tables2 seen2 sheet2 edges2 output2 : List ℕ) (left left2 : TextLeft)
    (p : left ≡ after_text file tables seen sheet edges output) (q : left2 ≡ after_text file tables2 seen2 sheet2 edges2 output2) where
  pub written_only : output ≡ output2 → tables ≡ tables2 → seen ≡ seen2 → sheet ≡ sheet2 → edges ≡ edges2 → left ≡ left2
  written_only o t s h e =
      p ∙ ap₂ (λ (a b : List ℕ). after_text file a b sheet edges output) t s ∙ ap₂ (λ (a b : List ℕ). after_text file tables2 seen2 a b output) h e
      ∙ ap (after_text file tables2 seen2 sheet2 edges2) o ∙ sym q

  pub written_fresh : WithinLimit file → AllFlatSized tables seen sheet edges → AllFlatSized tables2 seen2 sheet2 edges2 → length output ≡ length output2
      → SameWritten output output2 left left2
  written_fresh fits sized sized2 e =
      let answer : writing_answer file output ≡ writing_answer file output2 = rw e in
      let part = parts file output in
      let part2 = parts file output2 in
      rw (p ∙ ap as_text (written_as file tables seen sheet edges output fits sized), q ∙ ap as_text (written_as file tables2 seen2 sheet2 edges2 output2 fits sized2))
      (record {
        refusal = ap (λ (a : Written). a.refusal) answer;
        place = ap (λ (a : Written). a.place) answer;
        written = ap (λ (a : Written). a.written) answer;
        tables = refl;
        seen = refl;
        sheet = refl;
        edges = refl;
        text = part.text ∙ ap (λ (a : Written). take a.written (tidy_of file)) answer ∙ sym part2.text;
        rest = part.rest;
        rest2 = part2.rest;
      })
