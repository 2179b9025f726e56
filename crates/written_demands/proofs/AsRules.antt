-- What the contract of the writing says, in the rules' own words: each refusal, and what each buffer then holds. From the rule
-- of writings with a list of records, by whether the buffers have their sizes.
use Prim.Native.Nat.{ℕ, ◌≤◌}
use mathlib.Core.Path.{◌≡◌, refl, sym, ap, ◌∙◌, subst}
use mathlib.Core.Logic.{◌↔◌}
use mathlib.Core.List.{List}
use lib.ListN.{length}
use borrow.Author.Tests.{eq-eqb}
use Rattle.rules.specs.Numbers.{edge_limit}
use Rattle.rules.specs.Sheets.{EdgeRecord}
use Rattle.rules.specs.Survey.{SurveyOutcome, survey_of}
use Rattle.rules.specs.Writing.{Written, WritingOutcome, after_writing}
use Rattle.rules.specs.Layout.{flat_list}
use Rattle.rules.specs.WritingRule.{HasRoom, WritingRule}
use Rattle.rules.proofs.Sizes.{long_misfits, wrong_sizes}
use Rattle.rules.proofs.WrittenExactly.{written_exactly}
use Rattle.opening.specs.FlatLists.{edge_records}
use Rattle.opening.proofs.Flattened.{flat_none}
use Rattle.opened_demands.specs.Calls.{AllFlatSized}
use Rattle.opened_demands.proofs.Outcomes.{as_records}
use Rattle.opened_demands.proofs.AsRules.{fits_all, misfits_all}
use Rattle.writing.specs.Promise.{flattened, after_writing_flat}
use Rattle.writing.proofs.WaysOut.{unfit, too_long}
use Rattle.written_demands.specs.Writings.{TextLeft}
use Rattle.written_demands.specs.WrittenRules.{SheetsAfter, TextGranted, TextRefused, WrittenAsCalled}
use Rattle.written_demands.proofs.Alike.{as_text, after_text}
use Rattle.written_demands.proofs.Granted.{by_records, output_as_lent}

module _ (file tables seen sheet edges output : List ℕ) (o : TextLeft) (p : o ≡ after_text file tables seen sheet edges output) where
  abbrev es : List EdgeRecord
  es = edge_records edge_limit edges

  abbrev records : WritingOutcome
  records = after_writing file tables seen sheet es output

  rule : WritingRule file tables seen sheet es output records
  rule = written_exactly file tables seen sheet es output

  sized_records : AllFlatSized tables seen sheet edges → o ≡ as_text (flattened records)
  unfolding after_writing_flat
  sized_records s = p ∙ rw (eq-eqb (length edges) 2048 s.sentence.edge_list_lem) refl

  granted_records : o.refusal ≡ 0 → o ≡ as_text (flattened records)
  granted_records z = p ∙ ap as_text (by_records file tables seen sheet edges output (sym (ap (λ (i : TextLeft). i.refusal) p) ∙ z))

  buffers_after : AllFlatSized tables seen sheet edges → length file ≤ 268435456 → SheetsAfter file o
  buffers_after s h =
      let same = sized_records s in
      let b = rule.buffers (as_records tables seen sheet edges s) h in
      let v = (wrong_sizes file tables seen).filled s.sheets h in
      record {
        table_sheet_lem = ap (λ (i : TextLeft). i.tables) same ∙ b.table_sheet_lem ∙ ap (λ (x : SurveyOutcome). x.tables) v;
        seen_set_lem = ap (λ (i : TextLeft). i.seen) same ∙ b.seen_set_lem ∙ ap (λ (x : SurveyOutcome). x.seen) v;
        sentence_sheet_lem = ap (λ (i : TextLeft). i.sheet) same ∙ b.sentence_sheet_lem;
        edge_list_lem = ap (λ (i : TextLeft). i.edges) same ∙ ap flat_list b.edge_list_lem ∙ flat_none edge_limit;
      }

  text_granted : o.refusal ≡ 0 → TextGranted file output o
  text_granted z =
      let same = granted_records z in
      let g = rule.granted (sym (ap (λ (i : TextLeft). i.refusal) same) ∙ z) in
      rw same
      (record {
        place = g.place;
        written = g.written;
        text = g.text;
        rest = g.rest;
        size = g.size;
      })

  -- by the answer of the records
  refused_so : AllFlatSized tables seen sheet edges → (n place : ℕ) → records.answer ≡ record { refusal = n; place = place; written = 0 } → TextRefused n place o
  refused_so s n place e =
      let same = sized_records s in
      record {
        refusal = ap (λ (i : TextLeft). i.refusal) same ∙ ap (λ (a : Written). a.refusal) e;
        place_is = ap (λ (i : TextLeft). i.place) same ∙ ap (λ (a : Written). a.place) e;
        written = ap (λ (i : TextLeft). i.written) same ∙ ap (λ (a : Written). a.written) e;
      }

  pub as_called : WrittenAsCalled file tables seen sheet edges output o
  as_called =
      record {
        wrong_size =
            λ other.
            p ∙ sym (ap as_text (unfit file tables seen sheet edges output (record { refusal = 1; place = 0; length = 0 }) (misfits_all tables seen sheet edges other) refl));
        too_long =
            λ s h.
            p
            ∙ sym (ap as_text (too_long file tables seen sheet edges output (record { refusal = 2; place = 0; length = 0 }) (fits_all tables seen sheet edges s) (long_misfits file h) refl));
        buffers = buffers_after;
        exactly =
            λ s h.
            subst (λ (i : TextLeft). (i.refusal ≡ 0) ↔ (((survey_of file).refusal ≡ 0) × HasRoom file output)) (sym (sized_records s))
            (rule.exactly (as_records tables seen sheet edges s) h);
        granted = text_granted;
        no_room = λ s h z other. refused_so s 25 (length file) (rule.no_room (as_records tables seen sheet edges s) h z other);
        refused =
            λ s h other.
            refused_so s (survey_of file).refusal (survey_of file).place (rule.refused (as_records tables seen sheet edges s) h other);
        untouched = output_as_lent file tables seen sheet edges output o p;
      }
