-- With records lent each call has one outcome, records and all: the rules leave one, and records told alike are the same.
use Prim.Native.Nat.{ℕ}
use mathlib.Core.Path.{◌≡◌, sym, ap, ◌∙◌}
use mathlib.Core.List.{List}
use Rattle.rules.specs.Opening.{Opened, OpenedAt}
use Rattle.rules.specs.Writing.{WritingOutcome}
use Rattle.writing.specs.declared.Written.{Written}
use Rattle.edges.specs.declared.Edge.{Edge}
use Rattle.record_demands.specs.RecordRules.{RecordsOpened, RecordsOpenedAt, RecordsWritten}
use Rattle.record_demands.proofs.Told.{told_apart}

pub record SameOpened (r r2 : ℕ) (tables tables2 seen seen2 sheet sheet2 : List ℕ) (edges edges2 : List Edge) : Type 0 where
  pub answer : r ≡ r2
  pub table_sheet_lem : tables ≡ tables2
  pub seen_set_lem : seen ≡ seen2
  pub sentence_sheet_lem : sheet ≡ sheet2
  pub edge_list_lem : edges ≡ edges2

module _ (file : List ℕ) (n : ℕ) (tables seen sheet : List ℕ) (edges : List Edge)
    (r r2 : ℕ) (tables' tables2 seen' seen2 sheet' sheet2 : List ℕ) (edges' edges2 : List Edge) where
  pub opened_only : RecordsOpened file n tables seen sheet edges r tables' seen' sheet' edges'
      → RecordsOpened file n tables seen sheet edges r2 tables2 seen2 sheet2 edges2
      → SameOpened r r2 tables' tables2 seen' seen2 sheet' sheet2 edges' edges2
  opened_only p q =
      let same = p.whole ∙ sym q.whole in
      record {
        answer = ap (λ (o : Opened). o.answer) same;
        table_sheet_lem = ap (λ (o : Opened). o.tables) same;
        seen_set_lem = ap (λ (o : Opened). o.seen) same;
        sentence_sheet_lem = ap (λ (o : Opened). o.sheet) same;
        edge_list_lem = told_apart edges' edges2 (ap (λ (o : Opened). o.edges) same);
      }

pub record SameThere (r r2 : ℕ) (sheet sheet2 : List ℕ) (edges edges2 : List Edge) : Type 0 where
  pub answer : r ≡ r2
  pub sentence_sheet_lem : sheet ≡ sheet2
  pub edge_list_lem : edges ≡ edges2

module _ (file : List ℕ) (at : ℕ) (sheet : List ℕ) (edges : List Edge) (r r2 : ℕ) (sheet' sheet2 : List ℕ) (edges' edges2 : List Edge) where
  pub opened_at_only : RecordsOpenedAt file at sheet edges r sheet' edges' → RecordsOpenedAt file at sheet edges r2 sheet2 edges2
      → SameThere r r2 sheet' sheet2 edges' edges2
  opened_at_only p q =
      let same = p.whole ∙ sym q.whole in
      record {
        answer = ap (λ (o : OpenedAt). o.answer) same;
        sentence_sheet_lem = ap (λ (o : OpenedAt). o.sheet) same;
        edge_list_lem = told_apart edges' edges2 (ap (λ (o : OpenedAt). o.edges) same);
      }

pub record SameText (r r2 : Written) (tables tables2 seen seen2 sheet sheet2 : List ℕ) (edges edges2 : List Edge)
    (output output2 : List ℕ) : Type 0 where
  pub refusal : r.refusal ≡ r2.refusal
  pub place : r.place ≡ r2.place
  pub written : r.length ≡ r2.length
  pub table_sheet_lem : tables ≡ tables2
  pub seen_set_lem : seen ≡ seen2
  pub sentence_sheet_lem : sheet ≡ sheet2
  pub edge_list_lem : edges ≡ edges2
  pub text : output ≡ output2

module _ (file tables seen sheet : List ℕ) (edges : List Edge) (output : List ℕ) (r r2 : Written)
    (tables' tables2 seen' seen2 sheet' sheet2 : List ℕ) (edges' edges2 : List Edge) (output' output2 : List ℕ) where
  pub written_only : RecordsWritten file tables seen sheet edges output r tables' seen' sheet' edges' output'
      → RecordsWritten file tables seen sheet edges output r2 tables2 seen2 sheet2 edges2 output2
      → SameText r r2 tables' tables2 seen' seen2 sheet' sheet2 edges' edges2 output' output2
  written_only p q =
      let same = p.whole ∙ sym q.whole in
      record {
        refusal = ap (λ (o : WritingOutcome). o.answer.refusal) same;
        place = ap (λ (o : WritingOutcome). o.answer.place) same;
        written = ap (λ (o : WritingOutcome). o.answer.written) same;
        table_sheet_lem = ap (λ (o : WritingOutcome). o.tables) same;
        seen_set_lem = ap (λ (o : WritingOutcome). o.seen) same;
        sentence_sheet_lem = ap (λ (o : WritingOutcome). o.sheet) same;
        edge_list_lem = told_apart edges' edges2 (ap (λ (o : WritingOutcome). o.edges) same);
        text = ap (λ (o : WritingOutcome). o.output) same;
      }
