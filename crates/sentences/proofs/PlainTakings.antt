-- A line that took the quick way is taken for the word or the phrase that it was said to be.
use Rattle.std.specs.Prelude.{Option, Some, Ok}
use Prim.Native.Nat.{ℕ}
use mathlib.Core.Path.{◌≡◌, sym, ap, subst, ◌∙◌}
use mathlib.Core.List.{List}
use lib.ListN.{replicate}
use Rattle.rules.specs.Lists.{pick}
use Rattle.rules.specs.Bytes.{ignored}
use Rattle.rules.specs.Columns.{written}
use Rattle.rules.specs.Rules.{Verdict, granted}
use Rattle.rules.specs.Tables.{Tables}
use Rattle.rules.specs.Sheets.{table_count}
use Rattle.rules.specs.Keywords.{first_column}
use Rattle.rules.specs.Lines.{Taking, ignored_line, among_nodes}
use Rattle.columns.specs.Lines.{text_in, columns_in}
use Rattle.columns.specs.Listing.{span_of, no_span}
use Rattle.columns.specs.declared.listed.ListedLine.{ListedLine}
use Rattle.table_sheet.specs.SheetRows.{tables_in}
use Rattle.citations.proofs.NoTables.{no_tables_lem}
use Rattle.steps.specs.Steps.{step_of}
use Rattle.steps.specs.declared.NodeSaid.{NodeSaid}
use Rattle.steps.specs.declared.Step.TheVariants as steps
use Rattle.nodes.specs.PlainNodes.{plain_said}
use Rattle.judging.specs.Judging.{so_far_by}
use Rattle.judging.specs.PlainLines.{PlainBy}
use Rattle.judging.specs.declared.state.Tally.{Tally}
use Rattle.judging.specs.declared.plain.Plain.{Plain}
use Rattle.judging.specs.declared.plain.Plain.TheVariants.{Word, Phrase}
use Rattle.sentences.specs.Keeping.{taken_by}

module _ (line : ListedLine) (t : Tally) (marks : List ℕ) (stamp : ℕ) where
  abbrev judged : Tables → Verdict Taking
  judged ts =
      pick (ignored (text_in line).bytes) (granted ignored_line)
      (among_nodes (text_in line) (first_column (text_in line)) 3 ts (so_far_by t marks stamp))

  abbrev Said : Verdict Taking → Option Plain → Type 0
  Said = PlainBy (columns_in line) t.words

  module _ (p : Option Plain) (said : Said (judged (tables_in line.file.now (replicate table_count 0))) p) where
    taken : Said (taken_by (text_in line) t marks stamp) p
    unfolding taken_by
    taken = subst (λ (ts : Tables). Said (judged ts) p) (no_tables_lem line.file.now).1 said

    pub word_taken : (its_parent : ℕ) → p ≡ Some (Word its_parent) → {n : NodeSaid} → n ≡ plain_said (columns_in line) (span_of (written (columns_in line) 0)) t.words its_parent
        → Ok (steps.Word n) ≡ step_of (taken_by (text_in line) t marks stamp)
    word_taken its_parent e w = ap (λ (x : NodeSaid). Ok (steps.Word x)) w ∙ sym (subst (Said (taken_by (text_in line) t marks stamp)) e taken)

    pub phrase_taken : (its_number its_parent : ℕ) → p ≡ Some (Phrase its_number its_parent) → {n : NodeSaid} → n ≡ plain_said (columns_in line) no_span its_number its_parent
        → Ok (steps.Phrase n) ≡ step_of (taken_by (text_in line) t marks stamp)
    phrase_taken its_number its_parent e w =
        ap (λ (x : NodeSaid). Ok (steps.Phrase x)) w ∙ sym (subst (Said (taken_by (text_in line) t marks stamp)) e taken)
