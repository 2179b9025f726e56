-- A line that is ignored, or taken for a node: what it is taken for, and what its step does.
use Prim.Native.Nat.{ℕ}
use mathlib.Core.Path.{◌≡◌, refl, ap, ◌∙◌}
use mathlib.Core.Bool.{true, false}
use mathlib.Core.List.{List}
use lib.ListN.{replicate}
use Rattle.rules.specs.Bytes.{ignored}
use Rattle.rules.specs.Texts.{Text}
use Rattle.rules.specs.Tables.{Tables}
use Rattle.rules.specs.Sheets.{table_count}
use Rattle.rules.specs.Keywords.{first_column}
use Rattle.rules.specs.Lines.{among_nodes}
use Rattle.table_sheet.specs.SheetRows.{tables_in}
use Rattle.citations.proofs.NoTables.{no_tables_lem}
use Rattle.std.specs.Prelude.{Result, Ok}
use Rattle.steps.specs.declared.Fault.{Fault}
use Rattle.steps.specs.Steps.{step_of}
use Rattle.steps.specs.declared.Step.{Step}
use Rattle.steps.specs.declared.Step.TheVariants.{Ignored, Format, TableBegins, Row, TableEnds, SentenceBegins, Word, Phrase, SentenceEnds}
use Rattle.steps.specs.declared.NodeSaid.{NodeSaid}
use Rattle.judging.specs.Judging.{so_far_by}
use Rattle.judging.specs.declared.state.Tally.{Tally}
use Rattle.sentences.specs.Keeping.{taken_by, Stored, stored_by}

module _ (file : List ℕ) (line : Text) (t : Tally) (marks : List ℕ) (stamp : ℕ) where
  pub taken_ignored : ignored line.bytes ≡ true → Ok Ignored ≡ step_of (taken_by line t marks stamp)
  unfolding taken_by
  taken_ignored e = rw e

  -- y is the step that the judge of a sentence's lines answered, who was lent seven zeros
  pub judged_node : ignored line.bytes ≡ false → {y : Result Step Fault} → y ≡ step_of (among_nodes line (first_column line) 3 (tables_in file (replicate table_count 0)) (so_far_by t marks stamp))
      → y ≡ step_of (taken_by line t marks stamp)
  unfolding taken_by
  judged_node e w = rw e (w ∙ ap (λ (ts : Tables). step_of (among_nodes line (first_column line) 3 ts (so_far_by t marks stamp))) (no_tables_lem file).1)

-- a step that gives no node leaves what is kept
pub others_keep : (stamp : ℕ) (fs : List Text) (x : Step) (k : Stored) → ((n : NodeSaid) → x ≡ Word n → ⊥) → ((n : NodeSaid) → x ≡ Phrase n → ⊥) → k ≡ stored_by stamp fs x k
unfolding stored_by
others_keep stamp fs Ignored k o p = refl
others_keep stamp fs (Format n) k o p = refl
others_keep stamp fs (TableBegins n) k o p = refl
others_keep stamp fs (Row r) k o p = refl
others_keep stamp fs TableEnds k o p = refl
others_keep stamp fs (SentenceBegins h) k o p = refl
others_keep stamp fs (Word n) k o p = absurd (o n refl)
others_keep stamp fs (Phrase n) k o p = absurd (p n refl)
others_keep stamp fs SentenceEnds k o p = refl
