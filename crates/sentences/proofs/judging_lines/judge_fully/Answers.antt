-- `sentences::judging_lines::judge_fully` meets its contract: seven zeros are no tables.
use Rattle.columns.specs.Lines.{text_in}
use mathlib.Core.Path.{sym, ◌∙◌}
use Rattle.citations.proofs.NoTables.{no_tables_lem}
use Rattle.sentences.proofs.OtherSteps.{taken_ignored, judged_node}
use Rattle.sentences.proofs.judging_lines.judge_fully.Goals as goal

pub returns-then-is_ignored : goal.returns-then-is_ignored
returns-then-is_ignored c =
    let a = c.args in
    taken_ignored a.line.now.file.now (text_in a.line.now) a.t a.marks.now _ (sym c.is_ignored.ensures ∙ c.if-is_ignored.true)

pub among_nodes-requires : goal.among_nodes-requires
among_nodes-requires c = (c.first_column-first.ensures, (no_tables_lem c.args.line.now.file.now).0, c.requires)

pub returns : goal.returns
returns c = judged_node _ _ _ _ _ (sym c.is_ignored.ensures ∙ c.if-is_ignored.false) (c.among_nodes.ensures 3)
