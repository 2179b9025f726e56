-- `sentences::judging_lines::judge` meets its contract: what the quick way takes, it takes for what the judge would; seven
-- zeros are no tables. No loop.
use Rattle.columns.specs.Lines.{columns_in}
use Rattle.std.specs.Prelude.{Some}
use mathlib.Core.Path.{ap, ◌∙◌}
use Rattle.columns.specs.declared.listing.Span.{Span}
use Rattle.citations.proofs.NoTables.{no_tables_lem}
use Rattle.nodes.specs.PlainNodes.{plain_said}
use Rattle.sentences.proofs.PlainTakings.{word_taken, phrase_taken}
use Rattle.sentences.proofs.judging_lines.judge.Goals as goal

pub plain_node-requires : goal.plain_node-requires
plain_node-requires c = ((no_tables_lem c.args.line.now.file.now).0, c.requires)

pub returns-in-Some-Word : goal.returns-in-Some-Word
returns-in-Some-Word c =
    let a = c.args in
    word_taken a.line.now a.t a.marks.now _ c.plain_node.result (c.plain_node.ensures 3) _ (c.in-Some-Word.is ∙ ap Some c.in-Some-Word.field-0-is)
    (c.plain_said.ensures
    ∙ ap (λ (word : Span). plain_said (columns_in a.line.now) word a.t.words c.in-Some-Word.parent) c.column_span-word.ensures)

pub returns-in-Some-Phrase : goal.returns-in-Some-Phrase
returns-in-Some-Phrase c =
    let a = c.args in
    phrase_taken a.line.now a.t a.marks.now _ c.plain_node.result (c.plain_node.ensures 3) _ _ (c.in-Some-Phrase.is ∙ ap Some c.in-Some-Phrase.field-0-is)
    c.plain_said-in-Some-Phrase.ensures
