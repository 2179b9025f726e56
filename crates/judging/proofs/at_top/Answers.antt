-- `judging::at_top` meets its contract.
use Rattle.columns.specs.Lines.{text_in}
use mathlib.Core.Path.{◌∙◌}
use Rattle.seen.specs.Bits.{bit_at}
use Rattle.table_sheet.specs.SheetRows.{tables_in}
use Rattle.judging.proofs.FirstColumns.{top_table, top_behind}
use Rattle.judging.proofs.at_top.Goals as goal

pub returns-then-same_text : goal.returns-then-same_text
returns-then-same_text c =
    c.table_begin_line.ensures
    ∙ top_table (text_in c.args.line.now) c.args.first.now c.requires.0
    (tables_in c.args.line.now.file.now c.args.sheet.now) (bit_at c.args.seen.now) c.same_text.ensures c.if-same_text.true

pub returns : goal.returns
returns c =
    c.behind_one.ensures
    ∙ top_behind (text_in c.args.line.now) c.args.first.now c.requires.0
    (tables_in c.args.line.now.file.now c.args.sheet.now) (bit_at c.args.seen.now) c.same_text.ensures c.if-same_text.false
