-- `judging::behind_one` meets its contract.
use Rattle.columns.specs.Lines.{text_in}
use Rattle.std.specs.Prelude.{Err}
use mathlib.Core.Path.{ap, ◌∙◌}
use Rattle.seen.specs.Bits.{bit_at}
use Rattle.table_sheet.specs.SheetRows.{tables_in}
use Rattle.judging.proofs.FirstColumns.{behind_heading, behind_none}
use Rattle.judging.proofs.behind_one.Goals as goal

pub returns-then-same_text : goal.returns-then-same_text
returns-then-same_text c =
    c.heading_line.ensures
    ∙ behind_heading (text_in c.args.line.now) c.args.first.now c.requires.0
    (tables_in c.args.line.now.file.now c.args.sheet.now) (bit_at c.args.seen.now) c.same_text.ensures c.if-same_text.true

pub returns : goal.returns
returns c =
    ap Err c.line_fault.ensures
    ∙ behind_none (text_in c.args.line.now) c.args.first.now c.requires.0
    (tables_in c.args.line.now.file.now c.args.sheet.now) (bit_at c.args.seen.now) c.same_text.ensures c.if-same_text.false
