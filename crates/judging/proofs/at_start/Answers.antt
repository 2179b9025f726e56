-- `judging::at_start` meets its contract.
use Rattle.columns.specs.Lines.{text_in}
use Rattle.std.specs.Prelude.{Err}
use mathlib.Core.Path.{ap, ◌∙◌}
use Rattle.judging.proofs.FirstColumns.{start_format, start_none}
use Rattle.judging.proofs.at_start.Goals as goal

pub returns-then-same_text : goal.returns-then-same_text
returns-then-same_text c =
    c.format_line.ensures
    ∙ start_format (text_in c.args.line.now) c.args.first.now c.requires c.same_text.ensures c.if-same_text.true

pub returns : goal.returns
returns c =
    ap Err c.line_fault.ensures
    ∙ start_none (text_in c.args.line.now) c.args.first.now c.requires c.same_text.ensures c.if-same_text.false
