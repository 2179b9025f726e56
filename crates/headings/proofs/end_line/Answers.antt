-- `headings::end_line` meets its contract: the rules are tested in their order.
use Rattle.columns.specs.Lines.{text_in}
use Rattle.std.proofs.Common.{rules}
use Rattle.rules.specs.Sentences.{end_rules}
use Rattle.steps.specs.Faults.{fault_in}
use Rattle.headings.proofs.EosLines.{end_step}
use Rattle.headings.proofs.end_line.Goals as goal

pub returns-then-line-ne-END_COLUMNS : goal.returns-then-line-ne-END_COLUMNS
unfolding end_rules fault_in
returns-then-line-ne-END_COLUMNS c s n g a = end_step s (text_in c.args.line.now) n g a (search rules)

pub returns-in_default : goal.returns-in_default
unfolding end_rules fault_in
returns-in_default c s n g a = end_step s (text_in c.args.line.now) n g a (search rules)

pub returns-then-n-number : goal.returns-then-n-number
unfolding end_rules fault_in
returns-then-n-number c s n g a = end_step s (text_in c.args.line.now) n g a (search rules)

pub returns-then-not-no_gap : goal.returns-then-not-no_gap
unfolding end_rules fault_in
returns-then-not-no_gap c s n g a = end_step s (text_in c.args.line.now) n g a (search rules)

pub returns-then-not-no_absent : goal.returns-then-not-no_absent
unfolding end_rules fault_in
returns-then-not-no_absent c s n g a = end_step s (text_in c.args.line.now) n g a (search rules)

pub returns : goal.returns
unfolding end_rules fault_in
returns c s n g a = end_step s (text_in c.args.line.now) n g a (search rules)
