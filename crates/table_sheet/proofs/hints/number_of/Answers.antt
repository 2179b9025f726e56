-- `table_sheet::hints::number_of` meets its contract: by the length of the tag, the number is the one of that length.
use native.Mathlib.Omega.{arith}
use mathlib.Core.Path.{◌∙◌}
use Rattle.table_sheet.proofs.TagNumbers.{number_none, number_few, number_some, number_more}
use Rattle.table_sheet.proofs.hints.number_of.Goals as goal

pub returns-then-n-eq0 : goal.returns-then-n-eq0
returns-then-n-eq0 c = number_none _ c.if-n-eq0.true

pub returns-then-n-lt4 : goal.returns-then-n-lt4
returns-then-n-lt4 c = c.few_bytes.ensures ∙ number_few _ c.if-n-eq0.false c.if-n-lt4.true

pub returns-then-n-lt8 : goal.returns-then-n-lt8
returns-then-n-lt8 c = c.some_bytes.ensures ∙ number_some _ (omega (arith, c.if-n-lt4.false)) c.if-n-lt8.true

pub returns : goal.returns
returns c = c.number_at.ensures ∙ number_more _ (omega (arith, c.if-n-lt8.false))
