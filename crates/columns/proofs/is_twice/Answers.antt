-- `columns::is_twice` meets its contract: by the length, the last byte and the first, one law each.
use mathlib.Core.Path.{sym}
use Rattle.columns.proofs.Twice.{twice_length, twice_last, twice_first}
use Rattle.columns.proofs.is_twice.Goals as goal

pub returns-then-text-ne2 : goal.returns-then-text-ne2
returns-then-text-ne2 c = sym (twice_length c.args.text.now c.args.b c.if-text-ne2.true)

pub returns-then-text-b : goal.returns-then-text-b
returns-then-text-b c = sym (twice_last c.args.text.now c.args.b c.if-text-ne2.false c.if-text-b.true)

pub returns : goal.returns
returns c = sym (twice_first c.args.text.now c.args.b c.if-text-ne2.false c.if-text-b.false)
