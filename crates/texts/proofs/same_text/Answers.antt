-- `texts::same_text` meets its contract: texts of different lengths are not the same.
use mathlib.Core.Path.{sym}
use Rattle.rules.proofs.Same.{same_length_false}
use Rattle.texts.proofs.same_text.Goals as goal

pub returns-then-n-b : goal.returns-then-n-b
returns-then-n-b c = sym (same_length_false c.args.a.now c.args.b.now c.if-n-b.true)
