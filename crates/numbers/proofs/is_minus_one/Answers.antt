-- `numbers::is_minus_one` meets its contract: `==` compares as the rules do.
use mathlib.Core.Path.{◌∙◌}
use Rattle.rules.specs.Lists.{bytes}
use Rattle.numbers.proofs.SameBytes.{pointwise_same}
use Rattle.numbers.proofs.is_minus_one.Goals as goal

pub returns : goal.returns
returns c = c.eq.ensures ∙ rw c.as_slice.ensures (pointwise_same c.args.s.now (bytes "-1"))
