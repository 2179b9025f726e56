-- `citations::is_unknown` meets its contract: the tag is compared with the reserved word.
use mathlib.Core.Path.{ap, ◌∙◌}
use lib.Dec.{eqb}
use lib.Pointwise.{pointwise}
use Rattle.rules.specs.Tables.{unknown}
use Rattle.texts.proofs.SameSlices.{slices_same}
use Rattle.citations.proofs.is_unknown.Goals as goal

pub returns : goal.returns
returns c = c.eq.ensures ∙ ap (pointwise eqb c.args.tag.now) c.as_slice.ensures ∙ slices_same c.args.tag.now unknown
