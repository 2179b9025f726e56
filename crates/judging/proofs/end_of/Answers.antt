-- `judging::end_of` meets its contract.
use mathlib.Core.Path.{refl}
use Rattle.judging.specs.Judging.{so_far_by}
use Rattle.judging.proofs.end_of.Goals as goal

pub returns : goal.returns
returns c = λ marks stamp. c.end_line.ensures (so_far_by c.args.t marks stamp) refl refl refl
