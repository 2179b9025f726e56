-- `table_sheet::hints::row_near` meets its contract: the hint is read at its place.
use native.Mathlib.Omega.{arith}
use Prim.Native.Nat.{ℕ}
use mathlib.Core.Path.{ap, ◌∙◌}
use lib.ListN.{get_or}
use Rattle.table_sheet.proofs.hints.row_near.Goals as goal

pub returns : goal.returns
returns c = (c.from.ensures ∙ ap (λ (n : ℕ). get_or c.args.hints.now n 0) c.place_of.ensures.0, omega (arith, c.from.ensures))
