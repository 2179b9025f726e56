-- `written_demands::rewritten` meets its contract: the round trip of what was written, by what the contracts of the writing and
-- of the survey of its first bytes say.
use mathlib.Core.Path.{refl, ap}
use Rattle.written_demands.proofs.Alike.{as_text}
use Rattle.written_demands.proofs.AsRules.{as_called}
use Rattle.written_demands.proofs.Granted.{output_as_lent, read_back}
use Rattle.written_demands.proofs.rewritten.Goals as goal

pub returns : goal.returns
returns c =
    let p = ap as_text c.write_flat-written.ensures in
    let q = c.cut-again.ensures.whole in
    record { back = λ z sized. read_back _ _ _ _ _ _ _ p z _ q refl sized; refused = λ ne. output_as_lent _ _ _ _ _ _ _ p ne; whole = as_called _ _ _ _ _ _ _ p; again = q }
