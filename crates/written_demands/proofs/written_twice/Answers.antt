-- `written_demands::written_twice` meets its contract: both outcomes are what the writing's contract says, which is one.
use mathlib.Core.Path.{ap}
use Rattle.written_demands.proofs.Alike.{as_text, written_only, written_fresh}
use Rattle.written_demands.proofs.written_twice.Goals as goal

pub returns : goal.returns
returns c =
    let p = ap as_text c.write_flat-first.ensures in
    let q = ap as_text c.write_flat-second.ensures in
    record { only = λ o t s h e. written_only _ _ _ _ _ _ _ _ _ _ _ _ _ p q o t s h e; fresh = λ fits k l e. written_fresh _ _ _ _ _ _ _ _ _ _ _ _ _ p q fits k l e }
