-- `cut_demands::cut_opened_at` meets its contract: the rule of openings at a place after a cut, by what the opening's contract says.
use mathlib.Core.Path.{ap}
use Rattle.opened_demands.proofs.Outcomes.{as_there}
use Rattle.opened_demands.proofs.AsRules.{at_place}
use Rattle.cut_demands.proofs.CutOpenedAt.{cut_alike_at}
use Rattle.cut_demands.proofs.cut_opened_at.Goals as goal

pub returns : goal.returns
returns c =
    let p = ap as_there c.open_flat_at-first.ensures.0 in
    let q = ap as_there c.open_flat_at-second.ensures.0 in
    record { alike = λ n x front h back whole e fits its place sized sized2. cut_alike_at _ whole front h back its n _ _ sized _ _ sized2 x _ _ e fits place _ _ p q; whole = at_place _ _ _ _ _ p; after = at_place _ _ _ _ _ q }
