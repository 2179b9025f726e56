-- `cut_demands::cut_opened` meets its contract: the rule of openings after a cut, by what the opening's contract says.
use mathlib.Core.Path.{ap}
use Rattle.opened_demands.proofs.Outcomes.{as_left}
use Rattle.opened_demands.proofs.AsRules.{by_number_lem}
use Rattle.cut_demands.proofs.CutOpened.{cut_alike}
use Rattle.cut_demands.proofs.cut_opened.Goals as goal

pub returns : goal.returns
returns c =
    let a = c.args in
    let p = ap as_left c.open_flat-first.ensures.0 in
    let q = ap as_left c.open_flat-second.ensures.0 in record {
      alike = λ n x front h back inside whole e fits its number sized sized2.
          cut_alike a.file.now n inside whole front h back its a.tables.now a.seen.now a.sheet.now a.edges.now sized
          a.tables2.now a.seen2.now a.sheet2.now a.edges2.now sized2 x a.restored.now a.number e fits number _ _ p q;
      whole = by_number_lem _ _ _ _ _ _ _ p;
      after = by_number_lem _ _ _ _ _ _ _ q;
    }
