-- `indexed_demands::open_entry` meets its contract.
use mathlib.Core.Path.{refl, ap}
use Rattle.opened_demands.proofs.Outcomes.{as_there}
use Rattle.opened_demands.proofs.AsRules.{at_place}
use Rattle.indexed_demands.proofs.Entries.{at_entry, no_place}
use Rattle.indexed_demands.proofs.open_entry.Goals as goal

pub returns-then-entry-eq0 : goal.returns-then-entry-eq0
returns-then-entry-eq0 c =
    let x = c.args in
    no_place x.file.now x.entry x.sheet.now x.edges.now _ c.if-entry-eq0.true refl

pub returns : goal.returns
returns c =
    let x = c.args in
    at_entry x.file.now x.entry x.sheet.now x.edges.now _ c.if-entry-eq0.false (at_place _ _ _ _ _ (ap as_there c.open_flat_at.ensures.0))
