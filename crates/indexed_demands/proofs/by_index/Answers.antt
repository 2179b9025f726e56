-- `indexed_demands::by_index` meets its contract, by what those of the index and of both openings say.
use mathlib.Core.Path.{ap}
use Rattle.opened_demands.proofs.Outcomes.{as_left}
use Rattle.opened_demands.proofs.AsRules.{by_number_lem}
use Rattle.indexed_demands.proofs.Entries.{same_there}
use Rattle.indexed_demands.proofs.by_index.Goals as goal

pub returns : goal.returns
returns c =
    let x = c.args in
    let i = c.index-told.ensures in
    let e = c.entry_of-entry.ensures in
    let o = ap as_left c.open_flat-by_number.ensures.0 in
    let t = c.open_entry-at_entry.ensures in record {
      same = λ fits sized all sentence.
          same_there x.file.now x.number fits x.tables2.now x.seen2.now x.sheet.now x.edges.now all x.sheet2.now x.edges2.now sentence
          x.tables.now x.seen.now x.places.now sized _ _ _ _ i e o t;
      index = i;
      entry = e;
      number = by_number_lem _ _ _ _ _ _ _ o;
      there = t;
    }
