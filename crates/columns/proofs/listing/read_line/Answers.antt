-- `columns::listing::read_line` meets its contract: a line is the part of the file between its places.
use Prim.Native.Nat.{ℕ}
use mathlib.Core.Path.{ap}
use Rattle.columns.proofs.listing.read_line.Goals as goal

pub returns : goal.returns
returns c =
    let a = c.args in
    let e = c.list_columns-count.ensures in
    (ap (λ (n : ℕ). record { start = a.start; end = a.end; columns = n }) e.0, e.1)
