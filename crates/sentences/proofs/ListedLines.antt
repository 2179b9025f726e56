-- A line that may be read can be listed, and then it is.
use Prim.Native.Nat.{ℕ, ◌+◌, ◌≤◌}
use native.Mathlib.Omega.{arith}
use mathlib.Core.Path.{◌≡◌}
use mathlib.Core.List.{List}
use lib.ListN.{length}
use Rattle.rules.specs.Numbers.{line_limit, file_limit}
use Rattle.rules.specs.Columns.{columns}
use Rattle.lines.specs.LineEnds.{line_end}
use Rattle.std.specs.Prelude.{Ok}
use Rattle.lines.proofs.Lines.{at_behind, at_below, at_place, at_short}
use Rattle.columns.specs.Listing.{text_between, places_of, Listed}
use Rattle.columns.specs.Splices.{splice}
use Rattle.columns.specs.declared.listing.Line.{Line}
use Rattle.columns.proofs.ListedColumns.{now_listed}

module _ (file : List ℕ) (at e : ℕ) (q : line_end file at ≡ Ok e) (short : length file ≤ file_limit) where
  pub order : at ≤ e
  order = at_behind file at e q

  pub inside : e ≤ length file
  inside = omega (arith, at_below file at e q)

  pub limited : e ≤ at + line_limit
  limited = omega (arith, at_place file at e q, at_short file at e q)

  pub read_listed : (lent : List ℕ) (l : Line) (places : List ℕ)
      → (l ≡ record { start = at; end = e; columns = length (columns (text_between file at e)) }) × (places ≡ splice 0 (places_of (columns (text_between file at e))) lent)
      → Listed file l places
  read_listed lent l places is = now_listed file at e lent l places order inside limited short is
