-- A line that was found in one pass or in two is told in the same way, and what was told of a line that is read: where it
-- ends, where it starts, and that its columns are listed.
use Prim.Native.Nat.{ℕ, ◌+◌, ◌≤◌}
use native.Mathlib.Omega.{arith}
use mathlib.Core.Path.{◌≡◌, sym, ap, ◌∙◌, subst}
use mathlib.Core.List.{List}
use lib.ListN.{length}
use Rattle.rules.specs.Numbers.{line_limit, file_limit}
use Rattle.rules.specs.Columns as lines
use Rattle.columns.specs.Splices.{splice}
use Rattle.columns.specs.Listing.{text_between, places_of, Listed}
use Rattle.columns.specs.declared.listing.Line as listing
use Rattle.columns.proofs.ListedColumns.{now_listed}
use Rattle.lines.specs.LineEnds.{line_end}
use Rattle.lines.specs.NextLines.{line_end_of, ListedBy, ReadAtOnce}
use Rattle.std.specs.Prelude.{Option, Some, Result, Ok}
use Rattle.lines.specs.declared.Unreadable.{Unreadable}
use Rattle.lines.proofs.Lines.{at_behind, at_below, at_place, at_short}

module _ (file : List ℕ) (from : ℕ) where
  abbrev Found : Result listing.Line Unreadable → List ℕ → Type 0
  Found r places = (line_end_of r ≡ line_end file from) × ListedBy file from r places

  pub found_at_once : (r : Option listing.Line) (places : List ℕ) (l : listing.Line) → ReadAtOnce file from r places → r ≡ Some l → Found (Ok l) places
  found_at_once r places l h e =
      let t = subst (λ (x : Option listing.Line). ReadAtOnce file from x places) e h in
      (sym t.0, (t.1, t.2))

  pub found_twice : (e : ℕ) (lent : List ℕ) (l : listing.Line) (places : List ℕ) → length file ≤ file_limit → line_end file from ≡ Ok e
      → (l ≡ record { start = from; end = e; columns = length (lines.columns (text_between file from e)) }) × (places ≡ splice 0 (places_of (lines.columns (text_between file from e))) lent)
      → Found (Ok l) places
  found_twice e lent l places m q h =
      let o = at_behind file from e q in
      let i : e ≤ length file = omega (arith, at_below file from e q) in
      let s : e ≤ from + line_limit = omega (arith, at_place file from e q, at_short file from e q) in (
        ap (λ (x : listing.Line). Ok x.end) h.0 ∙ sym q,
        (ap (λ (x : listing.Line). x.start) h.0, now_listed file from e lent l places o i s m h),
      )

  -- ---- what was told of a line that is read

  module _ (r : Result listing.Line Unreadable) (places : List ℕ) (h : Found r places) (l : listing.Line) (is : r ≡ Ok l) where
    told : Found (Ok l) places
    told = subst (λ (x : Result listing.Line Unreadable). Found x places) is h

    pub told_end : line_end file from ≡ Ok l.end
    told_end = sym told.0

    pub told_start : l.start ≡ from
    told_start = told.1.0

    pub told_listed : Listed file l places
    told_listed = told.1.1
