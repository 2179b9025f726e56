-- `columns::listing::walk_columns` meets its contract. The invariant, `Walking`: the columns in front of the cursor are
-- listed, and those from it on are the others. The measure is what is left of the line.
use native.Mathlib.Omega.{arith}
use mathlib.Core.Path.{sym, ◌∙◌}
use lib.ListN.{length-set}
use Rattle.columns.proofs.Walks.{walking_start, walking_end, walking_reach, walking_next}
use Rattle.columns.proofs.listing.walk_columns.Goals as goal

pub loop-column-init : goal.loop-column-init
loop-column-init c = walking_start _ _ _ _ _ c.requires.3 c.requires.0 c.requires.2 c.new-cursor.ensures

pub returns : goal.returns
returns c = walking_end _ _ _ _ _ _ _ c.loop-column.invariant (sym c.next.ensures ∙ c.in_default.is)

pub loop-column-preserved : goal.loop-column-preserved
loop-column-preserved c = walking_next _ _ _ _ _ _ _ c.loop-column.invariant c.in-Some.column (sym c.next.ensures ∙ c.in-Some.is)

pub overflow_add-places : goal.overflow_add-places
overflow_add-places c = omega (arith, walking_reach _ _ _ _ _ _ _ c.loop-column.invariant c.in-Some.column (sym c.next.ensures ∙ c.in-Some.is))

pub overflow_cast-places : goal.overflow_cast-places
overflow_cast-places c = omega (arith, walking_reach _ _ _ _ _ _ _ c.loop-column.invariant c.in-Some.column (sym c.next.ensures ∙ c.in-Some.is))

pub overflow_mul-places : goal.overflow_mul-places
overflow_mul-places c = omega (arith, walking_reach _ _ _ _ _ _ _ c.loop-column.invariant c.in-Some.column (sym c.next.ensures ∙ c.in-Some.is))

pub offset_bounds-places-count : goal.offset_bounds-places-count
offset_bounds-places-count c = omega (arith, walking_reach _ _ _ _ _ _ _ c.loop-column.invariant c.in-Some.column (sym c.next.ensures ∙ c.in-Some.is))

pub bounds-places-count : goal.bounds-places-count
bounds-places-count c = omega (arith, walking_reach _ _ _ _ _ _ _ c.loop-column.invariant c.in-Some.column (sym c.next.ensures ∙ c.in-Some.is), c.loop-column.invariant.kept)

pub overflow_add-places-in-Some : goal.overflow_add-places-in-Some
overflow_add-places-in-Some c = omega (arith, walking_reach _ _ _ _ _ _ _ c.loop-column.invariant c.in-Some.column (sym c.next.ensures ∙ c.in-Some.is))

pub overflow_cast-places-in-Some : goal.overflow_cast-places-in-Some
overflow_cast-places-in-Some c = omega (arith, walking_reach _ _ _ _ _ _ _ c.loop-column.invariant c.in-Some.column (sym c.next.ensures ∙ c.in-Some.is))

pub overflow_mul-places-in-Some : goal.overflow_mul-places-in-Some
overflow_mul-places-in-Some c = omega (arith, walking_reach _ _ _ _ _ _ _ c.loop-column.invariant c.in-Some.column (sym c.next.ensures ∙ c.in-Some.is))

pub overflow_add-places-in-Some-2 : goal.overflow_add-places-in-Some-2
overflow_add-places-in-Some-2 c = omega (arith, walking_reach _ _ _ _ _ _ _ c.loop-column.invariant c.in-Some.column (sym c.next.ensures ∙ c.in-Some.is))

pub offset_bounds-places-count-in-Some : goal.offset_bounds-places-count-in-Some
offset_bounds-places-count-in-Some c = omega (arith, walking_reach _ _ _ _ _ _ _ c.loop-column.invariant c.in-Some.column (sym c.next.ensures ∙ c.in-Some.is))

pub bounds-places-count-in-Some : goal.bounds-places-count-in-Some
bounds-places-count-in-Some c = simp length-set (omega (arith, walking_reach _ _ _ _ _ _ _ c.loop-column.invariant c.in-Some.column (sym c.next.ensures ∙ c.in-Some.is), c.loop-column.invariant.kept))

pub overflow_add-count : goal.overflow_add-count
overflow_add-count c = omega (arith, walking_reach _ _ _ _ _ _ _ c.loop-column.invariant c.in-Some.column (sym c.next.ensures ∙ c.in-Some.is))

pub loop-column-smaller : goal.loop-column-smaller
loop-column-smaller c = omega (arith, walking_reach _ _ _ _ _ _ _ c.loop-column.invariant c.in-Some.column (sym c.next.ensures ∙ c.in-Some.is))
