-- `columns::listing::column_span` meets its contract: the column lies between its two numbers. No loop.
use native.Mathlib.Omega.{arith}
use Prim.Native.Nat.{◌+◌, ◌*◌, ◌≤◌}
use lib.ListN.{get_or}
use Rattle.columns.proofs.ListedColumns.{Bounded, bounds_at, span_at, columns_few}
use Rattle.columns.proofs.listing.column_span.Goals as goal

pub returns : goal.returns
returns c = λ file h. span_at file _ _ h _ c.requires.0

pub overflow_mul-start : goal.overflow_mul-start
overflow_mul-start c =
    let few : c.args.line.columns ≤ 2048 = columns_few _ _ _ c.requires.1.1 in
    omega (arith, few)

pub offset_bounds-places-k : goal.offset_bounds-places-k
offset_bounds-places-k c =
    let few : c.args.line.columns ≤ 2048 = columns_few _ _ _ c.requires.1.1 in
    omega (arith, few)

pub bounds-places-k : goal.bounds-places-k
bounds-places-k c =
    let few : c.args.line.columns ≤ 2048 = columns_few _ _ _ c.requires.1.1 in
    omega (arith, few)

pub overflow_mul-result : goal.overflow_mul-result
overflow_mul-result c =
    let few : c.args.line.columns ≤ 2048 = columns_few _ _ _ c.requires.1.1 in
    omega (arith, few)

pub overflow_add-result : goal.overflow_add-result
overflow_add-result c =
    let few : c.args.line.columns ≤ 2048 = columns_few _ _ _ c.requires.1.1 in
    omega (arith, few)

pub offset_bounds-places-k-2 : goal.offset_bounds-places-k-2
offset_bounds-places-k-2 c =
    let few : c.args.line.columns ≤ 2048 = columns_few _ _ _ c.requires.1.1 in
    omega (arith, few)

pub bounds-places-k-2 : goal.bounds-places-k-2
bounds-places-k-2 c =
    let few : c.args.line.columns ≤ 2048 = columns_few _ _ _ c.requires.1.1 in
    omega (arith, few)

pub overflow_sub-result : goal.overflow_sub-result
overflow_sub-result c =
    let placed : Bounded c.args.line (get_or c.args.places.now (2 * c.args.k) 0) (get_or c.args.places.now (2 * c.args.k + 1) 0) = bounds_at _ _ _ c.requires.1.1 c.args.k c.requires.0 in
    omega (arith, placed)
