-- `columns::listing::text_from` meets its contract: the text lies between the column's start and the last one's end.
-- No loop.
use native.Mathlib.Omega.{arith}
use Prim.Native.Nat.{◌≤◌}
use mathlib.Core.Path.{sym}
use Rattle.columns.proofs.ListedColumns.{text_from_none, text_from_some, text_from_order, columns_few}
use Rattle.columns.proofs.listing.text_from.Goals as goal

pub returns-then-columns-k : goal.returns-then-columns-k
returns-then-columns-k c = λ file h. sym (text_from_none file _ _ h _ c.requires.0 c.if-columns-k.true)

pub overflow_sub-result-2 : goal.overflow_sub-result-2
overflow_sub-result-2 c = omega (arith, text_from_order _ _ _ c.requires.1.1 c.args.k c.if-columns-k.false)

pub returns : goal.returns
returns c = λ file h. sym (text_from_some file _ _ h _ c.requires.0 c.if-columns-k.false)

pub overflow_mul-start : goal.overflow_mul-start
overflow_mul-start c =
    let few : c.args.line.columns ≤ 2048 = columns_few _ _ _ c.requires.1.1 in
    omega (arith, few)

pub offset_bounds-places-k : goal.offset_bounds-places-k
offset_bounds-places-k c =
    let few : c.args.line.columns ≤ 2048 = columns_few _ _ _ c.requires.1.1 in
    omega (arith, few)

pub bounds-places-k : goal.bounds-places-k
bounds-places-k c =
    let few : c.args.line.columns ≤ 2048 = columns_few _ _ _ c.requires.1.1 in
    omega (arith, few)

pub overflow_mul-result : goal.overflow_mul-result
overflow_mul-result c =
    let few : c.args.line.columns ≤ 2048 = columns_few _ _ _ c.requires.1.1 in
    omega (arith, few)

pub overflow_sub-result : goal.overflow_sub-result
overflow_sub-result c =
    let few : c.args.line.columns ≤ 2048 = columns_few _ _ _ c.requires.1.1 in
    omega (arith, few)

pub offset_bounds-places-columns : goal.offset_bounds-places-columns
offset_bounds-places-columns c =
    let few : c.args.line.columns ≤ 2048 = columns_few _ _ _ c.requires.1.1 in
    omega (arith, few)

pub bounds-places-columns : goal.bounds-places-columns
bounds-places-columns c =
    let few : c.args.line.columns ≤ 2048 = columns_few _ _ _ c.requires.1.1 in
    omega (arith, few)
