-- `columns::ListedLine::column_text` meets its contract: the column's text lies between its two numbers. No loop.
use Rattle.columns.specs.Lines.{line_in}
use native.Mathlib.Omega.{arith}
use Prim.Native.Nat.{◌+◌, ◌*◌, ◌≤◌}
use mathlib.Core.Path.{ap}
use lib.ListN.{get_or}
use Rattle.rules.specs.Texts.{Text}
use Rattle.columns.proofs.ListedColumns.{Bounded, bounds_at, text_at, columns_few}
use Rattle.columns.proofs.listed.ListedLine.column_text.Goals as goal

pub returns : goal.returns
returns c = ap (λ (t : Text). t.bytes) (text_at _ _ _ c.args.self.now.listed c.args.k c.requires)

pub overflow_mul-start : goal.overflow_mul-start
overflow_mul-start c =
    let few : c.args.self.now.columns ≤ 2048 = columns_few _ _ _ c.args.self.now.listed in
    omega (arith, few)

pub offset_bounds-self-k : goal.offset_bounds-self-k
offset_bounds-self-k c =
    let few : c.args.self.now.columns ≤ 2048 = columns_few _ _ _ c.args.self.now.listed in
    omega (arith, few)

pub bounds-self-k : goal.bounds-self-k
bounds-self-k c =
    let few : c.args.self.now.columns ≤ 2048 = columns_few _ _ _ c.args.self.now.listed in
    omega (arith, few)

pub overflow_cast-start : goal.overflow_cast-start
overflow_cast-start c =
    let placed : Bounded (line_in c.args.self.now) (get_or c.args.self.now.places.now (2 * c.args.k) 0) (get_or c.args.self.now.places.now (2 * c.args.k + 1) 0) = bounds_at _ _ _ c.args.self.now.listed c.args.k c.requires in
    omega (arith, placed)

pub overflow_mul-end : goal.overflow_mul-end
overflow_mul-end c =
    let few : c.args.self.now.columns ≤ 2048 = columns_few _ _ _ c.args.self.now.listed in
    omega (arith, few)

pub overflow_add-end : goal.overflow_add-end
overflow_add-end c =
    let few : c.args.self.now.columns ≤ 2048 = columns_few _ _ _ c.args.self.now.listed in
    omega (arith, few)

pub offset_bounds-self-k-2 : goal.offset_bounds-self-k-2
offset_bounds-self-k-2 c =
    let few : c.args.self.now.columns ≤ 2048 = columns_few _ _ _ c.args.self.now.listed in
    omega (arith, few)

pub bounds-self-k-2 : goal.bounds-self-k-2
bounds-self-k-2 c =
    let few : c.args.self.now.columns ≤ 2048 = columns_few _ _ _ c.args.self.now.listed in
    omega (arith, few)

pub overflow_cast-end : goal.overflow_cast-end
overflow_cast-end c =
    let placed : Bounded (line_in c.args.self.now) (get_or c.args.self.now.places.now (2 * c.args.k) 0) (get_or c.args.self.now.places.now (2 * c.args.k + 1) 0) = bounds_at _ _ _ c.args.self.now.listed c.args.k c.requires in
    omega (arith, placed)

pub slice_bounds-result-count : goal.slice_bounds-result-count
slice_bounds-result-count c =
    let placed : Bounded (line_in c.args.self.now) (get_or c.args.self.now.places.now (2 * c.args.k) 0) (get_or c.args.self.now.places.now (2 * c.args.k + 1) 0) = bounds_at _ _ _ c.args.self.now.listed c.args.k c.requires in
    omega (arith, placed)

pub slice_bounds-result-start : goal.slice_bounds-result-start
slice_bounds-result-start c =
    let placed : Bounded (line_in c.args.self.now) (get_or c.args.self.now.places.now (2 * c.args.k) 0) (get_or c.args.self.now.places.now (2 * c.args.k + 1) 0) = bounds_at _ _ _ c.args.self.now.listed c.args.k c.requires in
    omega (arith, placed)

pub slice_bounds-result-end : goal.slice_bounds-result-end
slice_bounds-result-end c =
    let placed : Bounded (line_in c.args.self.now) (get_or c.args.self.now.places.now (2 * c.args.k) 0) (get_or c.args.self.now.places.now (2 * c.args.k + 1) 0) = bounds_at _ _ _ c.args.self.now.listed c.args.k c.requires in
    omega (arith, placed)
