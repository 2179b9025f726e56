-- `nodes::plain::is_plain_tag` meets its contract: the column's two numbers tell its length, its first byte that it isn't %%.
use Rattle.columns.specs.Lines.{line_in}
use native.Mathlib.Omega.{arith}
use Prim.Native.Nat.{◌+◌, ◌*◌, ◌≤◌}
use mathlib.Core.Bool.{false≢true}
use lib.ListN.{get_or}
use Rattle.columns.proofs.ListedColumns.{Bounded, bounds_at, columns_few}
use Rattle.nodes.proofs.PlainColumns.{plain_tag}
use Rattle.nodes.proofs.plain.is_plain_tag.Goals as goal

pub returns-then-tag_limit-len : goal.returns-then-tag_limit-len
returns-then-tag_limit-len c = λ e. absurd (false≢true e)

pub bounds-line-start : goal.bounds-line-start
bounds-line-start c =
    let placed : Bounded (line_in c.args.line.now) (get_or c.args.line.now.places.now (2 * c.args.k) 0) (get_or c.args.line.now.places.now (2 * c.args.k + 1) 0) = bounds_at _ _ _ c.args.line.now.listed c.args.k c.requires.1 in
    omega (arith, placed, c.args.line.now.listed.inside)

pub returns-then-line-start-eq-PERCENT : goal.returns-then-line-start-eq-PERCENT
returns-then-line-start-eq-PERCENT c = λ e. absurd (false≢true e)

pub is_surely_known-requires : goal.is_surely_known-requires
is_surely_known-requires c =
    let placed : Bounded (line_in c.args.line.now) (get_or c.args.line.now.places.now (2 * c.args.k) 0) (get_or c.args.line.now.places.now (2 * c.args.k + 1) 0) = bounds_at _ _ _ c.args.line.now.listed c.args.k c.requires.1 in
    (c.requires.0, c.requires.2, omega (arith, placed, c.args.line.now.listed.inside))

pub returns : goal.returns
returns c =
    λ e.
    plain_tag _ _ _ c.args.line.now.listed _ c.requires.1 _ _
    (omega (arith, c.if-tag_limit-len.false, c.tag_limit.ensures)) c.if-line-start-eq-PERCENT.false (c.is_surely_known.ensures e)

pub overflow_mul-start : goal.overflow_mul-start
overflow_mul-start c =
    let few : c.args.line.now.columns ≤ 2048 = columns_few _ _ _ c.args.line.now.listed in
    omega (arith, few)

pub offset_bounds-line-k : goal.offset_bounds-line-k
offset_bounds-line-k c =
    let few : c.args.line.now.columns ≤ 2048 = columns_few _ _ _ c.args.line.now.listed in
    omega (arith, few)

pub bounds-line-k : goal.bounds-line-k
bounds-line-k c =
    let few : c.args.line.now.columns ≤ 2048 = columns_few _ _ _ c.args.line.now.listed in
    omega (arith, few)

pub overflow_cast-start : goal.overflow_cast-start
overflow_cast-start c =
    let placed : Bounded (line_in c.args.line.now) (get_or c.args.line.now.places.now (2 * c.args.k) 0) (get_or c.args.line.now.places.now (2 * c.args.k + 1) 0) = bounds_at _ _ _ c.args.line.now.listed c.args.k c.requires.1 in
    omega (arith, placed)

pub overflow_mul-len : goal.overflow_mul-len
overflow_mul-len c =
    let few : c.args.line.now.columns ≤ 2048 = columns_few _ _ _ c.args.line.now.listed in
    omega (arith, few)

pub overflow_add-len : goal.overflow_add-len
overflow_add-len c =
    let few : c.args.line.now.columns ≤ 2048 = columns_few _ _ _ c.args.line.now.listed in
    omega (arith, few)

pub offset_bounds-line-k-2 : goal.offset_bounds-line-k-2
offset_bounds-line-k-2 c =
    let few : c.args.line.now.columns ≤ 2048 = columns_few _ _ _ c.args.line.now.listed in
    omega (arith, few)

pub bounds-line-k-2 : goal.bounds-line-k-2
bounds-line-k-2 c =
    let few : c.args.line.now.columns ≤ 2048 = columns_few _ _ _ c.args.line.now.listed in
    omega (arith, few)

pub overflow_cast-len : goal.overflow_cast-len
overflow_cast-len c =
    let placed : Bounded (line_in c.args.line.now) (get_or c.args.line.now.places.now (2 * c.args.k) 0) (get_or c.args.line.now.places.now (2 * c.args.k + 1) 0) = bounds_at _ _ _ c.args.line.now.listed c.args.k c.requires.1 in
    omega (arith, placed)

pub overflow_sub-len : goal.overflow_sub-len
overflow_sub-len c =
    let placed : Bounded (line_in c.args.line.now) (get_or c.args.line.now.places.now (2 * c.args.k) 0) (get_or c.args.line.now.places.now (2 * c.args.k + 1) 0) = bounds_at _ _ _ c.args.line.now.listed c.args.k c.requires.1 in
    omega (arith, placed)

pub tag_limit-requires : goal.tag_limit-requires
tag_limit-requires c = tt
