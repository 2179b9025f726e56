-- `nodes::plain::plain_parent` meets its contract: the parent is three digits, and each tag is plain.
use Rattle.columns.specs.Lines.{line_in}
use native.Mathlib.Omega.{arith}
use Prim.Native.Nat.{◌<◌}
use mathlib.Core.Path.{ap, ◌∙◌}
use lib.ListN.{get_or}
use Rattle.rules.specs.Numbers.{parent_number}
use Rattle.columns.proofs.ListedColumns.{Bounded, bounds_at}
use Rattle.nodes.proofs.PlainColumns.{three_bytes}
use Rattle.nodes.proofs.plain.plain_parent.Goals as goal

pub three_digits-requires : goal.three_digits-requires
three_digits-requires c =
    let there : 4 < c.args.line.now.columns = omega (arith, c.requires.1) in
    let placed : Bounded (line_in c.args.line.now) (get_or c.args.line.now.places.now 8 0) (get_or c.args.line.now.places.now 9 0) = bounds_at _ _ _ c.args.line.now.listed 4 there in
    omega (arith, placed, c.args.line.now.listed.inside, c.if-line-start-ne3.false)

pub returns : goal.returns
returns c =
    let there : 4 < c.args.line.now.columns = omega (arith, c.requires.1) in
    let digits = c.in_ok-parent.ensures in
    record {
      tag = c.is_plain_tag.ensures (c.if-not-is_plain_tag.false);
      morphology = c.is_plain_tag-2.ensures (c.if-not-is_plain_tag-2.false);
      edge = c.is_plain_tag-3.ensures (c.if-not-is_plain_tag-3.false);
      parent = ap parent_number (three_bytes _ _ _ c.args.line.now.listed 4 there c.if-line-start-ne3.false) ∙ digits.0;
      phrase = digits.2;
    }

pub bounds-line-8 : goal.bounds-line-8
bounds-line-8 c = omega arith

pub overflow_cast-start : goal.overflow_cast-start
overflow_cast-start c =
    let there : 4 < c.args.line.now.columns = omega (arith, c.requires.1) in
    let placed : Bounded (line_in c.args.line.now) (get_or c.args.line.now.places.now 8 0) (get_or c.args.line.now.places.now 9 0) = bounds_at _ _ _ c.args.line.now.listed 4 there in
    omega (arith, placed)

pub bounds-line-9 : goal.bounds-line-9
bounds-line-9 c = omega arith

pub overflow_cast-line : goal.overflow_cast-line
overflow_cast-line c =
    let there : 4 < c.args.line.now.columns = omega (arith, c.requires.1) in
    let placed : Bounded (line_in c.args.line.now) (get_or c.args.line.now.places.now 8 0) (get_or c.args.line.now.places.now 9 0) = bounds_at _ _ _ c.args.line.now.listed 4 there in
    omega (arith, placed)

pub overflow_sub-line : goal.overflow_sub-line
overflow_sub-line c =
    let there : 4 < c.args.line.now.columns = omega (arith, c.requires.1) in
    let placed : Bounded (line_in c.args.line.now) (get_or c.args.line.now.places.now 8 0) (get_or c.args.line.now.places.now 9 0) = bounds_at _ _ _ c.args.line.now.listed 4 there in
    omega (arith, placed)

pub is_plain_tag-requires : goal.is_plain_tag-requires
is_plain_tag-requires c =
    let there : 4 < c.args.line.now.columns = omega (arith, c.requires.1) in
    (c.requires.0, omega (arith, there), c.requires.2)

pub is_plain_tag-requires-2 : goal.is_plain_tag-requires-2
is_plain_tag-requires-2 c =
    let there : 4 < c.args.line.now.columns = omega (arith, c.requires.1) in
    (c.requires.0, omega (arith, there), omega arith)

pub is_plain_tag-requires-3 : goal.is_plain_tag-requires-3
is_plain_tag-requires-3 c =
    let there : 4 < c.args.line.now.columns = omega (arith, c.requires.1) in
    (c.requires.0, omega (arith, there), omega arith)
