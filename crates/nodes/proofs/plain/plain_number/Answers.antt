-- `nodes::plain::plain_number` meets its contract: behind the first byte of its first column stand three digits.
use Rattle.columns.specs.Lines.{line_in}
use native.Mathlib.Omega.{arith}
use Rattle.std.proofs.lemmas.Option.{IfSome_then}
use Prim.Native.Nat.{◌<◌}
use mathlib.Core.Path.{ap, ◌∙◌}
use lib.ListN.{get_or}
use Rattle.rules.specs.Numbers.{phrase_number, number}
use Rattle.columns.proofs.ListedColumns.{Bounded, bounds_at}
use Rattle.nodes.proofs.PlainColumns.{behind_first}
use Rattle.nodes.proofs.plain.plain_number.Goals as goal

pub returns : goal.returns
returns c =
    let there : 0 < c.args.line.now.columns = omega (arith, c.requires) in
    IfSome_then c.three_digits.result c.three_digits.ensures
    (λ n digits. (ap (number phrase_number) (behind_first _ _ _ c.args.line.now.listed 0 there c.if-line-start-ne4.false) ∙ digits.1, digits.2, digits.3))

pub bounds-line-0 : goal.bounds-line-0
bounds-line-0 c = omega arith

pub overflow_cast-start : goal.overflow_cast-start
overflow_cast-start c =
    let there : 0 < c.args.line.now.columns = omega (arith, c.requires) in
    let placed : Bounded (line_in c.args.line.now) (get_or c.args.line.now.places.now 0 0) (get_or c.args.line.now.places.now 1 0) = bounds_at _ _ _ c.args.line.now.listed 0 there in
    omega (arith, placed)

pub bounds-line-1 : goal.bounds-line-1
bounds-line-1 c = omega arith

pub overflow_cast-line : goal.overflow_cast-line
overflow_cast-line c =
    let there : 0 < c.args.line.now.columns = omega (arith, c.requires) in
    let placed : Bounded (line_in c.args.line.now) (get_or c.args.line.now.places.now 0 0) (get_or c.args.line.now.places.now 1 0) = bounds_at _ _ _ c.args.line.now.listed 0 there in
    omega (arith, placed)

pub overflow_sub-line : goal.overflow_sub-line
overflow_sub-line c =
    let there : 0 < c.args.line.now.columns = omega (arith, c.requires) in
    let placed : Bounded (line_in c.args.line.now) (get_or c.args.line.now.places.now 0 0) (get_or c.args.line.now.places.now 1 0) = bounds_at _ _ _ c.args.line.now.listed 0 there in
    omega (arith, placed)

pub overflow_add-start : goal.overflow_add-start
overflow_add-start c =
    let there : 0 < c.args.line.now.columns = omega (arith, c.requires) in
    let placed : Bounded (line_in c.args.line.now) (get_or c.args.line.now.places.now 0 0) (get_or c.args.line.now.places.now 1 0) = bounds_at _ _ _ c.args.line.now.listed 0 there in
    omega (arith, placed, c.args.line.now.listed.inside, c.args.line.now.listed.limited)

pub three_digits-requires : goal.three_digits-requires
three_digits-requires c =
    let there : 0 < c.args.line.now.columns = omega (arith, c.requires) in
    let placed : Bounded (line_in c.args.line.now) (get_or c.args.line.now.places.now 0 0) (get_or c.args.line.now.places.now 1 0) = bounds_at _ _ _ c.args.line.now.listed 0 there in
    omega (arith, placed, c.args.line.now.listed.inside, c.if-line-start-ne4.false)
