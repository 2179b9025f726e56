-- `columns::ListedLine::count_fields` meets its contract. The invariant: the fields from the loop's column on, and the columns
-- in front of it, are as many as the fields.
use Rattle.columns.specs.Lines.{columns_in}
use native.Mathlib.Omega.{arith}
use Prim.Native.Nat.{ℕ, ◌<◌}
use mathlib.Core.Path.{◌≡◌, sym, ap, ◌∙◌}
use mathlib.Core.List.{List}
use lib.ListN.{length}
use native.Mathlib.Nat.{zero-add}
use Rattle.rules.specs.Lists.{same}
use Rattle.rules.specs.Bytes.{percents}
use Rattle.columns.proofs.FieldColumns.{starts, fields_stop, fields_more, fields_end}
use Rattle.columns.proofs.listed.ListedLine.count_fields.Goals as goal

pub loop-k-init : goal.loop-k-init
loop-k-init c = zero-add _

pub returns-then-is_twice : goal.returns-then-is_twice
returns-then-is_twice c =
    let asked : starts (columns_in c.args.self.now) c.loop-k.k ≡ c.is_twice.result = sym (c.is_twice.ensures ∙ ap (λ (xs : List ℕ). same xs percents) c.column_text.ensures) in
    let there : c.loop-k.k < length (columns_in c.args.self.now) = omega (arith, c.loop-k-test.true, c.args.self.now.listed.counted) in
    sym (fields_stop (columns_in c.args.self.now) c.loop-k.k there (asked ∙ c.if-is_twice.true)) ∙ c.loop-k.invariant

pub loop-k-preserved : goal.loop-k-preserved
loop-k-preserved c =
    let asked : starts (columns_in c.args.self.now) c.loop-k.k ≡ c.is_twice.result = sym (c.is_twice.ensures ∙ ap (λ (xs : List ℕ). same xs percents) c.column_text.ensures) in
    let there : c.loop-k.k < length (columns_in c.args.self.now) = omega (arith, c.loop-k-test.true, c.args.self.now.listed.counted) in
    sym (fields_more (columns_in c.args.self.now) c.loop-k.k there (asked ∙ c.if-is_twice.false)) ∙ c.loop-k.invariant

pub returns : goal.returns
returns c =
    let all : c.loop-k.k ≡ c.args.self.now.columns = omega (arith, c.loop-k-test.false, c.loop-k.auto.k-end) in
    sym all ∙ sym (fields_end (columns_in c.args.self.now) c.loop-k.k (omega (arith, c.args.self.now.listed.counted))) ∙ c.loop-k.invariant
