-- `columns::listing::comment_of` meets its contract: the comment is the text behind the column that follows the fields.
-- No loop.
use native.Mathlib.Omega.{arith}
use Prim.Native.Nat.{ℕ, ◌+◌, ◌-◌}
use mathlib.Core.Path.{◌≡◌, sym, ap, ◌∙◌}
use lib.ListN.{length}
use Rattle.rules.specs.Texts.{trim}
use Rattle.rules.specs.Columns.{column, fields}
use Rattle.columns.specs.Listing.{columns_of, span_of}
use Rattle.columns.proofs.FieldColumns.{fields_few, comment_behind}
use Rattle.columns.proofs.ListedColumns.{columns_few}
use Rattle.columns.proofs.listing.comment_of.Goals as goal

pub overflow_add-fields_count : goal.overflow_add-fields_count
overflow_add-fields_count c =
    let few = fields_few (columns_of c.requires.0 c.args.line) in
    omega (arith, columns_few _ _ _ c.requires.1, c.requires.1.counted, c.requires.2)

pub returns : goal.returns
returns c =
    λ file h e.
    let cs = columns_of file c.args.line in
    let m : c.args.fields_count + 1 - 1 ≡ length (fields cs) = omega arith in
    c.text_from.ensures file h
    ∙ ap (λ (n : ℕ). span_of (trim (column cs n).after)) m
    ∙ ap span_of (sym (comment_behind cs))
