-- `headings::bos::has_columns` meets its contract: by how many columns there are.
use Rattle.columns.specs.Lines.{columns_in}
use native.Mathlib.Omega.{arith}
use Prim.Native.Nat.{ℕ, ◌<◌}
use mathlib.Core.Path.{◌≡◌, sym, ap, ◌∙◌}
use mathlib.Core.List.{List}
use lib.ListN.{length}
use Rattle.rules.specs.Lists.{same}
use Rattle.rules.specs.Bytes.{percents}
use Rattle.headings.proofs.BosLines.{whole_five, whole_more}
use Rattle.headings.proofs.bos.has_columns.Goals as goal

pub returns-in-5 : goal.returns-in-5
returns-in-5 c =
    let h : length (columns_in c.args.line.now) ≡ 5 = omega arith in
    sym (whole_five (columns_in c.args.line.now) h)

pub returns-in_default : goal.returns-in_default
returns-in_default c =
    let h : 5 < length (columns_in c.args.line.now) = omega arith in
    c.is_twice.ensures ∙ ap (λ (t : List ℕ). same t percents) c.column_text.ensures ∙ sym (whole_more (columns_in c.args.line.now) h)
