-- `headings::bos::read_heading` meets its contract: its columns and its numbers.
use Rattle.columns.specs.Lines.{text_in, columns_in}
use native.Mathlib.Omega.{arith}
use Prim.Native.Nat.{◌<◌}
use mathlib.Core.Path.{◌≡◌, sym, ◌∙◌}
use mathlib.Core.Bool.{true}
use Rattle.headings.specs.Headings.{whole}
use Rattle.headings.proofs.BosLines.{whole_long, bad_column}
use Rattle.headings.proofs.HeadingSteps.{as_written}
use Rattle.headings.proofs.bos.read_heading.Goals as goal

pub returns-then-not-has_columns : goal.returns-then-not-has_columns
returns-then-not-has_columns c =
    rw (c.line_fault.ensures, as_written (text_in c.args.line.now), sym c.has_columns.ensures ∙ c.if-not-has_columns.true)

pub column_fault-requires : goal.column_fault-requires
column_fault-requires c =
    let is_whole : whole (columns_in c.args.line.now) ≡ true = sym c.has_columns.ensures ∙ c.if-not-has_columns.false in
    let long : 4 < c.args.line.now.columns = omega (arith, c.args.line.now.listed.counted, whole_long (columns_in c.args.line.now) is_whole) in
    omega (arith, long, bad_column (columns_in c.args.line.now) _ (sym c.in-Err.ensures))

pub returns-in-Ok : goal.returns-in-Ok
returns-in-Ok c =
    rw (c.say_heading.ensures, as_written (text_in c.args.line.now), sym c.has_columns.ensures ∙ c.if-not-has_columns.false, sym c.in-Ok.ensures)

pub returns-in-Err : goal.returns-in-Err
returns-in-Err c =
    rw (c.column_fault.ensures, as_written (text_in c.args.line.now), sym c.has_columns.ensures ∙ c.if-not-has_columns.false, sym c.in-Err.ensures)
