-- `headings::heading_line` meets its contract: the line as it is written, then what it cites.
use Rattle.columns.specs.Lines.{text_in}
use native.Mathlib.Omega.{arith}
use Prim.Native.Nat.{ℕ}
use Rattle.std.proofs.Common.{rules}
use mathlib.Core.Path.{sym, ◌∙◌}
use mathlib.Core.Bool.{Bool}
use Rattle.table_sheet.specs.SheetRows.{tables_in}
use Rattle.seen.specs.Bits.{bit_at}
use Rattle.headings.proofs.HeadingSteps.{said_long, said_within, then_cited, not_written}
use Rattle.headings.proofs.heading_line.Goals as goal

pub returns-in_err-said : goal.returns-in_err-said
returns-in_err-said c =
    let used : ℕ → Bool = bit_at c.args.seen.now in
    rw (not_written (tables_in c.args.line.now.file.now c.args.sheet.now) used (text_in c.args.line.now) _ (sym c.in_err-said.ensures)) (search rules)

pub judge_cited-requires : goal.judge_cited-requires
judge_cited-requires c =
    let line = text_in c.args.line.now in
    let within = said_within line _ (sym c.in_ok-said.ensures) in
    let long = said_long line _ (sym c.in_ok-said.ensures) in
    (c.requires.0, c.requires.1, within.0, within.1, omega (arith, long, c.args.line.now.listed.counted))

pub returns : goal.returns
returns c =
    let used : ℕ → Bool = bit_at c.args.seen.now in
    c.judge_cited.ensures
    ∙ sym (then_cited (tables_in c.args.line.now.file.now c.args.sheet.now) used (text_in c.args.line.now) _ (sym c.in_ok-said.ensures))
