-- `table_sheet::fours::pass_fours` meets its contract: from here on the rows give the answer of all the rows asked for.
use native.Mathlib.Omega.{arith}
use Prim.Native.Nat.{ℕ, ◌+◌, ◌-◌, ◌*◌, ◌/◌}
use mathlib.Core.Path.{◌≡◌, ap, ap₂, ◌∙◌}
use Rattle.rules.specs.Sheets.{row_width}
use Rattle.table_sheet.specs.SheetRows.{rows_from}
use Rattle.table_sheet.specs.LookUps.{id_from}
use Rattle.table_sheet.proofs.LookUps.{ids_miss}
use Rattle.table_sheet.proofs.fours.pass_fours.Goals as goal

pub returns-then-not-four_without : goal.returns-then-not-four_without
returns-then-not-four_without c =
    let a = c.args in
    let four = c.loop-four.four in
    let place : a.place + row_width * (4 * four) ≡ a.place + 24 * four = omega arith in (
      omega arith,
      λ file.
          ap (λ (at : ℕ). id_from (4 * four) a.id1 (rows_from file a.sheet.now at (a.rows - 4 * four))) place
          ∙ c.loop-four.invariant file,
    )

pub loop-four-preserved : goal.loop-four-preserved
loop-four-preserved c file =
    let a = c.args in
    let four = c.loop-four.four in
    let row : 4 * (four + 1) ≡ 4 * four + 4 = omega arith in
    let place : a.place + 24 * (four + 1) ≡ a.place + 24 * four + 24 = omega arith in
    ap₂ (λ (r at : ℕ). id_from r a.id1 (rows_from file a.sheet.now at (a.rows - r))) row place
    ∙ ids_miss file a.sheet.now (a.place + 24 * four) (4 * four) a.rows a.id1 (omega arith) (c.four_without.ensures (c.if-not-four_without.false))
    ∙ c.loop-four.invariant file

pub returns : goal.returns
returns c =
    let a = c.args in
    let four = c.loop-four.four in
    let row : a.rows / 4 * 4 ≡ 4 * four = omega arith in
    let place : a.place + row_width * (a.rows / 4 * 4) ≡ a.place + 24 * four = omega arith in (
      omega arith,
      λ file.
          ap₂ (λ (r at : ℕ). id_from r a.id1 (rows_from file a.sheet.now at (a.rows - r))) row place
          ∙ c.loop-four.invariant file,
    )
