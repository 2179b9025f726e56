-- `table_sheet::clear_rows` meets its contract.
use native.Mathlib.Omega.{arith}
use native.Mathlib.Nat.{add-sub_cancel_left}
use Prim.Native.Nat.{ℕ, ◌+◌, ◌-◌}
use mathlib.Core.Path.{◌≡◌, ap, ◌∙◌}
use lib.ListN.{length, take, drop, replicate, length-replicate, length-drop}
use lib.Seq.{length-take-le}
use Rattle.table_sheet.proofs.Parts.{part_splice}
use Rattle.table_sheet.proofs.clear_rows.Goals as goal

pub returns : goal.returns
returns c =
    let a = c.args in
    let sized : length (take (a.place + a.numbers - a.place) (drop a.place a.sheet.now)) ≡ a.numbers =
    length-take-le (a.place + a.numbers - a.place) (drop a.place a.sheet.now) (omega (arith, length-drop a.place a.sheet.now)) ∙ add-sub_cancel_left a.place a.numbers in
    part_splice a.place _ a.sheet.now _ (replicate a.numbers 0)
    (c.fill.ensures.after (λ y e. e) ∙ ap (λ (n : ℕ). replicate n 0) sized)
    (omega (arith, length-replicate {A = ℕ} a.numbers 0))
