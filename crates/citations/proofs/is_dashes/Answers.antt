-- `citations::is_dashes` meets its contract: a yes is that of `is_twice`.
use native.Mathlib.Nat.{add-sub_cancel_left}
use Prim.Native.Nat.{ℕ}
use mathlib.Core.Path.{sym, ap, ◌∙◌}
use lib.ListN.{take, drop}
use Rattle.rules.specs.Lists.{same}
use Rattle.rules.specs.Tables.{dashes}
use Rattle.citations.proofs.is_dashes.Goals as goal

pub returns : goal.returns
returns c e =
    let a = c.args in
    ap (λ (n : ℕ). same (take n (drop a.start a.file.now)) dashes) (sym (add-sub_cancel_left a.start a.len))
    ∙ sym c.is_twice.ensures
    ∙ e
