-- `printing::put_text` meets its contract: what the output has no room for changes nothing.
-- No loop.
use native.Mathlib.Omega.{arith}
use Prim.Native.Nat.{ℕ, ◌-◌}
use mathlib.Core.Path.{sym, ap, ◌∙◌}
use mathlib.Core.List.{List}
use lib.ListN.{length}
use lib.Seq.{take-length}
use Rattle.printing.specs.Over.{over}
use Rattle.printing.proofs.OverLaws.{over_behind, over_cut}
use Rattle.printing.proofs.PutLaws.{put_whole}
use Rattle.printing.proofs.put_text.Goals as goal

pub returns-then-end-out : goal.returns-then-end-out
returns-then-end-out c =
    let a = c.args in
    put_whole (c.copy.ensures ∙ ap (λ (x : List ℕ). over a.at x a.out.now) (take-length a.text.now))

pub returns-then-at-out : goal.returns-then-at-out
returns-then-at-out c =
    let a = c.args in
    put_whole (c.copy-then-at-out.ensures ∙ over_cut a.at a.text.now a.out.now (length a.out.now - a.at) (omega arith))

pub returns-else-at-out : goal.returns-else-at-out
returns-else-at-out c =
    let a = c.args in
    put_whole (sym (over_behind a.at a.text.now a.out.now (omega arith)))
