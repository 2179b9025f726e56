-- `printing::copy` meets its contract: as many of the text's bytes as were stored have gone over the output lent.
use native.Mathlib.Omega.{arith}
use Prim.Native.Nat.{ℕ, ◌+◌}
use mathlib.Core.Path.{◌≡◌, refl, sym, ap, ◌∙◌}
use mathlib.Core.List.{List}
use lib.ListN.{get_or, set, length-set}
use Rattle.printing.proofs.OverLaws.{over_none, over_more}
use Rattle.printing.proofs.copy.Goals as goal

pub loop-i-init : goal.loop-i-init
loop-i-init c = (sym (over_none c.args.at c.args.out.now), refl)

pub loop-i-preserved : goal.loop-i-preserved
loop-i-preserved c =
    let a = c.args in (
      ap (λ (x : List ℕ). set x (a.at + c.loop-i.i) (get_or a.text.now c.loop-i.i 0)) c.loop-i.invariant.0
          ∙ over_more a.at a.text.now a.out.now c.loop-i.i (omega arith),
      simp length-set c.loop-i.invariant.1,
    )

pub returns : goal.returns
returns c =
    let e : c.loop-i.i ≡ c.args.count = omega arith in
    rw e at c.loop-i.invariant.0
