-- `printing::put_byte` meets its contract: a byte behind the output's end changes nothing.
-- No loop.
use native.Mathlib.Omega.{arith}
use mathlib.Core.Path.{sym}
use mathlib.Core.List.{[], ◌∷◌}
use Rattle.printing.proofs.OverLaws.{over_behind, over_one}
use Rattle.printing.proofs.PutLaws.{put_whole}
use Rattle.printing.proofs.put_byte.Goals as goal

pub returns-then-at-out : goal.returns-then-at-out
returns-then-at-out c =
    let a = c.args in
    put_whole (sym (over_behind a.at (a.b ∷ []) a.out.now (omega arith)))

pub returns : goal.returns
returns c =
    let a = c.args in
    put_whole (sym (over_one a.at a.b a.out.now))
