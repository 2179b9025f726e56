-- `table_sheet::hints::some_bytes` meets its contract: the two numbers it reads are the definition's.
use Prim.Native.Nat.{ℕ, ◌-◌, ◌*◌}
use mathlib.Core.Path.{ap₂, ◌∙◌}
use lib.Bits.{bit_or}
use lib.ListN.{length}
use Rattle.table_sheet.specs.Hints.{moved, some_bytes}
use Rattle.table_sheet.proofs.hints.some_bytes.Goals as goal

pub returns : goal.returns
unfolding some_bytes
returns c =
    ap₂ (λ (x y : ℕ). bit_or (moved x (64 - 8 * length c.args.tag.now)) (moved y 32))
    (c.from-front.ensures ∙ c.four_at.ensures.0) (c.from-back.ensures ∙ c.four_at-2.ensures.0)
