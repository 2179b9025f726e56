-- `table_sheet::hints::place_of` meets its contract: it computes as the definition does.
use native.Mathlib.Nat.{mod-lt}
use native.Mathlib.Omega.{arith}
use Prim.Native.Nat.{◌/◌, ◌%◌, ◌*◌, ◌<◌}
use mathlib.Core.Path.{refl}
use lib.Bits.{bit_xor}
use Rattle.table_sheet.specs.Hints.{hint_place}
use Rattle.table_sheet.proofs.hints.place_of.Goals as goal

pub returns : goal.returns
unfolding hint_place
returns c =
    let below : bit_xor c.args.number (c.args.number / 4294967296) % 4294967296 * 1150506051 / 8388608 % 512 < 512 = mod-lt _
    (omega arith) in
    (refl, omega (arith, below, c.requires))
