-- `seen::has` meets its contract: the byte is shifted by the bit's place, as the definition has it.
use mathlib.Core.Path.{refl}
use Rattle.seen.specs.Bits.{bit_at}
use Rattle.seen.proofs.has.Goals as goal

pub returns : goal.returns
unfolding bit_at
returns c = refl
