-- `texts::words::four_at` meets its contract: the sum of four bytes with their weights.
use native.Mathlib.Omega.{arith}
use Rattle.texts.proofs.AsNumbers.{four_sum}
use Rattle.texts.proofs.words.four_at.Goals as goal

pub returns : goal.returns
returns c = (omega (arith, four_sum c.args.text.now c.args.at, c.from_le_bytes.ensures), c.from_le_bytes.type_inv)
