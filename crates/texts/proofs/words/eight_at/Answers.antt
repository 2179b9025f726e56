-- `texts::words::eight_at` meets its contract: the sum of eight bytes with their weights.
use native.Mathlib.Omega.{arith}
use Rattle.texts.proofs.AsNumbers.{eight_sum}
use Rattle.texts.proofs.words.eight_at.Goals as goal

pub returns : goal.returns
returns c = omega (arith, eight_sum c.args.text.now c.args.at, c.from_le_bytes.ensures)
