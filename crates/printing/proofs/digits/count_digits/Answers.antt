-- `digits::count_digits` meets its contract: the digits passed and those of what is left are the number's.
-- The measure is what is left.
use native.Mathlib.Omega.{arith}
use Rattle.printing.proofs.DigitLaws.{digits_few, length_one, length_more}
use Rattle.printing.proofs.digits.count_digits.Goals as goal

pub loop-left-init : goal.loop-left-init
loop-left-init c = (omega arith, digits_few c.args.n (omega arith))

pub loop-left-preserved : goal.loop-left-preserved
loop-left-preserved c = (omega (arith, length_more c.loop-left.left (omega arith)), c.loop-left.invariant.1)

pub returns : goal.returns
returns c = (omega (arith, length_one c.loop-left.left (omega arith)), omega (arith, length_one c.loop-left.left (omega arith)))
