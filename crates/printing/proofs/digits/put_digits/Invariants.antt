-- `digits::put_digits` meets its contract: the digits of what is left, put over the output so far, are the number's put over
-- the output lent.
use Rattle.printing.proofs.DigitLaws.{Putting}
use Rattle.printing.proofs.digits.put_digits.Given as goal

abbrev pub invariant-loop-place : goal.invariant-loop-place
invariant-loop-place l = Putting l.at l.n l.initial.out l.place l.left l.out
