-- `digits::put_digits` meets its contract: the digits of what is left, put over the output so far, are the number's put over
-- the output lent.
use native.Mathlib.Omega.{arith}
use Prim.Native.Nat.{ℕ, ◌+◌, ◌-◌}
use mathlib.Core.Path.{◌≡◌, ap}
use Rattle.printing.proofs.DigitLaws.{putting_start, putting_next}
use Rattle.printing.proofs.digits.put_digits.Goals as goal

pub loop-place-init : goal.loop-place-init
loop-place-init c =
    let a = c.args in
    putting_start a.at a.n a.out.now (a.at + a.count) (ap (λ (k : ℕ). a.at + k) c.requires.0)

pub loop-place-preserved : goal.loop-place-preserved
loop-place-preserved c =
    let a = c.args in
    let l = c.loop-place in
    let e : l.place ≡ l.place - 1 + 1 = omega arith in
    putting_next a.at a.n a.out.now (l.place - 1) l.left l.out (omega arith) (rw (← e) l.invariant)
    c.last_digit.ensures c.put_byte.ensures (omega arith)
