-- `digits::put_number` meets its contract: at the output's end or behind it there is nothing to put.
-- No loop.
use native.Mathlib.Omega.{arith}
use Prim.Native.Nat.{ℕ, ◌+◌}
use mathlib.Core.Path.{sym, ap}
use Rattle.rules.specs.Tidy.{digits_of}
use Rattle.printing.proofs.OverLaws.{over_behind}
use Rattle.printing.proofs.digits.put_number.Goals as goal

pub returns-then-at-out : goal.returns-then-at-out
returns-then-at-out c =
    let a = c.args in
    let n = c.count_digits-count.ensures in
    record {
      place = ap (λ (k : ℕ). a.at + k) n.0;
      bytes = sym (over_behind a.at (digits_of a.n) a.out.now (omega arith));
      within = omega arith;
    }
