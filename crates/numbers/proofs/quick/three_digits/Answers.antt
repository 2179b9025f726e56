-- `numbers::quick::three_digits` meets its contract: past its pattern three digits stand there, and the first is 5 at least.
use native.Mathlib.Omega.{arith}
use Prim.Native.Nat.{ℕ, ◌+◌, ◌-◌}
use mathlib.Core.Path.{◌≡◌}
use mathlib.Core.List.{List}
use lib.ListN.{get_or, take, drop}
use Rattle.numbers.proofs.ThreeDigits.{ThreeDigits, three_write}
use Rattle.numbers.proofs.quick.three_digits.Goals as goal

pub returns : goal.returns
returns c =
    let s : List ℕ = take (c.args.at + 3 - c.args.at) (drop c.args.at c.args.file.now) in
    let three : ThreeDigits (get_or s 0 0) (get_or s 1 0) (get_or s 2 0) = record {
      first_low = omega arith;
      first_high = omega arith;
      second_low = omega arith;
      second_high = omega arith;
      third_low = omega arith;
      third_high = omega arith;
    } in
    let wide : c.args.at + 3 - c.args.at ≡ 3 = omega arith in
    rw (c.from-hundreds.ensures, c.from-tens.ensures, c.from-ones.ensures, wide)
    (rw wide at (three_write s (omega arith) three))
