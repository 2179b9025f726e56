-- `seen::add` meets its contract: a byte whose bit is clear has room for the bit's weight.
use native.Mathlib.Omega.{arith}
use Prim.Native.Nat.{ℕ, ◌/◌, ◌%◌, ◌<◌}
use mathlib.Core.Path.{◌≡◌}
use mathlib.Core.Bool.{false}
use mathlib.Core.List.{List}
use lib.ListN.{get_or}
use borrow.Author.Tests.{eqb-false}
use Rattle.seen.specs.Bits.{bit, bit_at, with_bit}
use Rattle.seen.proofs.Weights.{room}
use Rattle.seen.proofs.add.Goals as goal

-- a bit that isn't 1 is 0
clear-bit : (seen : List ℕ) (n : ℕ) → bit_at seen n ≡ false → bit (get_or seen (n / 8) 0) (n % 8) ≡ 0
unfolding bit_at
clear-bit seen n e =
    let clear : (bit (get_or seen (n / 8) 0) (n % 8) ≡ 1 → ⊥) = eqb-false (bit (get_or seen (n / 8) 0) (n % 8)) 1 e in
    omega arith

pub overflow_add-seen : goal.overflow_add-seen
overflow_add-seen c =
    let a = c.args in
    let k : a.n % 8 < 8 = omega arith in
    rw c.weight.ensures
    (record {
      fits =
          room (get_or a.seen.now (a.n / 8) 0) (a.n % 8) (c.slice_known-1.given (a.n / 8)).fits k
          (clear-bit a.seen.now a.n c.requires.1);
    })

pub returns : goal.returns
unfolding with_bit
returns c = rw c.weight.ensures
