-- What the bits of a byte weigh: a test computed over all bytes and all bits.
use mathlib.Core.Path.{◌≡◌}
use mathlib.Core.Bool.{Bool, true}
use Prim.Native.Nat.{ℕ, ◌+◌, ◌*◌, ◌%◌, ◌^◌, ◌<◌}
use lib.Dec.{eqb, ltb, eqb→eq, ltb→lt}
use borrow.Author.Tests.{eq-eqb}
use Rattle.rules.specs.Lists.{pick, every, counting}
use Rattle.rules.proofs.Counting.{holds_below}
use Rattle.seen.specs.Bits.{bit}

-- a byte whose bit k is clear has room for it
abbrev has_room : ℕ → ℕ → Bool
has_room byte k = pick (eqb (bit byte k) 0) (ltb (byte + 2 ^ k) 256) true

abbrev has_rooms : ℕ → Bool
has_rooms byte = every (has_room byte) (counting 0 8)

pub room : (byte k : ℕ) → byte < 256 → k < 8 → bit byte k ≡ 0 → byte + 2 ^ k < 256
room byte k hb hk clear =
    ltb→lt (byte + 2 ^ k) 256
    (rw (eq-eqb (bit byte k) 0 clear) at (holds_below (has_room byte) 8 (holds_below has_rooms 256 tt byte hb) k hk))

-- in a byte a bit's weight has room
pub weight : (k : ℕ) → k < 8 → 1 * 2 ^ k % 256 ≡ 2 ^ k
weight k h = eqb→eq (1 * 2 ^ k % 256) (2 ^ k) (holds_below (λ (j : ℕ). eqb (1 * 2 ^ j % 256) (2 ^ j)) 8 tt k h)
