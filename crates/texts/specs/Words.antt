-- Two, four or eight bytes of a text, from a place on, as one number: the first weighs 1, each other 256 times the one in
-- front of it.
use Rattle.std.specs.Prelude.{ℕ, ◌+◌, ◌-◌, ◌*◌, ◌%◌, ◌^◌, List, get_or}

unfoldable pub two_at : List ℕ → ℕ → ℕ
two_at bs at = get_or bs at 0 + 256 * get_or bs (at + 1) 0

unfoldable pub four_at : List ℕ → ℕ → ℕ
four_at bs at = two_at bs at + 65536 * two_at bs (at + 2)

unfoldable pub eight_at : List ℕ → ℕ → ℕ
eight_at bs at = four_at bs at + 4294967296 * four_at bs (at + 4)

-- the first n of eight bytes, at the top of a number of 64 bits; of none, all eight
unfoldable pub front_at : List ℕ → ℕ → ℕ → ℕ
front_at bs at n = eight_at bs at * 2 ^ ((64 - 8 * n) % 64) % 2 ^ 64
