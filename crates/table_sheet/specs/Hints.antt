-- Where a tag's row is guessed: a tag is folded to a number, the number to one of 512 places of its table. No answer rests on
-- it; so that nothing is left open, what is noted is fixed here as well.
use Rattle.std.specs.Prelude.{ℕ, ◌+◌, ◌-◌, ◌*◌, ◌/◌, ◌%◌, ◌^◌, List, eqb, ltb, length, get_or}
use Rattle.std.specs.Int.Bits.{bit_or, bit_xor}
use Rattle.rules.specs.Lists.{pick}
use Rattle.texts.specs.Words.{four_at, eight_at}

-- moved up by some bits in a number of 64
abbrev pub moved : ℕ → ℕ → ℕ
moved x bits = x * 2 ^ bits % 2 ^ 64

-- a tag's bytes at the number's top: its first, middle and last; its first four and last four
unfoldable pub few_bytes : List ℕ → ℕ
few_bytes tag =
    let n = length tag in
    bit_or (bit_or (moved (get_or tag 0 0) (64 - 8 * n)) (moved (get_or tag (n / 2) 0) (64 - 8 * n + 8 * (n / 2))))
    (moved (get_or tag (n - 1) 0) 56)

unfoldable pub some_bytes : List ℕ → ℕ
some_bytes tag = let n = length tag in bit_or (moved (four_at tag 0) (64 - 8 * n)) (moved (four_at tag (n - 4)) 32)

-- of 8 bytes or more, its first eight and last eight
unfoldable pub number_at : List ℕ → ℕ → ℕ → ℕ
number_at file start len = bit_xor (eight_at file start) (moved (eight_at file (start + len - 8)) 3)

unfoldable pub tag_number : List ℕ → ℕ
tag_number tag =
    let n = length tag in
    pick (eqb n 0) 0 (pick (ltb n 4) (few_bytes tag) (pick (ltb n 8) (some_bytes tag) (number_at tag 0 n)))

-- the place of a table's hint for a tag with this number
unfoldable pub hint_place : ℕ → ℕ → ℕ
hint_place table number = 512 * table + bit_xor number (number / 4294967296) % 4294967296 * 1150506051 / 8388608 % 512
