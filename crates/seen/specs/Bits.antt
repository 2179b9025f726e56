-- The seen set, bit by bit. Document 01, "The sheets": number n is bit n mod 8 (bit 0 weighs 1) of byte n / 8.
use Rattle.std.specs.Prelude.{ℕ, ◌+◌, ◌/◌, ◌%◌, ◌^◌, Bool, List, map, get_or, set, eqb}
use Rattle.rules.specs.Lists.{counting}
use Rattle.rules.specs.Sheets.{seen_byte}

abbrev pub bit : ℕ → ℕ → ℕ
bit byte k = byte / 2 ^ k % 2

-- the number is in the set
unfoldable pub bit_at : List ℕ → ℕ → Bool
bit_at seen n = eqb (bit (get_or seen (n / 8) 0) (n % 8)) 1

-- the set with one number more, which was not in it
unfoldable pub with_bit : List ℕ → ℕ → List ℕ
with_bit seen n = set seen (n / 8) (get_or seen (n / 8) 0 + 2 ^ (n % 8))

-- the set of as many bytes that holds these numbers
unfoldable pub seen_set_of : ℕ → List ℕ → List ℕ
seen_set_of size ns = map (seen_byte ns) (counting 0 size)
