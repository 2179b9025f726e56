-- Document 01, "Lines and bytes": a line's bytes are 9, 32 to 127 or 160 to 255; white is 9 and 32 only, 160 is an
-- ordinary byte; there are four classes of bytes.
use Rattle.std.specs.Prelude.{ℕ, Bool, true, ◌||◌, List, [], ◌∷◌, map, eqb}
use Rattle.rules.specs.Lists.{pick, between, every, same, bytes, counting}

-- a line ends with this byte
abbrev pub newline : ℕ
newline = 10

abbrev pub white : ℕ → Bool
white b = eqb b 9 || eqb b 32

abbrev pub digit : ℕ → Bool
digit b = between 48 57 b

abbrev pub legal : ℕ → Bool
legal b = eqb b 9 || between 32 127 b || between 160 255 b

-- the byte classes: illegal (byte 10 included), white, digit, other
abbrev pub illegal_class : ℕ
illegal_class = 0

abbrev pub white_class : ℕ
white_class = 1

abbrev pub digit_class : ℕ
digit_class = 2

abbrev pub other_class : ℕ
other_class = 3

unfoldable pub class_of : ℕ → ℕ
class_of b = pick (white b) white_class (pick (digit b) digit_class (pick (legal b) other_class illegal_class))

-- the class of every byte from 0 to 255
unfoldable pub class_table : List ℕ
unfolding class_of
class_table = map class_of (counting 0 256)

-- two percent signs
abbrev pub percents : List ℕ
percents = bytes "%%"

-- a line of only white bytes, or one that begins with %%, is ignored
unfoldable pub ignored : List ℕ → Bool
ignored [] = true
ignored (a ∷ []) = white a
ignored (a ∷ b ∷ bs) = same (a ∷ b ∷ []) percents || every white (a ∷ b ∷ bs)
