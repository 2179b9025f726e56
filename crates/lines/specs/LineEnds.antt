-- Document 01, "Lines and bytes" and "The numbers of refusal": a line ends with a newline; an unended rest is only ever
-- 3; of an ended line an illegal byte is 4, and more than 4,096 bytes are 5.
use Rattle.std.specs.Prelude.{ℕ, ◌+◌, Bool, List, [], ◌∷◌, length, drop, leb, eqb, Result, Ok, Err}
use Rattle.rules.specs.Lists.{pick, every, any}
use Rattle.rules.specs.Bytes.{newline, legal}
use Rattle.rules.specs.Numbers.{line_limit}
use Rattle.lines.specs.declared.Unreadable.{Unreadable}
use Rattle.lines.specs.declared.Unreadable.TheVariants.{Unended, Illegal, TooLong}

abbrev pub ends : ℕ → Bool
ends b = eqb b newline

-- a newline is among the bytes
abbrev pub has_end : List ℕ → Bool
has_end bs = any ends bs

-- the bytes in front of the first newline
unfoldable pub first_line : List ℕ → List ℕ
first_line [] = []
first_line (b ∷ bs) = let more = b ∷ first_line bs in pick (ends b) [] more

-- of a line that starts at a place: whether it is ended, whether its bytes are legal, and how many they are
unfoldable pub end_found : ℕ → Bool → Bool → ℕ → Result ℕ Unreadable
end_found from ended sound n = pick ended (pick sound (pick (leb n line_limit) (Ok (from + n)) (Err TooLong)) (Err Illegal)) (Err Unended)

unfoldable pub line_end : List ℕ → ℕ → Result ℕ Unreadable
line_end file from =
    let rest = drop from file in
    end_found from (has_end rest) (every legal (first_line rest)) (length (first_line rest))

-- document 01's number
abbrev pub line_refusal : Unreadable → ℕ
line_refusal Unended = 3
line_refusal Illegal = 4
line_refusal TooLong = 5
