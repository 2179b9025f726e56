-- Document 01, "The file from top to bottom": the keyword lines of the format and of tables, and the kinds of lines, by
-- their first column.
use Rattle.std.specs.Prelude.{ℕ, Bool, false, not, ◌&&◌, ◌||◌, List, [], ◌∷◌, length, ltb, eqb, Option, None, Some}
use Rattle.rules.specs.Lists.{pick, bytes, empty, every}
use Rattle.rules.specs.Bytes.{white, digit}
use Rattle.rules.specs.Texts.{Text, no_text, reads}
use Rattle.rules.specs.Columns.{columns, written}
use Rattle.rules.specs.Numbers.{format_number, number, good, value}
use Rattle.rules.specs.Rules.{rule, Verdict, checked}
use Rattle.rules.specs.Tables.{Tables, table_named, present}

-- the formats that are read
abbrev pub accepts : ℕ → Bool
accepts n = eqb n 3

-- #FORMAT 3
unfoldable pub format_of : Text → Verdict ℕ
format_of line =
    let cs = columns line in
    let n = number format_number (written cs 1).bytes in
    checked
    (rule 7 line (eqb (length cs) 2)
    ∷ rule 8 (written cs 1) (good n)
    ∷ rule 9 line (accepts (value n))
    ∷ [])
    (value n)

-- each table at most once
abbrev pub fresh : Tables → Option ℕ → Bool
fresh ts None = false
fresh ts (Some n) = not (present n ts)

-- #BOT NAME; a missing name is a missing column
unfoldable pub table_opened : Tables → Text → Verdict ℕ
table_opened ts line =
    let cs = columns line in
    let n = table_named (written cs 1) in
    checked (rule 6 line (ltb (length cs) 2 || fresh ts n) ∷ rule 7 line (eqb (length cs) 2) ∷ []) (value n)

abbrev pub itself : ℕ → Option ℕ → Bool
itself n None = false
itself n (Some m) = eqb n m

-- #EOT NAME, with the name at #BOT
unfoldable pub table_ended : ℕ → Text → Verdict ℕ
table_ended n line =
    let cs = columns line in
    checked (rule 6 line (ltb (length cs) 2 || itself n (table_named (written cs 1))) ∷ rule 7 line (eqb (length cs) 2) ∷ []) n

-- ---- kinds of lines, by their first column; a leading white byte leaves none

abbrev pub leading_white : List ℕ → Bool
leading_white [] = false
leading_white (b ∷ bs) = white b

unfoldable pub first_column : Text → Text
first_column line = pick (leading_white line.bytes) no_text (written (columns line) 0)

abbrev pub hashed : List ℕ → Bool
hashed [] = false
hashed (b ∷ bs) = eqb b 35

-- in a table a line that begins with no # or white byte is a row
abbrev pub starts_row : Text → Bool
starts_row t = not (empty t.bytes) && not (hashed t.bytes)

-- a word may be a lone #, but doesn't start with # otherwise
abbrev pub starts_word : Text → Bool
starts_word t = reads (bytes "#") t || starts_row t

abbrev pub digits : List ℕ → Bool
digits [] = false
digits (d ∷ ds) = every digit (d ∷ ds)

abbrev pub hash_and_digits : List ℕ → Bool
hash_and_digits [] = false
hash_and_digits (b ∷ bs) = eqb b 35 && digits bs

-- in a line of the form # and digits the number is a phrase's
abbrev pub starts_phrase : Text → Bool
starts_phrase t = hash_and_digits t.bytes
