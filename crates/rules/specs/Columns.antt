-- Document 01, "Lines and bytes": a column is a run of bytes that aren't white. A line is a text too: its first byte's
-- place, and its bytes without the newline.
use Rattle.std.specs.Prelude.{ℕ, suc, Bool, false, not, List, [], ◌∷◌, map, get_or}
use Rattle.rules.specs.Lists.{pick}
use Rattle.rules.specs.Bytes.{white, percents}
use Rattle.rules.specs.Texts.{Text, no_text, reads, trim}

-- a column, and all that stands behind it in its line
pub record Column : Type 0 where
  pub text : Text
  pub after : Text

-- does a column go on with this?
abbrev pub goes_on : List ℕ → Bool
goes_on [] = false
goes_on (b ∷ bs) = not (white b)

-- the byte b at a place, in front of the column that follows at once
abbrev pub with_first : ℕ → ℕ → List Column → List Column
with_first at b [] = []
with_first at b (c ∷ cs) = record { text = record { start = at; bytes = b ∷ c.text.bytes }; after = c.after } ∷ cs

-- the byte b at a place, the last of its column
abbrev pub last_byte : ℕ → ℕ → List ℕ → Column
last_byte at b bs =
    record { text = record { start = at; bytes = b ∷ [] }; after = record { start = suc at; bytes = bs } }

unfoldable pub columns_from : ℕ → List ℕ → List Column
columns_from at [] = []
columns_from at (b ∷ bs) =
    let cs = columns_from (suc at) bs in
    pick (white b) cs (pick (goes_on bs) (with_first at b cs) (last_byte at b bs ∷ cs))

abbrev pub columns : Text → List Column
columns line = columns_from line.start line.bytes

abbrev pub column : List Column → ℕ → Column
column cs n = get_or cs n (record { text = no_text; after = no_text })

abbrev pub written : List Column → ℕ → Text
written cs n = (column cs n).text

abbrev pub texts : List Column → List Text
texts cs = map (λ (c : Column). c.text) cs

abbrev pub text : List Text → ℕ → Text
text ts n = get_or ts n no_text

-- ---- the first column that is exactly %% begins the comment, up to the line's end

unfoldable pub fields : List Column → List Text
fields [] = []
fields (c ∷ cs) = let more = c.text ∷ fields cs in pick (reads percents c.text) [] more

unfoldable pub comment : List Column → Text
comment [] = no_text
comment (c ∷ cs) = let later = comment cs in pick (reads percents c.text) (trim c.after) later
