-- The reading's columns of a line's bytes alone, as if the line stood at the file's beginning: the words in which laws tie
-- the reading to the grammar.
use Prim.Native.Nat.{ℕ}
use mathlib.Core.List.{List, map}
use Rattle.rules.specs.Texts.{Text, trim}
use Rattle.rules.specs.Columns.{columns_from, column, written, texts, fields, comment}

-- all columns of a line
abbrev pub all_columns : List ℕ → List (List ℕ)
all_columns line = map (λ (t : Text). t.bytes) (texts (columns_from 0 line))

-- the columns in front of the comment, which the first column that is exactly %% begins
abbrev pub front_columns : List ℕ → List (List ℕ)
front_columns line = map (λ (t : Text). t.bytes) (fields (columns_from 0 line))

-- the comment
abbrev pub comment_of : List ℕ → List ℕ
comment_of line = (comment (columns_from 0 line)).bytes

-- a column of a line, counted from 0
abbrev pub column_at : ℕ → List ℕ → List ℕ
column_at n line = (written (columns_from 0 line) n).bytes

-- all that stands behind it
abbrev pub rest_behind : ℕ → List ℕ → Text
rest_behind n line = (column (columns_from 0 line) n).after

-- the same without the white bytes at both ends
abbrev pub text_behind : ℕ → List ℕ → List ℕ
text_behind n line = (trim (rest_behind n line)).bytes
