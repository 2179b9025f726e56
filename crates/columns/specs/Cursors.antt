-- What a cursor finds. Document 01, "Lines and bytes": a column place is a value, and each step hands back the advanced
-- place.
use Rattle.std.specs.Prelude.{ℕ, ◌+◌, List, [], ◌∷◌, length, drop, Option, Some, None}
use Rattle.rules.specs.Columns as lines
use Rattle.columns.specs.declared.Found.{Found}

-- a column from its first byte to behind its last, and a cursor there
abbrev pub found_at : ℕ → ℕ → Found
found_at start end = record { start = start; end = end; next = record { at = end } }

-- the first of a line's columns
abbrev pub first_of : List lines.Column → Option Found
first_of [] = None
first_of (c ∷ cs) = Some (found_at c.text.start (c.text.start + length c.text.bytes))

-- the next column from a place on, in the file up to the line's end
unfoldable pub next_column : List ℕ → ℕ → Option Found
next_column head at = first_of (lines.columns_from at (drop at head))
