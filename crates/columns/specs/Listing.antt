-- A line's columns, listed once: where each starts and ends in the file. Document 01, "Lines and bytes": a column is a run
-- of bytes that aren't white; "The sheets": start and length of a text, an absent text is 0, 0.
use Rattle.std.specs.Prelude.{ℕ, ◌+◌, ◌-◌, ◌*◌, ◌≤◌, ◌≡◌, List, [], ◌∷◌, map, length, take, drop}
use Rattle.rules.specs.Lists.{joined}
use Rattle.rules.specs.Texts.{Text}
use Rattle.rules.specs.Numbers.{line_limit, file_limit}
use Rattle.rules.specs.Columns as lines
use Rattle.columns.specs.declared.listing.Line.{Line}
use Rattle.columns.specs.declared.listing.Span.{Span}

-- the text of a file from a place up to another
abbrev pub text_between : List ℕ → ℕ → ℕ → Text
text_between file start end = record { start = start; bytes = take (end - start) (drop start file) }

abbrev pub line_of : List ℕ → Line → Text
line_of file l = text_between file l.start l.end

abbrev pub columns_of : List ℕ → Line → List lines.Column
columns_of file l = lines.columns (line_of file l)

-- the place behind a text
abbrev pub behind_text : Text → ℕ
behind_text t = t.start + length t.bytes

-- where a column starts, and where it ends
abbrev pub bounds : lines.Column → List ℕ
bounds c = c.text.start ∷ behind_text c.text ∷ []

unfoldable pub places_of : List lines.Column → List ℕ
places_of cs = joined (map bounds cs)

abbrev pub span_of : Text → Span
span_of t = record { start = t.start; len = length t.bytes }

abbrev pub no_span : Span
no_span = record { start = 0; len = 0 }

-- the line lies in a file that is read, and its columns' places stand first among these
pub record Listed (file : List ℕ) (l : Line) (places : List ℕ) : Type 0 where
  pub order : l.start ≤ l.end
  pub inside : l.end ≤ length file
  pub short : l.end ≤ l.start + line_limit
  pub limited : length file ≤ file_limit
  pub counted : l.columns ≡ length (columns_of file l)
  pub listed : take (2 * l.columns) places ≡ places_of (columns_of file l)
