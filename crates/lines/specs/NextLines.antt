-- What is found of a line and of its columns: where it ends, as `LineEnds` has it, and the columns as they are listed.
use Rattle.std.specs.Prelude.{ℕ, ◌≡◌, List, Option, Some, None, Result, Ok, Err}
use Rattle.columns.specs.Listing.{Listed}
use Rattle.columns.specs.declared.listing.Line.{Line}
use Rattle.lines.specs.LineEnds.{line_end}
use Rattle.lines.specs.declared.Unreadable.{Unreadable}

abbrev pub line_end_of : Result Line Unreadable → Result ℕ Unreadable
line_end_of (Ok l) = Ok l.end
line_end_of (Err u) = Err u

-- a line that may be read starts where it was asked for, and its columns are listed
abbrev pub ListedBy : List ℕ → ℕ → Result Line Unreadable → List ℕ → Type 0
ListedBy file from (Ok l) places = (l.start ≡ from) × Listed file l places
ListedBy file from (Err u) places = Unit {0}

abbrev pub line_between : ℕ → ℕ → ℕ → Option Line
line_between start end columns = Some (record { start = start; end = end; columns = columns })

-- of a line that is doubted nothing is said
abbrev pub ReadAtOnce : List ℕ → ℕ → Option Line → List ℕ → Type 0
ReadAtOnce file from (Some l) places = (line_end file from ≡ Ok l.end) × (l.start ≡ from) × Listed file l places
ReadAtOnce file from None places = Unit {0}
