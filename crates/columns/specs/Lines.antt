-- A listed line, as the rules see it.
use Rattle.std.specs.Prelude.{List}
use Rattle.rules.specs.Texts.{Text}
use Rattle.rules.specs.Columns as lines
use Rattle.columns.specs.Listing.{line_of}
use Rattle.columns.specs.declared.listing.Line.{Line}
use Rattle.columns.specs.declared.listed.ListedLine.{ListedLine}

abbrev pub line_in : ListedLine → Line
line_in l = record { start = l.start; end = l.end; columns = l.columns }

abbrev pub text_in : ListedLine → Text
text_in l = line_of l.file.now (line_in l)

abbrev pub columns_in : ListedLine → List lines.Column
columns_in l = lines.columns (text_in l)
