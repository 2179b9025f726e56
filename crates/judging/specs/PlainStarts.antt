-- Where the quick way begins: a line of five columns that starts with the first of them, and what the judge takes a line of a
-- sentence for.
use Rattle.std.specs.Prelude.{ℕ, ◌≡◌, get_or}
use Rattle.rules.specs.Lists.{pick}
use Rattle.rules.specs.Bytes.{ignored}
use Rattle.rules.specs.Texts.{Text}
use Rattle.rules.specs.Rules.{Verdict, granted}
use Rattle.rules.specs.Tables.{Tables}
use Rattle.rules.specs.Sentences.{SoFar}
use Rattle.rules.specs.Keywords.{first_column}
use Rattle.rules.specs.Lines.{Taking, ignored_line, among_nodes}
use Rattle.columns.specs.declared.listed.ListedLine.{ListedLine}

pub record StartsPlain (line : ListedLine) : Type 0 where
  pub five : line.columns ≡ 5
  pub here : get_or line.places.now 0 0 ≡ line.start

-- the line's first byte
abbrev pub first_byte : ListedLine → ℕ
first_byte line = get_or line.file.now line.start 0

abbrev pub sentence_line : Text → ℕ → Tables → SoFar → Verdict Taking
sentence_line line format ts s =
    pick (ignored line.bytes) (granted ignored_line) (among_nodes line (first_column line) format ts s)
