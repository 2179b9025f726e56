-- What a file of format 3 is, apart from how one is read. Document 01, "The file from top to bottom": `#FORMAT 3` comes
-- first, then tables, then sentences; "Lines and bytes": each line ends with byte 10, and some are ignored wherever they
-- stand. What lines, columns, rows, tables, nodes and sentences are stands in the files beside this one.
use Rattle.std.specs.Prelude.{ℕ, ◌≤◌, ◌≡◌, List, [], ◌∷◌, ◌++◌, map, length}
use Rattle.rules.specs.Lists.{bytes, joined, Each}
use Rattle.rules.specs.GrammarNumbers.{Range, NumberIn, format_range, sentence_range, file_bytes}
use Rattle.rules.specs.GrammarContent.{Content}
use Rattle.rules.specs.GrammarLines.{Differ, LineFits, lines_written, Heeded, Starts}
use Rattle.rules.specs.GrammarColumns.{Columns}
use Rattle.rules.specs.GrammarTables.{TableLines, TablesFit, table_lines, tables_say}
use Rattle.rules.specs.GrammarSentences.{SentenceLines, SentenceFits, sentence_lines, sentence_says}

-- #FORMAT 3
pub record FormatFits (l : List ℕ) (format : ℕ) : Type 0 where
  pub number_text : List ℕ
  pub columns : Columns l (bytes "#FORMAT" ∷ number_text ∷ [])
  pub number_written : NumberIn format_range number_text format
  pub three : format ≡ 3

abbrev pub sentence_numbers : List SentenceLines → List ℕ
sentence_numbers ss = map (λ (s : SentenceLines). s.head.number) ss

-- a file contains this, with sentence numbers of a range
pub record Contains (numbers : Range) (file : List ℕ) (content : Content) : Type 0 where
  -- the file is its lines, with legal bytes and not too long
  pub lines : List (List ℕ)
  pub written : file ≡ lines_written lines
  pub short : length file ≤ file_bytes
  pub each_line : Each LineFits lines
  -- those that are not ignored start with their first column, and are a format line, tables and sentences
  pub heeded : List (List ℕ)
  pub are_heeded : Heeded lines heeded
  pub each_starts : Each Starts heeded
  pub format_line : List ℕ
  pub format : ℕ
  pub tables : List TableLines
  pub sentences : List SentenceLines
  pub parts : heeded ≡ format_line ∷ joined (map table_lines tables) ++ joined (map sentence_lines sentences)
  -- and these are as the rules fix them
  pub format_fits : FormatFits format_line format
  pub tables_fit : TablesFit tables
  pub each_sentence : Each (SentenceFits numbers format tables) sentences
  -- numbers differ between sentences
  pub numbers_differ : Differ (sentence_numbers sentences)
  -- the content is what they say
  pub says : content ≡ record { format = format; tables = tables_say tables; sentences = map sentence_says sentences }

-- with sentence numbers of a range
abbrev pub FitsWith : Range → List ℕ → Type 0
FitsWith numbers file = (content : Content) × Contains numbers file content

abbrev pub Fits : List ℕ → Type 0
Fits file = FitsWith sentence_range file
