-- Document 01, "Tidy text", by parts: the format line, the tables, and sentence by sentence from where each begins.
use Rattle.std.specs.Prelude.{ℕ, zero, suc, ◌+◌, ◌*◌, length, List, [], ◌++◌, map, Option, None, Some}
use Rattle.rules.specs.Lists.{bytes, joined}
use Rattle.rules.specs.Numbers.{line_limit}
use Rattle.rules.specs.Sentences.{Sentence}
use Rattle.rules.specs.Index.{index_size}
use Rattle.rules.specs.SentenceFrom.{sentence_from}
use Rattle.rules.specs.Meaning.{meant_sentence, meant_tables}
use Rattle.rules.specs.Tables.{Tables}
use Rattle.rules.specs.Tidy.{tables_text, sentence_text}
use Rattle.table_text.specs.TablesShown.{tables_most}

abbrev pub format_text : List ℕ
format_text = bytes "#FORMAT 3\n"

-- nothing where there is no sentence
unfoldable pub found_text : Option Sentence → List ℕ
found_text None = []
found_text (Some s) = sentence_text (meant_sentence s)

-- by one more than the place where the sentence begins, or 0 for none
unfoldable pub text_from : List ℕ → ℕ → List ℕ
text_from file zero = []
text_from file (suc place) = found_text (sentence_from file place)

unfoldable pub sentences_text : List ℕ → List ℕ → List ℕ
sentences_text file begins = joined (map (text_from file) begins)

unfoldable pub parts_text : List ℕ → Tables → List ℕ → List ℕ
parts_text file tables begins = format_text ++ tables_text 0 (meant_tables tables) ++ sentences_text file begins

-- ---- the most bytes that are printed

-- a line and its newline
abbrev pub line_most : ℕ
line_most = suc line_limit

-- #BOS, 500 words, 500 phrases, #EOS
abbrev pub sentence_long : ℕ
sentence_long = line_most * 1002

abbrev pub sentences_most : ℕ
sentences_most = sentence_long * index_size

abbrev pub file_most : ℕ
file_most = length format_text + tables_most + sentences_most
