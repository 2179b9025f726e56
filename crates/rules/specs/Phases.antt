-- Document 01, "The file from top to bottom" and "The numbers of refusal": where a reading stands, what a line does there, and
-- what the file's end says.
use Rattle.std.specs.Prelude.{ℕ, ◌&&◌, List, [], ◌∷◌, ◌++◌, length, leb}
use Rattle.rules.specs.Lists.{pick, every, member}
use Rattle.rules.specs.Bytes.{legal, ignored}
use Rattle.rules.specs.Texts.{Text, no_text}
use Rattle.rules.specs.Numbers.{line_limit}
use Rattle.rules.specs.Rules.{Rule, rule, Verdict, refused, granted, checked}
use Rattle.rules.specs.Tables.{Tables, Row, no_tables, origins, editors, present, closed}
use Rattle.rules.specs.Sentences.{Node, Heading, Sentence, so_far}
use Rattle.rules.specs.Keywords.{first_column}
use Rattle.rules.specs.Lines.{Taking, ignored_line, format_line, table_begins, row_line, table_ends, sentence_begins, word_line, phrase_line, sentence_ends, at_start, behind_one, at_top, among_rows, among_nodes}

-- ---- where a reading stands

-- the format number, and the tables that are closed
pub record Preamble : Type 0 where
  pub format : ℕ
  pub tables : Tables

-- in front of the format line; among the tables; in the table of a place among the names, with its rows so far; in a
-- sentence, with what it has so far; behind a sentence
pub data Phase : Type 0 where
  start : Phase
  top : Preamble → Phase
  in_table : Preamble → ℕ → List Row → Phase
  in_sentence : Preamble → Sentence → Phase
  behind_sentence : Preamble → Phase

unfoldable pub line_at : Phase → List ℕ → Text → Text → Verdict Taking
line_at start used line first = at_start line first
line_at (top p) used line first = at_top line first p.tables (λ n. member n used)
line_at (in_table p n rs) used line first = among_rows line first n rs
line_at (in_sentence p s) used line first = among_nodes line first p.format p.tables (so_far s)
line_at (behind_sentence p) used line first = behind_one line first p.tables (λ n. member n used)

-- one line: its bytes and length are checked wherever it stands, then it is ignored, or taken
unfoldable pub taken : Phase → List ℕ → Text → Verdict Taking
taken phase used line = pick (ignored line.bytes) (granted ignored_line) (line_at phase used line (first_column line))

abbrev pub and_then : {A B : Type 0} → (A → Verdict B) → Verdict A → Verdict B
and_then f (refused r) = refused r
and_then f (granted a) = f a

unfoldable pub judged : Phase → List ℕ → Text → Verdict Taking
unfolding taken
judged phase used line =
    and_then (taken phase used)
    (checked (rule 4 line (every legal line.bytes) ∷ rule 5 line (leb (length line.bytes) line_limit) ∷ []) line)

-- ---- what a reading has, wherever it stands

abbrev pub preamble_at : Phase → Preamble
preamble_at start = record { format = 0; tables = no_tables }
preamble_at (top p) = p
preamble_at (in_table p n rs) = p
preamble_at (in_sentence p s) = p
preamble_at (behind_sentence p) = p

abbrev pub table_at : Phase → ℕ
table_at start = 0
table_at (top p) = 0
table_at (in_table p n rs) = n
table_at (in_sentence p s) = 0
table_at (behind_sentence p) = 0

abbrev pub rows_at : Phase → List Row
rows_at start = []
rows_at (top p) = []
rows_at (in_table p n rs) = rs
rows_at (in_sentence p s) = []
rows_at (behind_sentence p) = []

abbrev pub no_heading : Heading
no_heading = record { number = 0; editor1 = 0; date = 0; origin = 0; comment = no_text }

abbrev pub begun : ℕ → Heading → Sentence
begun at h = record { start = at; heading = h; words = []; phrases = [] }

abbrev pub sentence_at : Phase → Sentence
sentence_at start = begun 0 no_heading
sentence_at (top p) = begun 0 no_heading
sentence_at (in_table p n rs) = begun 0 no_heading
sentence_at (in_sentence p s) = s
sentence_at (behind_sentence p) = begun 0 no_heading

-- ---- what a line's taking does

abbrev pub with_table : Preamble → ℕ → List Row → Preamble
with_table p n rs = record { format = p.format; tables = closed n rs p.tables }

abbrev pub with_word : Sentence → Node → Sentence
with_word s n = record { start = s.start; heading = s.heading; words = s.words ++ (n ∷ []); phrases = s.phrases }

abbrev pub with_phrase : Sentence → Node → Sentence
with_phrase s n = record { start = s.start; heading = s.heading; words = s.words; phrases = s.phrases ++ (n ∷ []) }

-- a line is refused by a rule, or the reading goes on, or a sentence is handed out
pub data Answer : Type 0 where
  refuse : Rule → Answer
  go : Phase → Answer
  hand : Preamble → Sentence → Answer

-- of the line that starts at a place
unfoldable pub after : Phase → ℕ → Taking → Answer
after phase at ignored_line = go phase
after phase at (format_line n) = go (top (record { format = n; tables = no_tables }))
after phase at (table_begins n) = go (in_table (preamble_at phase) n [])
after phase at (row_line r) = go (in_table (preamble_at phase) (table_at phase) (rows_at phase ++ (r ∷ [])))
after phase at table_ends = go (top (with_table (preamble_at phase) (table_at phase) (rows_at phase)))
after phase at (sentence_begins h) = go (in_sentence (preamble_at phase) (begun at h))
after phase at (word_line n) = go (in_sentence (preamble_at phase) (with_word (sentence_at phase) n))
after phase at (phrase_line n) = go (in_sentence (preamble_at phase) (with_phrase (sentence_at phase) n))
after phase at sentence_ends = hand (preamble_at phase) (sentence_at phase)

abbrev pub next : {A : Type 0} → (A → Answer) → Verdict A → Answer
next f (refused r) = refuse r
next f (granted a) = f a

unfoldable pub step : Phase → List ℕ → Text → Answer
unfolding judged after
step phase used line = next (after phase line.start) (judged phase used line)

-- ---- the file's end: 9, 23, 13 in that order, or 0

abbrev pub at_end : Phase → ℕ
at_end start = 9
at_end (top p) = pick (present origins p.tables && present editors p.tables) 0 13
at_end (in_table p n rs) = 23
at_end (in_sentence p s) = 23
at_end (behind_sentence p) = 0

-- the format read, 0 where none is
abbrev pub format_at : Phase → ℕ
format_at phase = (preamble_at phase).format

-- the tables closed so far
abbrev pub tables_at : Phase → Tables
tables_at phase = (preamble_at phase).tables
