-- Document 01, "The file from top to bottom" and refusal 6: which line may stand where, and what it is taken for there.
use Rattle.std.specs.Prelude.{ℕ, Bool, false, List}
use Rattle.rules.specs.Lists.{pick, bytes}
use Rattle.rules.specs.Texts.{Text, reads}
use Rattle.rules.specs.Rules.{rule, Verdict, refused, granted}
use Rattle.rules.specs.Tables.{Tables, Row}
use Rattle.rules.specs.Rows.{row_of}
use Rattle.rules.specs.Sentences.{Node, Heading, SoFar, heading_of, end_of}
use Rattle.rules.specs.Nodes.{word_of, phrase_of}
use Rattle.rules.specs.Keywords.{format_of, table_opened, table_ended, starts_row, starts_word, starts_phrase}

-- ---- what a line is taken for

pub data Taking : Type 0 where
  ignored_line : Taking
  format_line : ℕ → Taking
  table_begins : ℕ → Taking
  row_line : Row → Taking
  table_ends : Taking
  sentence_begins : Heading → Taking
  word_line : Node → Taking
  phrase_line : Node → Taking
  sentence_ends : Taking

abbrev pub taken_as : {A : Type 0} → (A → Taking) → Verdict A → Verdict Taking
taken_as f (refused r) = refused r
taken_as f (granted a) = granted (f a)

-- ---- which line may stand where

abbrev pub cannot_stand : Text → Verdict Taking
cannot_stand line = refused (rule 6 line false)

-- used tells which numbers sentences before have
module _ (line : Text) (first : Text) where
  unfoldable pub at_start : Verdict Taking
  at_start = pick (reads (bytes "#FORMAT") first) (taken_as format_line (format_of line)) (cannot_stand line)

  unfoldable pub behind_one : Tables → (ℕ → Bool) → Verdict Taking
  behind_one ts used = pick (reads (bytes "#BOS") first) (taken_as sentence_begins (heading_of ts used line)) (cannot_stand line)

  unfoldable pub at_top : Tables → (ℕ → Bool) → Verdict Taking
  unfolding behind_one
  at_top ts used = pick (reads (bytes "#BOT") first) (taken_as table_begins (table_opened ts line)) (behind_one ts used)

  unfoldable pub among_rows : ℕ → List Row → Verdict Taking
  among_rows n rs =
      pick (reads (bytes "#EOT") first) (taken_as (λ m. table_ends) (table_ended n line))
      (pick (starts_row first) (taken_as row_line (row_of n rs line)) (cannot_stand line))

  unfoldable pub among_nodes : ℕ → Tables → SoFar → Verdict Taking
  among_nodes format ts s =
      pick (reads (bytes "#EOS") first) (taken_as (λ n. sentence_ends) (end_of s line))
      (pick (starts_phrase first) (taken_as phrase_line (phrase_of format ts s line))
      (pick (starts_word first) (taken_as word_line (word_of format ts s line)) (cannot_stand line)))
