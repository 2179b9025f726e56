-- The sentence that begins at a place of a file, told by the file from there on: what needs the tables or the sentences in
-- front (13, 14, 15, 18) isn't asked, all else is as document 01 has it.
use Rattle.std.specs.Prelude.{ℕ, suc, ◌+◌, ◌-◌, Bool, ◌||◌, List, [], ◌∷◌, length, drop, get_or, leb, eqb, Option, None, Some}
use Rattle.rules.specs.Lists.{pick, bytes, every}
use Rattle.rules.specs.Bytes.{newline, legal}
use Rattle.rules.specs.Texts.{Text, reads}
use Rattle.rules.specs.Numbers.{line_limit}
use Rattle.rules.specs.Rules.{rule, Verdict, refused, granted, checked}
use Rattle.rules.specs.Tables.{no_tables}
use Rattle.rules.specs.Sentences.{Heading, Sentence, heading_written, heading_in}
use Rattle.rules.specs.Keywords.{first_column}
use Rattle.rules.specs.Phases.{in_sentence, begun}
use Rattle.rules.specs.Reading.{Handed, Reading, read}

-- the file's first byte, or one behind a newline
abbrev pub starts_line : List ℕ → ℕ → Bool
starts_line file at = eqb at 0 || eqb (get_or file (at - 1) 0) newline

abbrev pub put_in_front : ℕ → Option (List ℕ) → Option (List ℕ)
put_in_front b None = None
put_in_front b (Some bs) = Some (b ∷ bs)

-- the bytes in front of the first newline, if there is one
unfoldable pub ended_line : List ℕ → Option (List ℕ)
ended_line [] = None
ended_line (b ∷ bs) = let later = put_in_front b (ended_line bs) in pick (eqb b newline) (Some []) later

-- a #BOS line, as it is written
unfoldable pub heading_alone : Text → Verdict Heading
heading_alone line =
    checked
    (rule 4 line (every legal line.bytes)
    ∷ rule 5 line (leb (length line.bytes) line_limit)
    ∷ rule 6 line (reads (bytes "#BOS") (first_column line))
    ∷ heading_written line)
    (heading_in line)

-- the lines from next on are those of a sentence that begins at a place, in a file that has no tables
abbrev pub behind_heading : ℕ → Heading → ℕ → Reading
behind_heading at h next =
    record {
      at = next;
      line_start = next;
      part = [];
      phase = in_sentence (record { format = 3; tables = no_tables }) (begun at h);
      handed = [];
      fault = None;
    }

abbrev pub first_handed : List Handed → Option Sentence
first_handed [] = None
first_handed (h ∷ hs) = Some h.sentence

abbrev pub headed_by : List ℕ → ℕ → ℕ → Verdict Heading → Option Sentence
headed_by file at next (refused r) = None
headed_by file at next (granted h) = first_handed (read (behind_heading at h next) (drop next file)).handed

abbrev pub begun_by : List ℕ → ℕ → Option (List ℕ) → Option Sentence
begun_by file at None = None
begun_by file at (Some l) = headed_by file at (suc (at + length l)) (heading_alone (record { start = at; bytes = l }))

unfoldable pub sentence_from : List ℕ → ℕ → Option Sentence
unfolding heading_alone
sentence_from file at = pick (starts_line file at) (begun_by file at (ended_line (drop at file))) None
