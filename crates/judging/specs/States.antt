-- What a reading keeps: where it stands, as rules/Phases has it, and what it has counted.
use Rattle.std.specs.Prelude.{ℕ, ◌+◌, Bool, true, false, ◌++◌, length}
use Rattle.rules.specs.Sentences.{Sentence, edges_of}
use Rattle.rules.specs.Highest.{larger, largest, highest_phrase, highest_parent}
use Rattle.rules.specs.Phases as rules
use Rattle.steps.specs.declared.NodeSaid.{NodeSaid}
use Rattle.judging.specs.declared.state.Tally.{Tally}
use Rattle.judging.specs.declared.state.Phase.{Phase}
use Rattle.judging.specs.declared.state.Phase.TheVariants.{Start, Top, InTable, InSentence, Behind}
use Rattle.judging.specs.declared.state.State.{State}

-- of a sentence of a number whose #BOS line starts at a place
abbrev pub first_tally : ℕ → ℕ → Tally
first_tally at n =
    record { start = at; number = n; words = 0; phrases = 0; edges = 0; highest_phrase = 499; highest_parent = 0 }

abbrev pub tally_of : Sentence → Tally
tally_of s =
    record {
      start = s.start;
      number = s.heading.number;
      words = length s.words;
      phrases = length s.phrases;
      edges = edges_of s;
      highest_phrase = highest_phrase s.phrases;
      highest_parent = largest highest_parent (s.words ++ s.phrases);
    }

abbrev pub phase_of : rules.Phase → Phase
phase_of rules.start = Start
phase_of (rules.top p) = Top
phase_of (rules.in_table p n rs) = InTable n (length rs)
phase_of (rules.in_sentence p s) = InSentence (tally_of s)
phase_of (rules.behind_sentence p) = Behind

-- of a reading that has handed out so many sentences, the last of which ends there
abbrev pub state_of : ℕ → ℕ → rules.Phase → State
state_of count end phase =
    record { phase = phase_of phase; format = rules.format_at phase; handed = count; sound_end = end }

-- ---- what a reading has, wherever it stands

abbrev pub expects_nodes : Phase → Bool
expects_nodes Start = false
expects_nodes Top = false
expects_nodes (InTable n rows) = false
expects_nodes (InSentence t) = true
expects_nodes Behind = false

abbrev pub table_open : Phase → ℕ
table_open Start = 0
table_open Top = 0
table_open (InTable n rows) = n
table_open (InSentence t) = 0
table_open Behind = 0

abbrev pub rows_open : Phase → ℕ
rows_open Start = 0
rows_open Top = 0
rows_open (InTable n rows) = rows
rows_open (InSentence t) = 0
rows_open Behind = 0

abbrev pub tally_in : Phase → Tally
tally_in Start = first_tally 0 0
tally_in Top = first_tally 0 0
tally_in (InTable n rows) = first_tally 0 0
tally_in (InSentence t) = t
tally_in Behind = first_tally 0 0

-- ---- one node more

abbrev pub counted_word : Tally → NodeSaid → Tally
counted_word t n =
    record {
      start = t.start;
      number = t.number;
      words = t.words + 1;
      phrases = t.phrases;
      edges = t.edges + n.edges;
      highest_phrase = t.highest_phrase;
      highest_parent = larger t.highest_parent n.highest;
    }

abbrev pub counted_phrase : Tally → NodeSaid → Tally
counted_phrase t n =
    record {
      start = t.start;
      number = t.number;
      words = t.words;
      phrases = t.phrases + 1;
      edges = t.edges + n.edges;
      highest_phrase = larger t.highest_phrase n.number;
      highest_parent = larger t.highest_parent n.highest;
    }

-- the reading stands elsewhere, and all else stays
abbrev pub moved : State → Phase → State
moved s phase = record { phase = phase; format = s.format; handed = s.handed; sound_end = s.sound_end }
