-- What is kept of the sentence that is read, what a line behind its heading is taken for by that, and what the step of the
-- line does to it.
use Rattle.std.specs.Prelude.{ℕ, ◌+◌, ◌-◌, ◌*◌, ◌≤◌, ◌<◌, ◌≡◌, List, length, get_or, set}
use Rattle.rules.specs.Lists.{joined}
use Rattle.rules.specs.Texts.{Text}
use Rattle.rules.specs.Numbers.{file_limit, edge_limit}
use Rattle.rules.specs.Rules.{Verdict}
use Rattle.rules.specs.Tables.{no_tables}
use Rattle.rules.specs.Lines.{Taking}
use Rattle.rules.specs.Sheets.{node_room, field_place, sentence_sheet_size}
use Rattle.columns.specs.Splices.{splice}
use Rattle.sentence_sheet.specs.FlatEdges.{edge_width}
use Rattle.sentence_sheet.specs.NodeRecords.{record_numbers}
use Rattle.sentence_sheet.specs.declared.NodeRecord.{NodeRecord}
use Rattle.steps.specs.declared.NodeSaid.{NodeSaid}
use Rattle.steps.specs.declared.Step.{Step}
use Rattle.steps.specs.declared.Step.TheVariants.{Ignored, Format, TableBegins, Row, TableEnds, SentenceBegins, Word, Phrase, SentenceEnds}
use Rattle.nodes.specs.NodeLines.{Whole}
use Rattle.judging.specs.States.{counted_word, counted_phrase}
use Rattle.judging.specs.Judging.{so_far_by}
use Rattle.judging.specs.PlainStarts.{sentence_line}
use Rattle.judging.specs.declared.state.Tally.{Tally}
use Rattle.sentences.specs.LineEdges.{pair_edges}

-- a mark for each phrase number, none larger than so much
pub record MarkedUpTo (most : ℕ) (marks : List ℕ) : Type 0 where
  pub size : length marks ≡ 500
  pub none_larger : (k : ℕ) → get_or marks k 0 ≤ most

-- there are no tables; the phrases of the sentence are marked with its stamp
unfoldable pub taken_by : Text → Tally → List ℕ → ℕ → Verdict Taking
taken_by line t marks stamp = sentence_line line 3 no_tables (so_far_by t marks stamp)

-- the counts, the sentence sheet, the flat list of secondary edges, the marks of the phrases
pub record Stored : Type 0 where
  pub tally : Tally
  pub sheet : List ℕ
  pub edges : List ℕ
  pub marks : List ℕ

abbrev pub stored : Tally → List ℕ → List ℕ → List ℕ → Stored
stored t sheet edges marks = record { tally = t; sheet = sheet; edges = edges; marks = marks }

-- ---- one node more

abbrev pub record_said : NodeSaid → NodeRecord
record_said n =
    record {
      word = n.word.start;
      word_len = n.word.len;
      tag = n.tag.start;
      tag_len = n.tag.len;
      morphology = n.morphology.start;
      morphology_len = n.morphology.len;
      edge = n.edge.start;
      edge_len = n.edge.len;
      parent = n.parent;
      comment = n.comment.start;
      comment_len = n.comment.len;
    }

abbrev pub with_record : NodeSaid → List ℕ → List ℕ
with_record n sheet = splice (field_place 0 n.number) (record_numbers (record_said n)) sheet

-- the fields of its line give its secondary edges, which stand behind those counted
abbrev pub with_edges : List Text → NodeSaid → Tally → List ℕ → List ℕ
with_edges fs n t edges = splice (edge_width * t.edges) (joined (pair_edges fs n.number 5)) edges

unfoldable pub stored_by : ℕ → List Text → Step → Stored → Stored
stored_by stamp fs Ignored k = k
stored_by stamp fs (Format n) k = k
stored_by stamp fs (TableBegins n) k = k
stored_by stamp fs (Row r) k = k
stored_by stamp fs TableEnds k = k
stored_by stamp fs (SentenceBegins h) k = k
stored_by stamp fs (Word n) k =
    stored (counted_word k.tally n) (with_record n k.sheet) (with_edges fs n k.tally k.edges) k.marks
stored_by stamp fs (Phrase n) k =
    stored (counted_phrase k.tally n) (with_record n k.sheet) (with_edges fs n k.tally k.edges) (set k.marks (n.number - 500) stamp)
stored_by stamp fs SentenceEnds k = k

-- ---- what a step needs; the fields are the line's

pub record NodeStorable (fs : List Text) (n : NodeSaid) (t : Tally) (sheet edges : List ℕ) : Type 0 where
  pub whole : Whole fs (5 + 2 * n.edges)
  pub number : n.number < node_room
  pub few : t.edges + n.edges ≤ edge_limit
  pub sheet_size : length sheet ≡ sentence_sheet_size
  pub edges_size : length edges ≡ edge_limit * edge_width

module _ (fs : List Text) where
  abbrev pub Storable : Step → Stored → Type 0
  Storable Ignored k = Unit {0}
  Storable (Format n) k = Unit {0}
  Storable (TableBegins n) k = Unit {0}
  Storable (Row r) k = Unit {0}
  Storable TableEnds k = Unit {0}
  Storable (SentenceBegins h) k = Unit {0}
  Storable (Word n) k = NodeStorable fs n k.tally k.sheet k.edges × (k.tally.words ≤ file_limit)
  Storable (Phrase n) k =
      NodeStorable fs n k.tally k.sheet k.edges × (k.tally.phrases ≤ file_limit) × (500 ≤ n.number)
  Storable SentenceEnds k = Unit {0}
