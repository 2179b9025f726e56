-- Document 01, "The sheets", number by number, with the layout written out: what stands at each place of the table sheet,
-- of the seen set, of a sentence sheet and of a list of secondary edges.
use Rattle.std.specs.Prelude.{ℕ, ◌+◌, ◌*◌, ◌/◌, ◌%◌, ◌^◌, ◌≤◌, ◌<◌, ◌≡◌, false, List, [], ◌∷◌, ◌++◌, map, length, get_or, Option, None, Some}
use Rattle.rules.specs.Lists.{pick, member, joined, Each}
use Rattle.rules.specs.Tables.{Tables, Row, table, rows_of}
use Rattle.rules.specs.Sentences.{Edge, Node, Sentence, listed}
use Rattle.rules.specs.Reading.{Handed, numbers}
use Rattle.rules.specs.Sheets.{table_sheet, seen_set, sentence_sheet, EdgeRecord, edge_list}
use Rattle.rules.specs.Survey.{Survey}
use Rattle.rules.specs.Index.{beginnings}

-- ---- the table sheet: seven counts, then for each table 256 rows of 6

-- id + 1, start and length of the first text, of the second, flag
pub record RowLaid (sheet : List ℕ) (at : ℕ) (r : Row) : Type 0 where
  pub id : get_or sheet (at + 0) 0 ≡ r.id1
  pub first_start : get_or sheet (at + 1) 0 ≡ r.first.start
  pub first_length : get_or sheet (at + 2) 0 ≡ length r.first.bytes
  pub second_start : get_or sheet (at + 3) 0 ≡ r.second.start
  pub second_length : get_or sheet (at + 4) 0 ≡ length r.second.bytes
  pub flag : get_or sheet (at + 5) 0 ≡ r.flag

-- the count is 0 for a table that is absent, else rows + 1; rows are filled in file order, unused room is zero
pub record TableLaid (sheet : List ℕ) (n : ℕ) (t : Option (List Row)) : Type 0 where
  pub absent : t ≡ None → get_or sheet n 0 ≡ 0
  pub present : (rs : List Row) → t ≡ Some rs → get_or sheet n 0 ≡ length rs + 1
  pub row : (front : List Row) (r : Row) (back : List Row) → rows_of t ≡ front ++ (r ∷ back) → RowLaid sheet (7 + 1536 * n + 6 * length front) r
  pub unused : (k j : ℕ) → length (rows_of t) ≤ k → k < 256 → j < 6 → get_or sheet (7 + 1536 * n + 6 * k + j) 0 ≡ 0

pub record TablesLaid (ts : Tables) : Type 0 where
  pub size : length (table_sheet ts) ≡ 10759
  pub each : (n : ℕ) → n < 7 → TableLaid (table_sheet ts) n (table n ts)

-- ---- the seen set: number n is bit n mod 8 (bit 0 weighs 1) of byte n / 8

pub record SeenLaid (ns : List ℕ) : Type 0 where
  pub size : length (seen_set ns) ≡ 8192
  pub bit : (n : ℕ) → n < 65536 → get_or (seen_set ns) (n / 8) 0 / 2 ^ (n % 8) % 2 ≡ pick (member n ns) 1 0

-- ---- the sentence sheet: nine numbers, then 1,000 node records of 11 at the node's number

-- start and length of word, tag, morphology, edge; parent; comment start and length
pub record NodeLaid (sheet : List ℕ) (at : ℕ) (n : Node) : Type 0 where
  pub word_start : get_or sheet (at + 0) 0 ≡ n.word.start
  pub word_length : get_or sheet (at + 1) 0 ≡ length n.word.bytes
  pub tag_start : get_or sheet (at + 2) 0 ≡ n.tag.start
  pub tag_length : get_or sheet (at + 3) 0 ≡ length n.tag.bytes
  pub morphology_start : get_or sheet (at + 4) 0 ≡ n.morphology.start
  pub morphology_length : get_or sheet (at + 5) 0 ≡ length n.morphology.bytes
  pub edge_start : get_or sheet (at + 6) 0 ≡ n.edge.start
  pub edge_length : get_or sheet (at + 7) 0 ≡ length n.edge.bytes
  pub parent : get_or sheet (at + 8) 0 ≡ n.parent
  pub comment_start : get_or sheet (at + 9) 0 ≡ n.comment.start
  pub comment_length : get_or sheet (at + 10) 0 ≡ length n.comment.bytes

-- the secondary edges of nodes, in file order of their lines
abbrev pub edges_in : List Node → List Edge
edges_in ns = joined (map (λ (n : Node). n.secondary) ns)

-- child, label start and length, parent
pub record EdgeLaid (r : EdgeRecord) (node : ℕ) (e : Edge) : Type 0 where
  pub child : r.child ≡ node
  pub label_start : r.label_start ≡ e.label.start
  pub label_length : r.label_length ≡ length e.label.bytes
  pub parent : r.parent ≡ e.parent

abbrev pub zero_record : EdgeRecord
zero_record = record { child = 0; label_start = 0; label_length = 0; parent = 0 }

-- number, editor + 1, date, origin, comment start and length, words, phrases, secondary edges; the nodes; the list of edges
pub record SentenceLaid (s : Sentence) : Type 0 where
  pub size : length (sentence_sheet s) ≡ 11009
  pub number : get_or (sentence_sheet s) 0 0 ≡ s.heading.number
  pub editor : get_or (sentence_sheet s) 1 0 ≡ s.heading.editor1
  pub date : get_or (sentence_sheet s) 2 0 ≡ s.heading.date
  pub origin : get_or (sentence_sheet s) 3 0 ≡ s.heading.origin
  pub comment_start : get_or (sentence_sheet s) 4 0 ≡ s.heading.comment.start
  pub comment_length : get_or (sentence_sheet s) 5 0 ≡ length s.heading.comment.bytes
  pub words : get_or (sentence_sheet s) 6 0 ≡ length s.words
  pub phrases : get_or (sentence_sheet s) 7 0 ≡ length s.phrases
  pub edges : get_or (sentence_sheet s) 8 0 ≡ length (edges_in (s.words ++ s.phrases))
  pub nodes : Each (λ (n : Node). NodeLaid (sentence_sheet s) (9 + 11 * n.number) n) (s.words ++ s.phrases)
  pub no_node : (k j : ℕ) → k < 1000 → j < 11 → listed (s.words ++ s.phrases) k ≡ false → get_or (sentence_sheet s) (9 + 11 * k + j) 0 ≡ 0
  pub list_size : length (edge_list s) ≡ 512
  pub edge : (front : List Node) (n : Node) (back : List Node) (before : List Edge) (e : Edge) (behind : List Edge)
      → s.words ++ s.phrases ≡ front ++ (n ∷ back) → n.secondary ≡ before ++ (e ∷ behind)
      → EdgeLaid (get_or (edge_list s) (length (edges_in front) + length before) zero_record) n.number e
  pub no_edge : (k : ℕ) → length (edges_in (s.words ++ s.phrases)) ≤ k → get_or (edge_list s) k zero_record ≡ zero_record

-- ---- the list of secondary edges lent as plain numbers: record k stands at 4k to 4k + 3

-- child, label start, label length, parent
abbrev pub record_numbers : EdgeRecord → List ℕ
record_numbers r = r.child ∷ r.label_start ∷ r.label_length ∷ r.parent ∷ []

unfoldable pub flat_list : List EdgeRecord → List ℕ
flat_list rs = joined (map record_numbers rs)

pub record RecordLaid (ns : List ℕ) (k : ℕ) (r : EdgeRecord) : Type 0 where
  pub child : get_or ns (4 * k + 0) 0 ≡ r.child
  pub label_start : get_or ns (4 * k + 1) 0 ≡ r.label_start
  pub label_length : get_or ns (4 * k + 2) 0 ≡ r.label_length
  pub parent : get_or ns (4 * k + 3) 0 ≡ r.parent

pub record FlatLaid (rs : List EdgeRecord) : Type 0 where
  pub size : length (flat_list rs) ≡ 4 * length rs
  pub each : (k : ℕ) → k < length rs → RecordLaid (flat_list rs) k (get_or rs k zero_record)

-- ---- all that a survey says

pub record LaidOut (v : Survey) : Type 0 where
  pub tables : TablesLaid v.tables
  pub seen : SeenLaid (numbers v.handed)
  pub sentences : Each (λ (h : Handed). SentenceLaid h.sentence) v.handed

-- ---- where sentences begin: one more than the place of the sentence's first line, 0 for a number that no sentence has

pub record BeginningsLaid (size : ℕ) (hs : List Handed) : Type 0 where
  pub count : length (beginnings 0 size hs) ≡ size
  pub its : (front : List Handed) (h : Handed) (back : List Handed) → hs ≡ front ++ (h ∷ back) → h.sentence.heading.number < size
      → get_or (beginnings 0 size hs) h.sentence.heading.number 0 ≡ h.sentence.start + 1
  pub no_other : (n : ℕ) → n < size → member n (numbers hs) ≡ false → get_or (beginnings 0 size hs) n 0 ≡ 0
