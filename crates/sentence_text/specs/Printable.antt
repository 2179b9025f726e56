-- What every sentence handed out has, as far as its printing needs it: its texts stand in the file, its words are numbered
-- from 0 on in their order, its phrases from 500 on once they are sorted, no number is given twice, and nothing is above its
-- limit. Document 01, "The file from top to bottom".
use Rattle.std.specs.Prelude.{ℕ, ◌≤◌, ◌<◌, ◌≡◌, false, List, [], ◌∷◌, map, length}
use Rattle.rules.specs.Lists.{counting, sorted, Each}
use Rattle.rules.specs.Numbers.{phrase_number, edge_limit}
use Rattle.rules.specs.Sentences.{Node, Sentence, edges_of, listed}
use Rattle.rules.specs.SheetFields.{node_room}
use Rattle.rules.specs.Sheets.{nodes, sentence_sheet}
use Rattle.rules.specs.Meaning.{node_number}
use Rattle.rules.specs.Places.{LiesIn, NodeLies}
use Rattle.sentence_sheet.specs.FlatEdges.{edges_among, flat_edges}

-- the numbers differ
abbrev pub Apart : List Node → Type 0
Apart [] = Unit {0}
Apart (n ∷ ns) = (listed ns n.number ≡ false) × Apart ns

pub record Printable (file : List ℕ) (s : Sentence) : Type 0 where
  pub comment : LiesIn file s.heading.comment
  pub each_lies : Each (NodeLies file) (nodes s)
  pub in_order : map node_number s.words ≡ counting 0 (length s.words)
  pub no_gap : map node_number (sorted node_number s.phrases) ≡ counting phrase_number.lowest (length s.phrases)
  pub apart : Apart (nodes s)
  pub in_room : Each (λ (n : Node). n.number < node_room) (nodes s)
  pub few_words : length s.words ≤ 500
  pub few_phrases : length s.phrases ≤ 500
  pub few_edges : edges_of s ≤ edge_limit

-- a sheet and a list of secondary edges that hold such a sentence
pub record Sheeted (file : List ℕ) (s : Sentence) (sheet list : List ℕ) : Type 0 where
  pub sheet_is : sheet ≡ sentence_sheet s
  pub list_is : list ≡ flat_edges (edges_among (nodes s))
  pub printable : Printable file s
