-- What is answered and left of a sentence sought: its sheet and the flat list of its secondary edges, or zeros. Words stand
-- in front of phrases in a file, so the nodes are in file order.
use Rattle.std.specs.Prelude.{ℕ, ◌*◌, ◌≡◌, Bool, true, false, List, replicate, Option, None, Some}
use Rattle.rules.specs.Numbers.{edge_limit}
use Rattle.rules.specs.Sentences.{Sentence}
use Rattle.rules.specs.Sheets.{sentence_sheet_size, nodes, sentence_sheet}
use Rattle.sentence_sheet.specs.FlatEdges.{edge_width, edges_among, flat_edges}

pub record SentenceLeft (s : Sentence) (r : Bool) (sheet edges : List ℕ) : Type 0 where
  pub answer : r ≡ true
  pub sheet_is : sheet ≡ sentence_sheet s
  pub edges_are : edges ≡ flat_edges (edges_among (nodes s))

pub record NothingLeft (r : Bool) (sheet edges : List ℕ) : Type 0 where
  pub answer : r ≡ false
  pub sheet_is : sheet ≡ replicate sentence_sheet_size 0
  pub edges_are : edges ≡ replicate (edge_limit * edge_width) 0

abbrev pub SentenceRead : Option Sentence → Bool → List ℕ → List ℕ → Type 0
SentenceRead None r sheet edges = NothingLeft r sheet edges
SentenceRead (Some s) r sheet edges = SentenceLeft s r sheet edges

-- before sheet and list are cleared where there is none
abbrev pub Gathered : Option Sentence → Bool → List ℕ → List ℕ → Type 0
Gathered None r sheet edges = r ≡ false
Gathered (Some s) r sheet edges = SentenceLeft s r sheet edges
