-- Document 01, "Tidy text": when two files have the same tables and the same sentences. Said field by field of what two
-- surveys hand out; places don't count.
use Rattle.std.specs.Prelude.{ℕ, ◌≤◌, ◌≡◌, ◌⊎◌, ◌↔◌, List, [], ◌∷◌, length, Option, None, Some}
use Rattle.rules.specs.Lists.{Each}
use Rattle.rules.specs.Texts.{Text}
use Rattle.rules.specs.Tables.{Tables, Row, table, origins, editors, word_tags, sec_edge_tags}
use Rattle.rules.specs.Sentences.{Edge, Node, Sentence}
use Rattle.rules.specs.Reading.{Handed}
use Rattle.rules.specs.Survey.{survey_of}

-- ---- said of two lists

-- one of the list is so
abbrev pub Any : {A : Type 0} → (A → Type 0) → List A → Type 0
Any P [] = ⊥
Any P (x ∷ xs) = P x ⊎ Any P xs

abbrev pub InOrder : {A : Type 0} → (A → A → Type 0) → List A → List A → Type 0
InOrder Alike [] [] = Unit
InOrder Alike [] (y ∷ ys) = ⊥
InOrder Alike (x ∷ xs) [] = ⊥
InOrder Alike (x ∷ xs) (y ∷ ys) = Alike x y × InOrder Alike xs ys

-- each of one list has its like in the other and back, and they are as many
pub record InAnyOrder {A : Type 0} (Alike : A → A → Type 0) (xs ys : List A) : Type 0 where
  pub forth : Each (λ (x : A). Any (λ (y : A). Alike x y) ys) xs
  pub back : Each (λ (y : A). Any (λ (x : A). Alike x y) xs) ys
  pub as_many : length xs ≡ length ys

-- ---- tables: rows with the same meaning have the same texts and numbers

abbrev pub SameText : Text → Text → Type 0
SameText t u = t.bytes ≡ u.bytes

pub record SameRow (r q : Row) : Type 0 where
  pub id1 : r.id1 ≡ q.id1
  pub first : SameText r.first q.first
  pub second : SameText r.second q.second
  pub flag : r.flag ≡ q.flag

-- a table is present in both files, with such rows, or in neither
abbrev pub Present : (List Row → List Row → Type 0) → Option (List Row) → Option (List Row) → Type 0
Present Alike None None = Unit
Present Alike None (Some qs) = ⊥
Present Alike (Some rs) None = ⊥
Present Alike (Some rs) (Some qs) = Alike rs qs

-- the order of origin and editor rows doesn't count
pub record TablesAgree (ts us : Tables) : Type 0 where
  pub origin_rows : Present (InAnyOrder SameRow) (table origins ts) (table origins us)
  pub editor_rows : Present (InAnyOrder SameRow) (table editors ts) (table editors us)
  pub tag_rows : (n : ℕ) → word_tags ≤ n → n ≤ sec_edge_tags → Present (InOrder SameRow) (table n ts) (table n us)

-- ---- sentences

pub record SameEdge (e d : Edge) : Type 0 where
  pub label : SameText e.label d.label
  pub parent : e.parent ≡ d.parent

-- texts, parent and comment, and the node's own secondary edges in their order
pub record SameNode (n m : Node) : Type 0 where
  pub number : n.number ≡ m.number
  pub word : SameText n.word m.word
  pub tag : SameText n.tag m.tag
  pub morphology : SameText n.morphology m.morphology
  pub edge : SameText n.edge m.edge
  pub parent : n.parent ≡ m.parent
  pub secondary : InOrder SameEdge n.secondary m.secondary
  pub comment : SameText n.comment m.comment

-- the #BOS numbers and comment, every node; phrases in any order
pub record SameSentence (s t : Sentence) : Type 0 where
  pub number : s.heading.number ≡ t.heading.number
  pub editor1 : s.heading.editor1 ≡ t.heading.editor1
  pub date : s.heading.date ≡ t.heading.date
  pub origin : s.heading.origin ≡ t.heading.origin
  pub comment : SameText s.heading.comment t.heading.comment
  pub words : InOrder SameNode s.words t.words
  pub phrases : InAnyOrder SameNode s.phrases t.phrases

abbrev pub handed_number : Handed → ℕ
handed_number h = h.sentence.heading.number

abbrev pub Occurs : ℕ → List Handed → Type 0
Occurs n hs = Any (λ (h : Handed). handed_number h ≡ n) hs

-- the same numbers occur and, for each, the sentences agree
pub record SentencesAgree (hs gs : List Handed) : Type 0 where
  pub numbers : (n : ℕ) → Occurs n hs ↔ Occurs n gs
  pub each : Each (λ (h : Handed). Each (λ (g : Handed). handed_number h ≡ handed_number g → SameSentence h.sentence g.sentence) gs) hs

-- ---- two files

abbrev pub SameTables : List ℕ → List ℕ → Type 0
SameTables f g = TablesAgree (survey_of f).tables (survey_of g).tables

abbrev pub SameSentences : List ℕ → List ℕ → Type 0
SameSentences f g = SentencesAgree (survey_of f).handed (survey_of g).handed

-- the same format, tables and sentences
pub record SameMeaning (f g : List ℕ) : Type 0 where
  pub format : (survey_of f).format ≡ (survey_of g).format
  pub tables : SameTables f g
  pub sentences : SameSentences f g
