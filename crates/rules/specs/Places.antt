-- Where in the file what is read from it stands: the bytes of each text, the first line of each sentence, and its end.
use Rattle.std.specs.Prelude.{ℕ, suc, ◌≡◌, ◌⊎◌, List, [], ◌∷◌, length, take, drop, Option}
use Rattle.rules.specs.Lists.{bytes, Each}
use Rattle.rules.specs.Texts.{Text}
use Rattle.rules.specs.Tables.{Row, rows_of}
use Rattle.rules.specs.Sentences.{Edge, Node, Sentence}
use Rattle.rules.specs.Reading.{Handed}
use Rattle.rules.specs.Survey.{survey_of}

-- the file has the text's bytes at the text's place; an absent text is at 0
pub record LiesIn (file : List ℕ) (t : Text) : Type 0 where
  pub found : take (length t.bytes) (drop t.start file) ≡ t.bytes
  pub absent : t.bytes ≡ [] → t.start ≡ 0

pub record RowLies (file : List ℕ) (r : Row) : Type 0 where
  pub first : LiesIn file r.first
  pub second : LiesIn file r.second

pub record NodeLies (file : List ℕ) (n : Node) : Type 0 where
  pub word : LiesIn file n.word
  pub tag : LiesIn file n.tag
  pub morphology : LiesIn file n.morphology
  pub edge : LiesIn file n.edge
  pub comment : LiesIn file n.comment
  pub labels : Each (λ (e : Edge). LiesIn file e.label) n.secondary

-- byte 10 stands in front of the place
pub record AfterNewline (file : List ℕ) (at : ℕ) : Type 0 where
  pub before : ℕ
  pub place : at ≡ suc before
  pub newline : take 1 (drop before file) ≡ 10 ∷ []

-- the place of a line's first byte
abbrev pub StartsLine : List ℕ → ℕ → Type 0
StartsLine file at = (at ≡ 0) ⊎ AfterNewline file at

pub record SentenceLies (file : List ℕ) (s : Sentence) : Type 0 where
  pub begins : take 4 (drop s.start file) ≡ bytes "#BOS"
  pub line : StartsLine file s.start
  pub comment : LiesIn file s.heading.comment
  pub words : Each (NodeLies file) s.words
  pub phrases : Each (NodeLies file) s.phrases

pub record HandedLies (file : List ℕ) (h : Handed) : Type 0 where
  pub sentence : SentenceLies file h.sentence
  pub end : AfterNewline file h.end

-- every row of a closed table and every sentence handed out, of any file
pub record LiesThere (file : List ℕ) : Type 0 where
  pub tables : Each (λ (t : Option (List Row)). Each (RowLies file) (rows_of t)) (survey_of file).tables
  pub sentences : Each (HandedLies file) (survey_of file).handed
