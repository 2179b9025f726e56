-- What a file contains: its tables and its sentences, all texts as bytes, without their places in the file. An absent text is
-- empty.
use Rattle.std.specs.Prelude.{ℕ, List, Option}

-- one more than the row's id; its name, login or tag; its comment, full name or description; 1 for the flag Y, else 0
pub record RowContent : Type 0 where
  pub id1 : ℕ
  pub first : List ℕ
  pub second : List ℕ
  pub flag : ℕ

-- a secondary edge
pub record EdgeContent : Type 0 where
  pub label : List ℕ
  pub parent : ℕ

-- a word or a phrase; a phrase's word is absent
pub record NodeContent : Type 0 where
  pub number : ℕ
  pub word : List ℕ
  pub tag : List ℕ
  pub morphology : List ℕ
  pub edge : List ℕ
  pub parent : ℕ
  pub secondary : List EdgeContent
  pub comment : List ℕ

-- what stands on #BOS: editor1 is one more than the editor's id
pub record HeadContent : Type 0 where
  pub number : ℕ
  pub editor1 : ℕ
  pub date : ℕ
  pub origin : ℕ
  pub comment : List ℕ

-- its words and its phrases are in file order
pub record SentenceContent : Type 0 where
  pub heading : HeadContent
  pub words : List NodeContent
  pub phrases : List NodeContent

-- the seven tables in the order of their names, of one that is there its rows in file order; the sentences in file order
pub record Content : Type 0 where
  pub format : ℕ
  pub tables : List (Option (List RowContent))
  pub sentences : List SentenceContent
