-- Openings as they are called: the sizes of what is lent, the list of secondary edges as 2,048 plain numbers; and what an
-- opening answers and leaves.
use Rattle.std.specs.Prelude.{ℕ, ◌≡◌, List, length, replicate}
use Rattle.rules.specs.Sentences.{Sentence}
use Rattle.rules.specs.Sheets.{sentence_sheet, edge_list}
use Rattle.rules.specs.Layout.{flat_list}
use Rattle.rules.specs.LentBuffers.{SheetsSized}

pub record FlatSized (sheet edges : List ℕ) : Type 0 where
  pub sentence_sheet_lem : length sheet ≡ 11009
  pub edge_list_lem : length edges ≡ 2048

pub record AllFlatSized (tables seen sheet edges : List ℕ) : Type 0 where
  pub sheets : SheetsSized tables seen
  pub sentence : FlatSized sheet edges

-- ---- what is answered, and what each lent buffer then holds

pub record Left : Type 0 where
  pub answer : ℕ
  pub tables : List ℕ
  pub seen : List ℕ
  pub sheet : List ℕ
  pub edges : List ℕ

abbrev pub left : ℕ → List ℕ → List ℕ → List ℕ → List ℕ → Left
left r tables seen sheet edges = record { answer = r; tables = tables; seen = seen; sheet = sheet; edges = edges }

-- of the sentence alone
pub record LeftThere : Type 0 where
  pub answer : ℕ
  pub sheet : List ℕ
  pub edges : List ℕ

abbrev pub left_there : ℕ → List ℕ → List ℕ → LeftThere
left_there r sheet edges = record { answer = r; sheet = sheet; edges = edges }

-- 24 and zeros; 0 with a sentence's sheet and list
abbrev pub nothing : LeftThere
nothing = left_there 24 (replicate 11009 0) (replicate 2048 0)

abbrev pub opened_with : Sentence → LeftThere
opened_with s = left_there 0 (sentence_sheet s) (flat_list (edge_list s))
