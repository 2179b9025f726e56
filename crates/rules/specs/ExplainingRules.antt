-- Document 02, request 2, said otherwise: where a granted part stands, which of the two it is of, and when 26 is given.
use Rattle.std.specs.Prelude.{ℕ, suc, ◌≤◌, ◌≡◌, ◌≢◌, ◌↔◌, false, List, [], ◌∷◌, ◌++◌, replicate, None, Some}
use Rattle.rules.specs.Lists.{bytes, Each}
use Rattle.rules.specs.Texts.{Text, no_text}
use Rattle.rules.specs.Tables.{Row, Tables, table, has_tag}
use Rattle.rules.specs.Places.{LiesIn}
use Rattle.rules.specs.Survey.{survey_of}
use Rattle.rules.specs.LentBuffers.{SheetsSized, WithinLimit, TooLong}
use Rattle.rules.specs.Explaining.{Explanation, refused_by, explained, after_explaining}

-- the tags of the rows differ: none is a tag of the rows behind it
abbrev pub TagsApart : List Row → Type 0
TagsApart [] = Unit {0}
TagsApart (r ∷ rs) = (has_tag r.first rs ≡ false) × TagsApart rs

-- the part has its bytes there, an empty one stands at 0; every refusal returns the empty part of neither
pub record PartStands (file list : List ℕ) (e : Explanation) : Type 0 where
  pub in_file : e.of ≢ 2 → LiesIn file e.part
  pub in_list : e.of ≡ 2 → LiesIn list e.part
  pub refused : e.refusal ≢ 0 → (e.of ≡ 0) × (e.part ≡ no_text)

-- the place counted from 1 of one of the five tag tables
pub record TagTablePlace (n place : ℕ) : Type 0 where
  pub counted : place ≡ suc n
  pub first : 2 ≤ n
  pub last : n ≤ 6

abbrev pub NoRow : List ℕ → List Row → Type 0
NoRow tag rs = Each (λ (r : Row). tag ≢ r.first.bytes) rs

-- what rows tell of a tag: the second text of the row that has it; without one, the empty text of -- and UNKNOWN
pub data RowsTell (tag : List ℕ) (rs : List Row) (t : Text) : Type 0 where
  by_row : (front : List Row) (r : Row) (back : List Row) → rs ≡ front ++ (r ∷ back) → r.first.bytes ≡ tag → r.second ≡ t → RowsTell tag rs t
  dashes_without : tag ≡ bytes "--" → NoRow tag rs → no_text ≡ t → RowsTell tag rs t
  unknown_without : tag ≡ bytes "UNKNOWN" → NoRow tag rs → no_text ≡ t → RowsTell tag rs t

-- a tag that needs a row, and has none
pub record Lacks (tag : List ℕ) (rs : List Row) : Type 0 where
  pub not_dashes : tag ≢ bytes "--"
  pub not_unknown : tag ≢ bytes "UNKNOWN"
  pub no_row : NoRow tag rs

-- the table named isn't one of the five tag tables, is in neither file, or lacks the tag
pub data Unexplained (file list : Tables) (place : ℕ) (tag : List ℕ) : Type 0 where
  no_tag_table : ((n : ℕ) → TagTablePlace n place → ⊥) → Unexplained file list place tag
  in_neither : (n : ℕ) → TagTablePlace n place → table n file ≡ None → table n list ≡ None → Unexplained file list place tag
  file_lacks : (n : ℕ) (rs : List Row) → TagTablePlace n place → table n file ≡ Some rs → Lacks tag rs → Unexplained file list place tag
  list_lacks : (n : ℕ) (rs : List Row) → TagTablePlace n place → table n file ≡ None → table n list ≡ Some rs → Lacks tag rs → Unexplained file list place tag

abbrev pub Accepted : List ℕ → Type 0
Accepted file = (survey_of file).refusal ≡ 0

pub record ExplainingRule (file list : List ℕ) (place : ℕ) (tag : List ℕ) : Type 0 where
  -- the refusals of the file, then those of the list, even where the file could answer
  pub file_first : (survey_of file).refusal ≢ 0 → explained (survey_of file) (survey_of list) place tag ≡ refused_by (survey_of file).refusal
  pub then_list : Accepted file → (survey_of list).refusal ≢ 0 → explained (survey_of file) (survey_of list) place tag ≡ refused_by (survey_of list).refusal
  -- which of the two is decided by the table's presence alone: the file if it has it, else the list; the part is what its rows tell
  pub by_file : Accepted file → Accepted list → (n : ℕ) (rs : List Row) (t : Text) → TagTablePlace n place → table n (survey_of file).tables ≡ Some rs → RowsTell tag rs t
      → explained (survey_of file) (survey_of list) place tag ≡ record { refusal = 0; of = 1; part = t }
  pub by_list : Accepted file → Accepted list → (n : ℕ) (rs : List Row) (t : Text) → TagTablePlace n place → table n (survey_of file).tables ≡ None
      → table n (survey_of list).tables ≡ Some rs → RowsTell tag rs t
      → explained (survey_of file) (survey_of list) place tag ≡ record { refusal = 0; of = 2; part = t }
  -- 26 exactly if there is nothing to tell
  pub exactly : Accepted file → Accepted list
      → ((explained (survey_of file) (survey_of list) place tag).refusal ≡ 26) ↔ Unexplained (survey_of file).tables (survey_of list).tables place tag

-- with lent buffers: the sizes are those that document 01 prints
pub record ExplainingCall (file list : List ℕ) (place : ℕ) (tag tables seen : List ℕ) : Type 0 where
  pub wrong_size : (SheetsSized tables seen → ⊥)
      → after_explaining file list place tag tables seen ≡ record { answer = refused_by 1; tables = tables; seen = seen }
  pub file_too_long : SheetsSized tables seen → TooLong file
      → after_explaining file list place tag tables seen ≡ record { answer = refused_by 2; tables = tables; seen = seen }
  pub list_too_long : SheetsSized tables seen → WithinLimit file → TooLong list
      → after_explaining file list place tag tables seen ≡ record { answer = refused_by 2; tables = tables; seen = seen }
  pub told : SheetsSized tables seen → WithinLimit file → WithinLimit list
      → after_explaining file list place tag tables seen
      ≡ record {
        answer = explained (survey_of file) (survey_of list) place tag;
        tables = replicate 10759 0;
        seen = replicate 8192 0;
      }
