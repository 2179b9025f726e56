-- The promises: what rules/Explaining gives, told by place and length, or as the part itself; and what a look-up asks of a sheet.
use Rattle.std.specs.Prelude.{ℕ, suc, ◌-◌, ◌≤◌, List, length, get_or}
use Rattle.rules.specs.Lists.{pick, between}
use Rattle.rules.specs.Tables.{word_tags, sec_edge_tags}
use Rattle.rules.specs.Sheets.{row_place}
use Rattle.table_sheet.specs.SheetRows.{rows_from}
use Rattle.citations.specs.Tabled.{Tabled}
use Rattle.rules.specs.Explaining.{Explanation, ExplainingOutcome}
use Rattle.rules.specs.ExplainingRules.{TagsApart}
use Rattle.explaining.specs.declared.Explained.{Explained}

-- ---- by place and length

abbrev pub as_explained : Explanation → Explained
as_explained e = record { refusal = e.refusal; of = e.of; start = e.part.start; len = length e.part.bytes }

pub record Placed : Type 0 where
  pub answer : Explained
  pub tables : List ℕ
  pub seen : List ℕ

abbrev pub placed : ExplainingOutcome → Placed
placed o = record { answer = as_explained o.answer; tables = o.tables; seen = o.seen }

abbrev pub place_outcome : Explained → List ℕ → List ℕ → Placed
place_outcome r tables seen = record { answer = r; tables = tables; seen = seen }

-- ---- as a part: the number that takes the refusal, and the bytes

pub record PartTold : Type 0 where
  pub refusal : ℕ
  pub bytes : List ℕ
  pub tables : List ℕ
  pub seen : List ℕ

abbrev pub part_told : ExplainingOutcome → PartTold
part_told o = record { refusal = o.answer.refusal; bytes = o.answer.part.bytes; tables = o.tables; seen = o.seen }

abbrev pub part_outcome : ℕ → List ℕ → List ℕ → List ℕ → PartTold
part_outcome refusal bytes tables seen = record { refusal = refusal; bytes = bytes; tables = tables; seen = seen }

-- ---- a sheet that can be looked up

-- rows + 1 of a tag table that is there, else 0
abbrev pub tag_count : List ℕ → ℕ → ℕ
tag_count sheet place = pick (between (suc word_tags) (suc sec_edge_tags) place) (get_or sheet (place - 1) 0) 0

-- the texts of the rows lie in the file, and the tags of a table differ
pub record Telling (file sheet : List ℕ) : Type 0 where
  pub tabled : Tabled file sheet
  pub apart : (n : ℕ) → word_tags ≤ n → n ≤ sec_edge_tags → TagsApart (rows_from file sheet (row_place n 0) (get_or sheet n 0 - 1))
