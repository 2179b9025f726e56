-- Document 02, request 2: given a file and a list, also an export file, the description of a tag of a named table, as a part of
-- whichever of the two holds it: the file if it has that table, else the list.
use Rattle.std.specs.Prelude.{ℕ, suc, ◌-◌, ◌&&◌, ◌||◌, List, [], ◌∷◌, replicate, eqb, Option, None, Some}
use Rattle.rules.specs.Lists.{pick, between, same}
use Rattle.rules.specs.Texts.{Text, no_text}
use Rattle.rules.specs.Tables.{Row, Tables, table, there, word_tags, sec_edge_tags, dashes, unknown}
use Rattle.rules.specs.Sheets.{table_sheet_size, seen_set_size}
use Rattle.rules.specs.Survey.{Survey, survey_of, sheets_fit, file_fits}

-- ---- one file

-- the rows of a table by its place in document 01's order, 1 to 7, if it is one of the five tag tables and is there
abbrev pub tag_rows : ℕ → Tables → Option (List Row)
tag_rows place ts = pick (between (suc word_tags) (suc sec_edge_tags) place) (table (place - 1) ts) None

-- in a table that is present, -- and UNKNOWN without a row have an empty description
abbrev pub without_row : List ℕ → Option Text
without_row tag = pick (same tag dashes || same tag unknown) (Some no_text) None

unfoldable pub described : List ℕ → List Row → Option Text
described tag [] = without_row tag
described tag (r ∷ rs) =
    let later = described tag rs in
    pick (same tag r.first.bytes) (Some r.second) later

abbrev pub described_in : List ℕ → Option (List Row) → Option Text
described_in tag None = None
described_in tag (Some rs) = described tag rs

-- the description of a tag of a named table in given tables
abbrev pub description : Tables → ℕ → List ℕ → Option Text
description ts place tag = described_in tag (tag_rows place ts)

-- ---- the file and the list

-- which of the two it is a part of: 0 neither, 1 the file, 2 the list; every refusal returns the empty part
pub record Explanation : Type 0 where
  pub refusal : ℕ
  pub of : ℕ
  pub part : Text

abbrev pub refused_by : ℕ → Explanation
refused_by n = record { refusal = n; of = 0; part = no_text }

abbrev pub part_of : ℕ → Option Text → Explanation
part_of which None = refused_by 26
part_of which (Some t) = record { refusal = 0; of = which; part = t }

-- the table decides, not the tag
abbrev pub explanation : Tables → Tables → ℕ → List ℕ → Explanation
explanation file list place tag = pick (there (tag_rows place file)) (part_of 1 (description file place tag)) (part_of 2 (description list place tag))

-- the refusals of the file, then those of the list, then 26
abbrev pub explained : Survey → Survey → ℕ → List ℕ → Explanation
explained file list place tag =
    pick (eqb file.refusal 0)
    (pick (eqb list.refusal 0) (explanation file.tables list.tables place tag) (refused_by list.refusal))
    (refused_by file.refusal)

-- ---- with lent buffers: 1, then 2 for either; both end as zeros, or unchanged after 1 or 2

pub record ExplainingOutcome : Type 0 where
  pub answer : Explanation
  pub tables : List ℕ
  pub seen : List ℕ

unfoldable pub after_explaining : List ℕ → List ℕ → ℕ → List ℕ → List ℕ → List ℕ → ExplainingOutcome
after_explaining file list place tag tables seen =
    pick (sheets_fit tables seen)
    (pick (file_fits file && file_fits list)
    (record {
      answer = explained (survey_of file) (survey_of list) place tag;
      tables = replicate table_sheet_size 0;
      seen = replicate seen_set_size 0;
    })
    (record { answer = refused_by 2; tables = tables; seen = seen }))
    (record { answer = refused_by 1; tables = tables; seen = seen })
