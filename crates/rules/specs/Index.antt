-- Where the sentences of a file begin: for each sentence number one more than the place of the sentence's first line, or 0.
use Rattle.std.specs.Prelude.{ℕ, suc, ◌&&◌, List, [], ◌∷◌, map, length, eqb}
use Rattle.rules.specs.Lists.{pick, counting}
use Rattle.rules.specs.Numbers.{sentence_number}
use Rattle.rules.specs.Reading.{Handed, numbers}
use Rattle.rules.specs.Sheets.{table_sheet, seen_set}
use Rattle.rules.specs.Survey.{survey_of, sheets_fit, file_fits, Told, told, nothing_read}

-- 0 for a number that no sentence handed out has
abbrev pub beginning : List Handed → ℕ → ℕ
beginning [] n = 0
beginning (h ∷ hs) n =
    let later = beginning hs n in
    pick (eqb n h.sentence.heading.number) (suc h.sentence.start) later

-- for as many numbers as size, from a number on
unfoldable pub beginnings : ℕ → ℕ → List Handed → List ℕ
beginnings from size hs = map (beginning hs) (counting from size)

-- ---- a survey that also tells where the sentences begin, by their numbers

abbrev pub index_size : ℕ
index_size = suc sentence_number.highest

pub record Indexed : Type 0 where
  pub answer : Told
  pub tables : List ℕ
  pub seen : List ℕ
  pub places : List ℕ

unfoldable pub after_indexing : List ℕ → List ℕ → List ℕ → List ℕ → Indexed
after_indexing file tables seen places =
    let read_as = survey_of file in
    pick (sheets_fit tables seen && eqb (length places) index_size)
    (pick (file_fits file)
    (record {
      answer = told read_as;
      tables = table_sheet read_as.tables;
      seen = seen_set (numbers read_as.handed);
      places = beginnings 0 index_size read_as.handed;
    })
    (record { answer = told (nothing_read 2); tables = tables; seen = seen; places = places }))
    (record { answer = told (nothing_read 1); tables = tables; seen = seen; places = places })
