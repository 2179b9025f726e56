-- Document 01, "Tidy text": what a file means, places and the order that doesn't count left out; the tidy text is printed
-- from it.
use Rattle.std.specs.Prelude.{ℕ, List, [], ◌∷◌, map, Option, None, Some}
use Rattle.rules.specs.Lists.{sorted}
use Rattle.rules.specs.Texts.{bare}
use Rattle.rules.specs.Tables.{Tables, Row}
use Rattle.rules.specs.Sentences.{Edge, Node, Heading, Sentence}
use Rattle.rules.specs.Reading.{Handed}
use Rattle.rules.specs.Survey.{Survey}

-- ---- places don't count

abbrev pub bare_row : Row → Row
bare_row r = record { id1 = r.id1; first = bare r.first; second = bare r.second; flag = r.flag }

abbrev pub bare_edge : Edge → Edge
bare_edge e = record { label = bare e.label; parent = e.parent }

abbrev pub bare_node : Node → Node
bare_node n =
    record {
      number = n.number;
      word = bare n.word;
      tag = bare n.tag;
      morphology = bare n.morphology;
      edge = bare n.edge;
      parent = n.parent;
      secondary = map bare_edge n.secondary;
      comment = bare n.comment;
    }

abbrev pub bare_heading : Heading → Heading
bare_heading h = record { number = h.number; editor1 = h.editor1; date = h.date; origin = h.origin; comment = bare h.comment }

-- ---- nor does the order of origin and editor rows, of phrases and of sentences

abbrev pub row_id : Row → ℕ
row_id r = r.id1

abbrev pub node_number : Node → ℕ
node_number n = n.number

abbrev pub sentence_number_of : Sentence → ℕ
sentence_number_of s = s.heading.number

abbrev pub meant_rows : Option (List Row) → Option (List Row)
meant_rows None = None
meant_rows (Some rs) = Some (map bare_row rs)

abbrev pub by_id : Option (List Row) → Option (List Row)
by_id None = None
by_id (Some rs) = Some (sorted row_id rs)

-- the seven tables in their order: origin and editor rows by id, tag rows as they stand
abbrev pub meant_tables : Tables → Tables
meant_tables [] = []
meant_tables (o ∷ []) = meant_rows (by_id o) ∷ []
meant_tables (o ∷ e ∷ ts) = meant_rows (by_id o) ∷ meant_rows (by_id e) ∷ map meant_rows ts

abbrev pub meant_sentence : Sentence → Sentence
meant_sentence s =
    record {
      start = 0;
      heading = bare_heading s.heading;
      words = map bare_node s.words;
      phrases = map bare_node (sorted node_number s.phrases);
    }

abbrev pub meant_sentences : List Handed → List Sentence
meant_sentences hs = sorted sentence_number_of (map (λ (h : Handed). meant_sentence h.sentence) hs)

pub record Meaning : Type 0 where
  pub format : ℕ
  pub tables : Tables
  pub sentences : List Sentence

unfoldable pub meaning_of : Survey → Meaning
meaning_of s = record { format = s.format; tables = meant_tables s.tables; sentences = meant_sentences s.handed }
