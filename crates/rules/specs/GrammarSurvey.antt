-- What a survey has read of a file, field by field, without the places.
use Rattle.std.specs.Prelude.{Option, None, Some, List, map}
use Rattle.rules.specs.Tables.{Row}
use Rattle.rules.specs.Sentences.{Edge, Node, Heading, Sentence}
use Rattle.rules.specs.Reading.{Handed}
use Rattle.rules.specs.Survey.{Survey}
use Rattle.rules.specs.GrammarContent.{RowContent, EdgeContent, NodeContent, HeadContent, SentenceContent, Content}

abbrev pub row_read : Row → RowContent
row_read r = record { id1 = r.id1; first = r.first.bytes; second = r.second.bytes; flag = r.flag }

abbrev pub table_read : Option (List Row) → Option (List RowContent)
table_read None = None
table_read (Some rs) = Some (map row_read rs)

abbrev pub edge_read : Edge → EdgeContent
edge_read e = record { label = e.label.bytes; parent = e.parent }

abbrev pub node_read : Node → NodeContent
node_read n =
    record {
      number = n.number;
      word = n.word.bytes;
      tag = n.tag.bytes;
      morphology = n.morphology.bytes;
      edge = n.edge.bytes;
      parent = n.parent;
      secondary = map edge_read n.secondary;
      comment = n.comment.bytes;
    }

abbrev pub head_read : Heading → HeadContent
head_read h = record { number = h.number; editor1 = h.editor1; date = h.date; origin = h.origin; comment = h.comment.bytes }

abbrev pub sentence_read : Sentence → SentenceContent
sentence_read s = record { heading = head_read s.heading; words = map node_read s.words; phrases = map node_read s.phrases }

abbrev pub content_of : Survey → Content
content_of s =
    record {
      format = s.format;
      tables = map table_read s.tables;
      sentences = map (λ (h : Handed). sentence_read h.sentence) s.handed;
    }
