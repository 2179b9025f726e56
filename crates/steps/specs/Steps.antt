-- A line's taking (rules/Lines) as a step: the numbers and places of what the line says, or the rule that refuses it.
use Rattle.std.specs.Prelude.{length, Result, Ok, Err}
use Rattle.rules.specs.Rules.{Verdict, refused, granted}
use Rattle.rules.specs.Tables as rules
use Rattle.rules.specs.Sentences.{Node, Heading}
use Rattle.rules.specs.Highest.{highest_parent}
use Rattle.rules.specs.Lines.{Taking, ignored_line, format_line, table_begins, row_line, table_ends, sentence_begins, word_line, phrase_line, sentence_ends}
use Rattle.columns.specs.Listing.{span_of}
use Rattle.steps.specs.Faults.{broken_by}
use Rattle.steps.specs.declared.RowSaid.{RowSaid}
use Rattle.steps.specs.declared.HeadingSaid.{HeadingSaid}
use Rattle.steps.specs.declared.NodeSaid.{NodeSaid}
use Rattle.steps.specs.declared.Fault.{Fault}
use Rattle.steps.specs.declared.Step.{Step}
use Rattle.steps.specs.declared.Step.TheVariants as steps

abbrev pub row_said : rules.Row → RowSaid
row_said r = record { id1 = r.id1; first = span_of r.first; second = span_of r.second; flag = r.flag }

abbrev pub heading_said : Heading → HeadingSaid
heading_said h = record { number = h.number; editor1 = h.editor1; date = h.date; origin = h.origin; comment = span_of h.comment }

abbrev pub node_said : Node → NodeSaid
node_said n = record {
  number = n.number;
  word = span_of n.word;
  tag = span_of n.tag;
  morphology = span_of n.morphology;
  edge = span_of n.edge;
  parent = n.parent;
  comment = span_of n.comment;
  edges = length n.secondary;
  highest = highest_parent n;
}

abbrev pub step_for : Taking → Step
step_for ignored_line = steps.Ignored
step_for (format_line n) = steps.Format n
step_for (table_begins n) = steps.TableBegins n
step_for (row_line r) = steps.Row (row_said r)
step_for table_ends = steps.TableEnds
step_for (sentence_begins h) = steps.SentenceBegins (heading_said h)
step_for (word_line n) = steps.Word (node_said n)
step_for (phrase_line n) = steps.Phrase (node_said n)
step_for sentence_ends = steps.SentenceEnds

abbrev pub step_of : Verdict Taking → Result Step Fault
step_of (refused r) = Err (broken_by r)
step_of (granted t) = Ok (step_for t)
