-- What is known of a sentence that the index finds, so that it can be read, printed and cleared.
use Rattle.std.specs.Prelude.{ℕ, zero, suc, ◌≤◌, ◌≡◌, List, length, Some}
use Rattle.rules.specs.Sentences.{Sentence}
use Rattle.rules.specs.SentenceFrom.{sentence_from}
use Rattle.rules.specs.Sheets.{nodes, sentence_sheet}
use Rattle.rules.specs.Meaning.{meant_sentence}
use Rattle.rules.specs.Tidy.{sentence_text}
use Rattle.sentence_sheet.specs.FlatEdges.{edges_among, flat_edges}
use Rattle.sentences.specs.UsedRoom.{UsedOnly}
use Rattle.sentence_text.specs.Printable.{Printable}
use Rattle.writing.specs.TextParts.{sentence_long}

pub record ReadyToPrint (file : List ℕ) (s : Sentence) : Type 0 where
  pub printable : Printable file s
  pub used : UsedOnly (sentence_sheet s) (flat_edges (edges_among (nodes s)))
  pub short : length (sentence_text (meant_sentence s)) ≤ sentence_long

pub record Found (file : List ℕ) (place : ℕ) : Type 0 where
  pub sentence : Sentence
  pub its : sentence_from file place ≡ Some sentence
  pub ready : ReadyToPrint file sentence

-- by one more than the place where the sentence begins, or 0 for none
abbrev pub Entry : List ℕ → ℕ → Type 0
Entry file zero = Unit {0}
Entry file (suc place) = Found file place
