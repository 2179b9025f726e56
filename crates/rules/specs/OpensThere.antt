-- The converse of `BeginsThere`, of any file, whatever stands in front of the place: lines that stand there and are those of a
-- sentence, with whatever tables it fits, open it. Document 01, "The file from top to bottom".
use Rattle.std.specs.Prelude.{ℕ, ◌≡◌, List, [], ◌∷◌, ◌++◌, length, Some}
use Rattle.rules.specs.Lists.{Each}
use Rattle.rules.specs.Sentences.{Sentence}
use Rattle.rules.specs.Places.{StartsLine}
use Rattle.rules.specs.SentenceFrom.{sentence_from}
use Rattle.rules.specs.GrammarNumbers.{sentence_range}
use Rattle.rules.specs.GrammarLines.{LineFits, lines_written, Heeded, Starts}
use Rattle.rules.specs.GrammarTables.{TableLines}
use Rattle.rules.specs.GrammarSentences.{SentenceLines, SentenceFits, nodes_of, node_lines, sentence_lines, sentence_says}
use Rattle.rules.specs.GrammarSurvey.{sentence_read}

-- tables can be thought of with which it is a sentence of format 3: what its own lines say is as it must be
abbrev pub FitsAlone : SentenceLines → Type 0
FitsAlone s = (ts : List TableLines) × SentenceFits sentence_range 3 ts s

-- its #BOS line stands at the place; behind it stand lines, those of which that are not ignored are its others
pub record SentenceStands (file : List ℕ) (at : ℕ) (s : SentenceLines) : Type 0 where
  pub front : List ℕ
  pub others : List (List ℕ)
  pub back : List ℕ
  pub parts : file ≡ front ++ (lines_written (s.head.line ∷ others) ++ back)
  pub place : length front ≡ at
  pub starts : StartsLine file at
  pub each_line : Each LineFits (s.head.line ∷ others)
  pub heeded : Heeded others ((node_lines s.words ++ node_lines (nodes_of s.phrases)) ++ (s.eos ∷ []))
  pub each_starts : Each Starts (sentence_lines s)

-- the sentence that begins there says what the lines say
pub record OpensThere (file : List ℕ) (at : ℕ) (s : SentenceLines) : Type 0 where
  pub sentence : Sentence
  pub found : sentence_from file at ≡ Some sentence
  pub place : sentence.start ≡ at
  pub says : sentence_read sentence ≡ sentence_says s
