-- What a reading has read by the time it stands in a phase: the parts of the file so far, with all that the grammar says of
-- them and that does not look ahead.
use Prim.Native.Nat.{ℕ, ◌+◌, ◌≤◌, ◌<◌}
use mathlib.Core.Path.{◌≡◌, sym, ap, ◌∙◌}
use mathlib.Core.List.{List, [], ◌∷◌, ◌++◌, map, append_assoc, append-nil}
use lib.ListN.{length}
use Rattle.rules.specs.Lists.{bytes, joined, Each}
use Rattle.rules.specs.Numbers.{word_limit, edge_limit}
use Rattle.rules.specs.Tables.{Row, origins, editors}
use Rattle.rules.specs.Sentences.{Sentence}
use Rattle.rules.specs.Phases.{Preamble, Phase, start, top, in_table, in_sentence, behind_sentence}
use Rattle.rules.specs.GrammarNumbers.{sentence_range}
use Rattle.rules.specs.GrammarLines.{In, Differ}
use Rattle.rules.specs.GrammarRows.{RowLine}
use Rattle.rules.specs.GrammarTables.{TableLines, RowsFit, Names, TableFits, table_lines, whiches}
use Rattle.rules.specs.GrammarNodes.{NodeLine, PhraseLine, WordFits, PhraseFits}
use Rattle.rules.specs.GrammarSentences.{HeadLine, SentenceLines, HeadFits, SentenceFits, numbers_of, nodes_of, secondary_edges, node_lines, sentence_lines}
use Rattle.rules.specs.Grammar.{FormatFits, sentence_numbers}
use Rattle.rules.proofs.RowsAlike.{Alike}
use Rattle.rules.proofs.TablesAsSaid.{Stand}
use Rattle.rules.proofs.SentenceEnds.{SentenceAlike}
use Rattle.rules.proofs.LineByLine.{numbers_in}

abbrev pub pre_lines : List ℕ → List TableLines → List (List ℕ)
pre_lines format_line_lem ts = format_line_lem ∷ joined (map table_lines ts)

abbrev pub row_lines : List RowLine → List (List ℕ)
row_lines rows = map (λ (r : RowLine). r.line) rows

-- the format line and whole tables
pub record Preambled (p : Preamble) : Type 0 where
  pub format_line : List ℕ
  pub ts : List TableLines
  pub format_fits : FormatFits format_line p.format
  pub each_table : Each TableFits ts
  pub once : Differ (whiches ts)
  pub stand : Stand p.tables ts

-- and whole sentences
pub record Prior (p : Preamble) (out : List Sentence) : Type 0 where
  pub pre : Preambled p
  pub ss : List SentenceLines
  pub each : Each (SentenceFits sentence_range p.format pre.ts) ss
  pub differ : Differ (sentence_numbers ss)
  pub out_are : numbers_in out ≡ sentence_numbers ss

abbrev pub prior_lines : (p : Preamble) (out : List Sentence) → Prior p out → List (List ℕ)
prior_lines p out r = pre_lines r.pre.format_line r.pre.ts ++ joined (map sentence_lines r.ss)

pub record AtTop (p : Preamble) (out : List Sentence) (done : List (List ℕ)) : Type 0 where
  pub pre : Preambled p
  pub none_out : out ≡ []
  pub lines : done ≡ pre_lines pre.format_line pre.ts

pub record InTable (p : Preamble) (n : ℕ) (rs : List Row) (out : List Sentence) (done : List (List ℕ)) : Type 0 where
  pub pre : Preambled p
  pub none_out : out ≡ []
  pub one_of_seven : n < 7
  pub new : In n (whiches pre.ts) → ⊥
  pub bot : List ℕ
  pub begins : Names (bytes "#BOT") n bot
  pub rows : List RowLine
  pub alike : Alike rs rows
  pub fit : RowsFit n rows
  pub lines : done ≡ pre_lines pre.format_line pre.ts ++ (bot ∷ row_lines rows)

-- the first two tables are there, since a sentence has begun
pub record BothThere (ts : List TableLines) : Type 0 where
  pub origin_there : In origins (whiches ts)
  pub editor_there : In editors (whiches ts)

pub record Behind (p : Preamble) (out : List Sentence) (done : List (List ℕ)) : Type 0 where
  pub prior : Prior p out
  pub both : BothThere prior.pre.ts
  pub lines : done ≡ prior_lines p out prior

pub record InSentence (p : Preamble) (s : Sentence) (out : List Sentence) (done : List (List ℕ)) : Type 0 where
  pub prior : Prior p out
  pub both : BothThere prior.pre.ts
  pub head : HeadLine
  pub words : List NodeLine
  pub phrases : List PhraseLine
  pub head_fits : HeadFits sentence_range prior.pre.ts head
  pub new : In head.number (sentence_numbers prior.ss) → ⊥
  pub each_word : Each (WordFits p.format prior.pre.ts) words
  pub each_phrase : Each (PhraseFits p.format prior.pre.ts) phrases
  pub words_at_most : length words ≤ word_limit
  pub edges_at_most : length (secondary_edges words) + length (secondary_edges (nodes_of phrases)) ≤ edge_limit
  pub numbers_differ : Differ (numbers_of phrases)
  pub alike : SentenceAlike s head words phrases
  pub lines : done ≡ prior_lines p out prior ++ (head.line ∷ node_lines words ++ node_lines (nodes_of phrases))

abbrev pub WasRead : Phase → List Sentence → List (List ℕ) → Type 0
WasRead start out done = (done ≡ []) × (out ≡ [])
WasRead (top p) out done = AtTop p out done
WasRead (in_table p n rs) out done = InTable p n rs out done
WasRead (in_sentence p s) out done = InSentence p s out done
WasRead (behind_sentence p) out done = Behind p out done

-- one part more
module _ {A B : Type 0} (f : A → List B) where
  pub joined_more : (xs : List A) (x : A) → joined (map f (xs ++ (x ∷ []))) ≡ joined (map f xs) ++ f x
  joined_more [] x = append-nil (f x)
  joined_more (y ∷ xs) x = ap (λ (ls : List B). f y ++ ls) (joined_more xs x) ∙ sym (append_assoc (f y) (joined (map f xs)) (f x))
