-- What is handed out is what is written: between a sentence's start and its end the file has its lines, all of them and no
-- others, and each number, text and comment of its records is what the line says. Document 01, "The file from top to bottom".
use Rattle.std.specs.Prelude.{ℕ, zero, suc, ◌+◌, ◌≡◌, ◌⊎◌, List, [], ◌∷◌, ◌++◌, map, length, None, Some}
use Rattle.rules.specs.Lists.{bytes, joined, counting, Each}
use Rattle.rules.specs.Bytes.{percents}
use Rattle.rules.specs.Texts.{no_text}
use Rattle.rules.specs.Tables.{Tables, Row}
use Rattle.rules.specs.Sentences.{Edge, Node, Heading}
use Rattle.rules.specs.Reading.{Handed}
use Rattle.rules.specs.Survey.{survey_of}
use Rattle.rules.specs.Tidy.{digits_of, id_digits}
use Rattle.rules.specs.Refusals.{OneLine}
use Rattle.rules.specs.GrammarLines.{White, lines_written, Heeded}
use Rattle.rules.specs.GrammarColumns.{Begins, Columns, Stripped, NameAndNote}
use Rattle.rules.specs.GrammarTables.{Names}

-- a line has these columns in front of the comment, which the first column that is exactly %% begins, and this comment
pub record LineSaid (l : List ℕ) (cs : List (List ℕ)) (text : List ℕ) : Type 0 where
  pub rest : List ℕ
  pub begins : Begins l cs rest
  pub no_sign : Each (λ (c : List ℕ). c ≡ percents → ⊥) cs
  pub comment : (Each White rest × (text ≡ [])) ⊎ ((behind : List ℕ) × Begins rest (percents ∷ []) behind × Stripped behind text)

-- ---- the lines of a sentence

-- #BOS number editor date origin, and a comment
pub record HeadSaid (h : Heading) (l : List ℕ) : Type 0 where
  pub rest : List ℕ
  pub columns : Begins l (bytes "#BOS" ∷ digits_of h.number ∷ id_digits h.editor1 ∷ digits_of h.date ∷ digits_of h.origin ∷ []) rest
  pub comment : LineSaid rest [] h.comment.bytes

-- tag, morphology, edge, parent, then pairs of secondary label and secondary parent
abbrev pub columns_behind : Node → List (List ℕ)
columns_behind n =
    n.tag.bytes ∷ n.morphology.bytes ∷ n.edge.bytes ∷ digits_of n.parent
    ∷ joined (map (λ (e : Edge). e.label.bytes ∷ digits_of e.parent ∷ []) n.secondary)

abbrev pub WordSaid : Node → List ℕ → Type 0
WordSaid n l = LineSaid l (n.word.bytes ∷ columns_behind n) n.comment.bytes

-- # with its number at once after it
pub record PhraseSaid (n : Node) (l : List ℕ) : Type 0 where
  pub no_word : n.word ≡ no_text
  pub columns : LineSaid l ((35 ∷ digits_of n.number) ∷ columns_behind n) n.comment.bytes

-- ---- a sentence

-- each with its own, in order, none left over
abbrev pub EachWith : {A B : Type 0} → (A → B → Type 0) → List A → List B → Type 0
EachWith P [] [] = Unit
EachWith P [] (y ∷ ys) = ⊥
EachWith P (x ∷ xs) [] = ⊥
EachWith P (x ∷ xs) (y ∷ ys) = P x y × EachWith P xs ys

-- from the place of #BOS up to the place behind #EOS and its newline; the lines that are not ignored are its head, its words,
-- which count from 0, its phrases and its end
pub record SentenceSaid (file : List ℕ) (h : Handed) : Type 0 where
  pub front : List ℕ
  pub lines : List (List ℕ)
  pub back : List ℕ
  pub parts : file ≡ front ++ (lines_written lines ++ back)
  pub each_line : Each OneLine lines
  pub start : h.sentence.start ≡ length front
  pub end : h.end ≡ length front + length (lines_written lines)
  pub head : List ℕ
  pub words : List (List ℕ)
  pub phrases : List (List ℕ)
  pub last : List ℕ
  pub heeded : Heeded lines ((head ∷ (words ++ phrases)) ++ (last ∷ []))
  pub its_head : HeadSaid h.sentence.heading head
  pub its_words : EachWith WordSaid h.sentence.words words
  pub counted : map (λ (n : Node). n.number) h.sentence.words ≡ counting 0 (length h.sentence.words)
  pub its_phrases : EachWith PhraseSaid h.sentence.phrases phrases
  pub its_end : Columns last (bytes "#EOS" ∷ digits_of h.sentence.heading.number ∷ [])

-- ---- the lines of a table

-- id, name, which ends at the first two adjacent percent signs, and a comment behind them
pub record OriginSaid (r : Row) (l : List ℕ) : Type 0 where
  pub rest : List ℕ
  pub columns : Begins l (id_digits r.id1 ∷ []) rest
  pub name : List ℕ
  pub note : List ℕ
  pub parted : NameAndNote rest name note
  pub its_name : Stripped name r.first.bytes
  pub its_note : Stripped note r.second.bytes
  pub flag : r.flag ≡ 0

-- id, tag or login, for WORDTAG a flag, which is 1 for Y, and the rest of the line
abbrev pub FlagSaid : ℕ → ℕ → List (List ℕ) → Type 0
FlagSaid n flag cs =
    ((n ≡ 2) × (((cs ≡ bytes "Y" ∷ []) × (flag ≡ 1)) ⊎ ((cs ≡ bytes "N" ∷ []) × (flag ≡ 0)))) ⊎ ((n ≡ 2 → ⊥) × (cs ≡ []) × (flag ≡ 0))

pub record TagSaid (n : ℕ) (r : Row) (l : List ℕ) : Type 0 where
  pub flags : List (List ℕ)
  pub rest : List ℕ
  pub columns : Begins l (id_digits r.id1 ∷ r.first.bytes ∷ flags) rest
  pub flag : FlagSaid n r.flag flags
  pub description : Stripped rest r.second.bytes

-- of the n-th table
abbrev pub TableRowSaid : ℕ → Row → List ℕ → Type 0
TableRowSaid zero r l = OriginSaid r l
TableRowSaid (suc n) r l = TagSaid (suc n) r l

-- the table's lines that are not ignored are #BOT and its name, its rows, #EOT and its name
pub record TableSaid (file : List ℕ) (n : ℕ) (rs : List Row) : Type 0 where
  pub front : List ℕ
  pub lines : List (List ℕ)
  pub back : List ℕ
  pub parts : file ≡ front ++ (lines_written lines ++ back)
  pub each_line : Each OneLine lines
  pub bot : List ℕ
  pub rows : List (List ℕ)
  pub eot : List ℕ
  pub heeded : Heeded lines ((bot ∷ rows) ++ (eot ∷ []))
  pub its_bot : Names (bytes "#BOT") n bot
  pub its_rows : EachWith (TableRowSaid n) rs rows
  pub its_eot : Names (bytes "#EOT") n eot

-- the tables from the n-th on
abbrev pub TablesSaid : List ℕ → ℕ → Tables → Type 0
TablesSaid file n [] = Unit
TablesSaid file n (None ∷ ts) = TablesSaid file (suc n) ts
TablesSaid file n (Some rs ∷ ts) = TableSaid file n rs × TablesSaid file (suc n) ts

-- ---- all that is handed out

pub record AsWritten (file : List ℕ) : Type 0 where
  pub tables : TablesSaid file 0 (survey_of file).tables
  pub sentences : Each (SentenceSaid file) (survey_of file).handed
