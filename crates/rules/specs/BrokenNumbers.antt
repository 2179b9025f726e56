-- Demand 1, of the file alone: a broken number in a node's line or in a row of a table is refused by 8. What a number is stands
-- in the grammar; of the line only its columns are supposed, not what they say.
use Rattle.std.specs.Prelude.{ℕ, zero, suc, ◌≤◌, ◌≡◌, ◌⊎◌, List, [], ◌∷◌, ◌++◌, length, eqb}
use Rattle.rules.specs.Lists.{pick, bytes, Each}
use Rattle.rules.specs.Tables.{Row}
use Rattle.rules.specs.Phases.{Preamble, in_table}
use Rattle.rules.specs.Reading.{begin, read}
use Rattle.rules.specs.GrammarNames.{of_origin, of_wordtag}
use Rattle.rules.specs.GrammarNumbers.{Range, NumberIn, origin_range, phrase_range, IdIn, ParentWritten}
use Rattle.rules.specs.GrammarLines.{LineFits, Ignored, Starts}
use Rattle.rules.specs.GrammarColumns.{Begins, Front, NameAndNote, Stripped}
use Rattle.rules.specs.GrammarNodes.{EdgeSaid, NodeLine, node_columns}
use Rattle.rules.specs.Refusals.{InsideSentence, ExactlyInside}

-- these bytes are a number of this range
abbrev pub WellWritten : Range → List ℕ → Type 0
WellWritten r xs = (v : ℕ) × NumberIn r xs v

-- a line that is read, and starts with its first column
pub record LineRead (l : List ℕ) : Type 0 where
  pub fits : LineFits l
  pub heeded : Ignored l → ⊥
  pub starts : Starts l

-- ---- nodes

-- five columns, then pairs; then perhaps a comment
pub record NodeWritten (format : ℕ) (n : NodeLine) : Type 0 where
  pub its_line : LineRead n.line
  pub columns : Front n.line (node_columns format n) n.comment

-- a parent is 0 or 500 to 999, a secondary parent is 500 to 999
pub record ParentsWritten (n : NodeLine) : Type 0 where
  pub parent : (v : ℕ) × ParentWritten n.parent_text v
  pub secondary : Each (λ (e : EdgeSaid). WellWritten phrase_range e.parent_text) n.secondary

-- one digit or more
pub record Digits (ds : List ℕ) : Type 0 where
  pub given : 1 ≤ length ds
  pub each : Each (λ (b : ℕ). (48 ≤ b) × (b ≤ 57)) ds

pub record BadNodeNumbers (front : List ℕ) : Type 0 where
  -- a word, behind no phrase
  pub word : (inside : InsideSentence front) → inside.1.phrases ≡ [] → (n : NodeLine) → NodeWritten inside.0.format n
      → (n.first ≡ bytes "#") ⊎ ((rest : List ℕ) → n.first ≡ bytes "#" ++ rest → ⊥) → ExactlyInside 8 front n.line (ParentsWritten n → ⊥)
  -- a phrase begins with # and digits; its own number is 500 to 999
  pub phrase : (inside : InsideSentence front) → (n : NodeLine) (ds : List ℕ) → NodeWritten inside.0.format n → n.first ≡ bytes "#" ++ ds → Digits ds
      → ExactlyInside 8 front n.line (WellWritten phrase_range ds × ParentsWritten n → ⊥)

-- ---- rows

-- the front ends inside a table
abbrev pub InsideTable : ℕ → List ℕ → Type 0
InsideTable which front = (p : Preamble) × (rs : List Row) × ((read begin front).phase ≡ in_table p which rs)

-- the columns between a row's id and its last text: in ORIGIN none, else a login or a tag, in WORDTAG a flag too
abbrev pub columns_between : ℕ → ℕ
columns_between which = pick (eqb which of_origin) 0 (pick (eqb which of_wordtag) 2 1)

-- the last text is the rest of the line, in ORIGIN up to the first two adjacent percent signs
abbrev pub LastText : ℕ → List ℕ → List ℕ → Type 0
LastText zero rest whole = (note : List ℕ) × NameAndNote rest whole note
LastText (suc which) rest whole = whole ≡ rest

-- a row with all its columns, the last text not all white
pub record RowWritten (which : ℕ) (id l : List ℕ) : Type 0 where
  pub its_line : LineRead l
  pub no_hash : (rest : List ℕ) → id ≡ bytes "#" ++ rest → ⊥
  pub between : List (List ℕ)
  pub count : length between ≡ columns_between which
  pub rest : List ℕ
  pub columns : Begins l (id ∷ between) rest
  pub whole : List ℕ
  pub last : LastText which rest whole
  pub text : List ℕ
  pub text_is : Stripped whole text
  pub given : 1 ≤ length text

-- an origin's id is 1 to 65,535, an editor's or a tag's -1 to 65,535
abbrev pub RowIdWritten : ℕ → List ℕ → Type 0
RowIdWritten zero id = WellWritten origin_range id
RowIdWritten (suc which) id = (i : ℕ) × IdIn id i

abbrev pub BadRowNumbers : List ℕ → Type 0
BadRowNumbers front = (which : ℕ) → InsideTable which front → (id l : List ℕ) → RowWritten which id l → ExactlyInside 8 front l (RowIdWritten which id → ⊥)
