-- Document 01, "The file from top to bottom": a sentence, its beginning and its end.
use Rattle.std.specs.Prelude.{ℕ, suc, ◌+◌, Bool, not, ◌&&◌, ◌||◌, List, [], ◌∷◌, ◌++◌, length, drop, ltb, eqb}
use Rattle.rules.specs.Lists.{empty, every, any, counting}
use Rattle.rules.specs.Texts.{Text}
use Rattle.rules.specs.Columns.{columns, written, fields, comment}
use Rattle.rules.specs.Numbers.{sentence_number, origin_id, date, phrase_number, number, signed_id, good, value}
use Rattle.rules.specs.Rules.{Rule, rule, Verdict, checked}
use Rattle.rules.specs.Tables.{Tables, origins, editors, table, present, rows_of, has_id}

pub record Edge : Type 0 where
  pub label : Text
  pub parent : ℕ

-- a word or a phrase; a phrase's word is absent
pub record Node : Type 0 where
  pub number : ℕ
  pub word : Text
  pub tag : Text
  pub morphology : Text
  pub edge : Text
  pub parent : ℕ
  pub secondary : List Edge
  pub comment : Text

-- what stands on #BOS
pub record Heading : Type 0 where
  pub number : ℕ
  pub editor1 : ℕ
  pub date : ℕ
  pub origin : ℕ
  pub comment : Text

-- the place of its first line; its words and its phrases are in file order
pub record Sentence : Type 0 where
  pub start : ℕ
  pub heading : Heading
  pub words : List Node
  pub phrases : List Node

-- ---- #BOS number editor date origin; used tells which numbers sentences before have

-- ids -1 and 0 may be cited without a row
abbrev pub known_editor : Tables → ℕ → Bool
known_editor ts i = ltb i 2 || has_id i (rows_of (table editors ts))

abbrev pub known_origin : Tables → ℕ → Bool
known_origin ts n = has_id (suc n) (rows_of (table origins ts))

-- 7, 8: five columns, four of them numbers, and behind them nothing or a comment
abbrev pub heading_written : Text → List Rule
heading_written line =
    let cs = columns line in
    rule 7 line (ltb 4 (length cs) && empty (fields (drop 5 cs)))
    ∷ rule 8 (written cs 1) (good (number sentence_number (written cs 1).bytes))
    ∷ rule 8 (written cs 2) (good (signed_id (written cs 2).bytes))
    ∷ rule 8 (written cs 3) (good (number date (written cs 3).bytes))
    ∷ rule 8 (written cs 4) (good (number origin_id (written cs 4).bytes))
    ∷ []

abbrev pub heading_in : Text → Heading
heading_in line =
    let cs = columns line in
    record {
      number = value (number sentence_number (written cs 1).bytes);
      editor1 = value (signed_id (written cs 2).bytes);
      date = value (number date (written cs 3).bytes);
      origin = value (number origin_id (written cs 4).bytes);
      comment = comment (drop 5 cs);
    }

-- 13, 14, 15: the tables are there, the number is new, editor and origin are known
abbrev pub heading_cites : Tables → (ℕ → Bool) → Text → List Rule
heading_cites ts used line =
    let cs = columns line in
    let h = heading_in line in
    rule 13 line (present origins ts && present editors ts)
    ∷ rule 14 line (not (used h.number))
    ∷ rule 15 (written cs 2) (known_editor ts h.editor1)
    ∷ rule 15 (written cs 4) (known_origin ts h.origin)
    ∷ []

unfoldable pub heading_of : Tables → (ℕ → Bool) → Text → Verdict Heading
unfolding has_id
heading_of ts used line = checked (heading_written line ++ heading_cites ts used line) (heading_in line)

abbrev pub edge_count : List Node → ℕ
edge_count [] = 0
edge_count (n ∷ ns) = length n.secondary + edge_count ns

abbrev pub edges_of : Sentence → ℕ
edges_of s = edge_count s.words + edge_count s.phrases

-- ---- #EOS number

-- is there a phrase of this number?
abbrev pub listed : List Node → ℕ → Bool
listed ps n = any (λ (p : Node). eqb n p.number) ps

-- phrases are numbered from 500 without a gap
abbrev pub gapless : List Node → Bool
gapless ps = every (listed ps) (counting phrase_number.lowest (length ps))

-- each parent other than 0 is a phrase of the sentence, secondary parents too
abbrev pub parented : List Node → Node → Bool
parented ps n = (eqb n.parent 0 || listed ps n.parent) && every (λ (e : Edge). listed ps e.parent) n.secondary

-- the sentence's number again, with no gap in its phrases and no parent absent
unfoldable pub end_rules : ℕ → Bool → Bool → Text → List Rule
end_rules itself no_gap no_absent line =
    let cs = columns line in
    let its_number = number sentence_number (written cs 1).bytes in
    rule 7 line (eqb (length cs) 2)
    ∷ rule 8 (written cs 1) (good its_number)
    ∷ rule 20 line (eqb (value its_number) itself)
    ∷ rule 21 line no_gap
    ∷ rule 22 line no_absent
    ∷ []

-- ---- what a line needs to know of the sentence in front of it

pub record SoFar : Type 0 where
  pub number : ℕ
  pub words : ℕ
  pub no_phrase : Bool
  pub edges : ℕ
  pub given_before : ℕ → Bool
  pub no_gap : Bool
  pub no_absent : Bool

abbrev pub so_far : Sentence → SoFar
so_far s =
    record {
      number = s.heading.number;
      words = length s.words;
      no_phrase = empty s.phrases;
      edges = edges_of s;
      given_before = listed s.phrases;
      no_gap = gapless s.phrases;
      no_absent = every (parented s.phrases) (s.words ++ s.phrases);
    }

-- #EOS number
unfoldable pub end_of : SoFar → Text → Verdict ℕ
unfolding end_rules
end_of s line = checked (end_rules s.number s.no_gap s.no_absent line) s.number
