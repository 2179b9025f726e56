-- What the lines of a tidy text are, apart from how they are printed. Document 01, "Tidy text": keyword lines use one space
-- between columns, rows and node lines one tab; a comment is tab, %%, tab, text, on #BOS with spaces instead. Of a content whose
-- parts stand in the order of the tidy text.
use Prim.Native.String.{String}
use Rattle.std.specs.Prelude.{ℕ, suc, ◌≡◌, ◌⊎◌, List, [], ◌∷◌, ◌++◌, map, get_or, eqb, Option, None, Some}
use Rattle.rules.specs.Lists.{pick, bytes, joined}
use Rattle.rules.specs.GrammarNumbers.{Numeral}
use Rattle.rules.specs.GrammarNames.{end_of_line, comment_sign, titles, of_origin, of_wordtag}
use Rattle.rules.specs.GrammarContent.{RowContent, EdgeContent, NodeContent, HeadContent, SentenceContent, Content}

-- ---- a line: its columns, and the one byte that stands between two of them

-- what a column says: a text; a number; an id, of which one more is given; # with a phrase's number at once after it
pub data Saying : Type 0 where
  the_text : List ℕ → Saying
  the_number : ℕ → Saying
  the_id : ℕ → Saying
  the_phrase : ℕ → Saying

abbrev pub Says : Saying → List ℕ → Type 0
Says (the_text xs) c = c ≡ xs
Says (the_number n) c = Numeral c n
Says (the_id i) c = ((c ≡ bytes "-1") × (i ≡ 0)) ⊎ ((n : ℕ) × Numeral c n × (i ≡ suc n))
Says (the_phrase n) c = (digits : List ℕ) × (c ≡ bytes "#" ++ digits) × Numeral digits n

-- nothing stands in front of the first column, and nothing behind the last
abbrev pub PartedBy : ℕ → List Saying → List ℕ → Type 0
PartedBy byte [] line = line ≡ []
PartedBy byte (s ∷ []) line = Says s line
PartedBy byte (s ∷ t ∷ ss) line = (c : List ℕ) × (rest : List ℕ) × (line ≡ c ++ (byte ∷ rest)) × Says s c × PartedBy byte (t ∷ ss) rest

pub record TidyLine : Type 0 where
  pub between : ℕ
  pub columns : List Saying

abbrev pub spaced : List Saying → TidyLine
spaced ss = record { between = 32; columns = ss }

abbrev pub tabbed : List Saying → TidyLine
tabbed ss = record { between = 9; columns = ss }

-- the text is these lines and no others
abbrev pub Consists : List TidyLine → List ℕ → Type 0
Consists [] text = text ≡ []
Consists (l ∷ ls) text =
    (line : List ℕ) × (rest : List ℕ) × (text ≡ line ++ (end_of_line ∷ rest)) × PartedBy l.between l.columns line × Consists ls rest

-- ---- the lines of a content

-- a comment, if there is one, is %% and its text
abbrev pub tidy_comment : List ℕ → List Saying
tidy_comment [] = []
tidy_comment (b ∷ bs) = the_text comment_sign ∷ the_text (b ∷ bs) ∷ []

-- for WORDTAG a flag
abbrev pub tidy_flag : ℕ → ℕ → List Saying
tidy_flag which flag = pick (eqb which of_wordtag) (the_text (pick (eqb flag 1) (bytes "Y") (bytes "N")) ∷ []) []

-- an origin's comment, which may be missing; a full name or a description
abbrev pub tidy_second : ℕ → List ℕ → List Saying
tidy_second which second = pick (eqb which of_origin) (tidy_comment second) (the_text second ∷ [])

abbrev pub tidy_row : ℕ → RowContent → TidyLine
tidy_row which r = tabbed (the_id r.id1 ∷ the_text r.first ∷ tidy_flag which r.flag ++ tidy_second which r.second)

abbrev pub with_title : String → ℕ → TidyLine
with_title keyword which = spaced (the_text (bytes keyword) ∷ the_text (get_or titles which []) ∷ [])

abbrev pub tidy_table : ℕ → Option (List RowContent) → List TidyLine
tidy_table which None = []
tidy_table which (Some rs) = with_title "#BOT" which ∷ map (tidy_row which) rs ++ (with_title "#EOT" which ∷ [])

-- of the tables from one on
abbrev pub tidy_tables : ℕ → List (Option (List RowContent)) → List TidyLine
tidy_tables which [] = []
tidy_tables which (t ∷ ts) = tidy_table which t ++ tidy_tables (suc which) ts

abbrev pub tidy_edge : EdgeContent → List Saying
tidy_edge e = the_text e.label ∷ the_number e.parent ∷ []

-- a word's or a phrase's line, in a file of a format
abbrev pub tidy_node : ℕ → Saying → NodeContent → TidyLine
tidy_node format first n =
    tabbed
    (first ∷ the_text n.tag ∷ the_text n.morphology ∷ the_text n.edge ∷ the_number n.parent
    ∷ joined (map tidy_edge n.secondary) ++ tidy_comment n.comment)

abbrev pub tidy_word : ℕ → NodeContent → TidyLine
tidy_word format n = tidy_node format (the_text n.word) n

abbrev pub tidy_phrase : ℕ → NodeContent → TidyLine
tidy_phrase format n = tidy_node format (the_phrase n.number) n

abbrev pub tidy_head : HeadContent → TidyLine
tidy_head h =
    spaced
    (the_text (bytes "#BOS") ∷ the_number h.number ∷ the_id h.editor1 ∷ the_number h.date ∷ the_number h.origin
    ∷ tidy_comment h.comment)

abbrev pub with_number : String → ℕ → TidyLine
with_number keyword n = spaced (the_text (bytes keyword) ∷ the_number n ∷ [])

abbrev pub tidy_sentence : ℕ → SentenceContent → List TidyLine
tidy_sentence format s =
    tidy_head s.heading ∷ map (tidy_word format) s.words ++ map (tidy_phrase format) s.phrases
    ++ (with_number "#EOS" s.heading.number ∷ [])

abbrev pub tidy_lines : Content → List TidyLine
tidy_lines c = with_number "#FORMAT" c.format ∷ tidy_tables 0 c.tables ++ joined (map (tidy_sentence c.format) c.sentences)
