-- Document 01, "Tidy text".
use Rattle.std.specs.Prelude.{ℕ, zero, suc, ◌+◌, ◌/◌, ◌%◌, List, [], ◌∷◌, ◌++◌, map, get_or, ltb, eqb, Option, None, Some}
use Rattle.rules.specs.Lists.{pick, bytes, joined}
use Rattle.rules.specs.Bytes.{newline, percents}
use Rattle.rules.specs.Texts.{Text, given}
use Rattle.rules.specs.Tables.{Tables, Row, origins, word_tags, table_names}
use Rattle.rules.specs.Sentences.{Edge, Node, Sentence}
use Rattle.rules.specs.Meaning.{Meaning}

-- ---- numbers as they are written

-- the digits of n, of which there are at most k + 1
unfoldable pub digits_within : ℕ → ℕ → List ℕ
digits_within zero n = (48 + n % 10) ∷ []
digits_within (suc k) n =
    let more = digits_within k (n / 10) ++ ((48 + n % 10) ∷ []) in
    pick (ltb n 10) ((48 + n % 10) ∷ []) more

unfoldable pub digits_of : ℕ → List ℕ
unfolding digits_within
digits_of n = digits_within n n

-- an id from -1 on, of which one more is given
abbrev pub id_digits : ℕ → List ℕ
id_digits zero = bytes "-1"
id_digits (suc i) = digits_of i

-- ---- lines: keyword lines use one space between columns, rows and node lines one tab

abbrev pub space : ℕ
space = 32

abbrev pub tab : ℕ
tab = 9

unfoldable pub parted : ℕ → List (List ℕ) → List ℕ
parted by [] = newline ∷ []
parted by (x ∷ []) = x ++ (newline ∷ [])
parted by (x ∷ y ∷ xs) = x ++ (by ∷ parted by (y ∷ xs))

abbrev pub keyword_line : List (List ℕ) → List ℕ
keyword_line xs = parted space xs

abbrev pub tabbed_line : List (List ℕ) → List ℕ
tabbed_line xs = parted tab xs

-- a comment, if there is one, is %% and its text
abbrev pub commented : Text → List (List ℕ)
commented t = pick (given t) (percents ∷ t.bytes ∷ []) []

-- ---- tables

abbrev pub flag_text : ℕ → List ℕ
flag_text f = pick (eqb f 1) (bytes "Y") (bytes "N")

abbrev pub flagged : ℕ → Row → List (List ℕ)
flagged n r = pick (eqb n word_tags) (flag_text r.flag ∷ []) []

-- an origin's comment behind %%, in the other tables the second text as it is
abbrev pub second_text : ℕ → Row → List (List ℕ)
second_text n r = pick (eqb n origins) (commented r.second) (r.second.bytes ∷ [])

abbrev pub row_line : ℕ → Row → List ℕ
row_line n r = tabbed_line (id_digits r.id1 ∷ r.first.bytes ∷ flagged n r ++ second_text n r)

abbrev pub table_name : ℕ → List ℕ
table_name n = get_or table_names n []

abbrev pub table_text : ℕ → Option (List Row) → List ℕ
table_text n None = []
table_text n (Some rs) =
    keyword_line (bytes "#BOT" ∷ table_name n ∷ []) ++ joined (map (row_line n) rs) ++ keyword_line (bytes "#EOT" ∷ table_name n ∷ [])

-- the tables from the n-th on
abbrev pub tables_text : ℕ → Tables → List ℕ
tables_text n [] = []
tables_text n (t ∷ ts) = table_text n t ++ tables_text (suc n) ts

-- ---- sentences

abbrev pub node_name : Node → List ℕ
node_name n = pick (given n.word) n.word.bytes (35 ∷ digits_of n.number)

abbrev pub edge_columns : Edge → List (List ℕ)
edge_columns e = e.label.bytes ∷ digits_of e.parent ∷ []

abbrev pub node_line : Node → List ℕ
node_line n =
    tabbed_line
    (node_name n ∷ n.tag.bytes ∷ n.morphology.bytes ∷ n.edge.bytes ∷ digits_of n.parent
    ∷ joined (map edge_columns n.secondary) ++ commented n.comment)

abbrev pub heading_line : Sentence → List ℕ
heading_line s =
    keyword_line
    (bytes "#BOS" ∷ digits_of s.heading.number ∷ id_digits s.heading.editor1 ∷ digits_of s.heading.date
    ∷ digits_of s.heading.origin ∷ commented s.heading.comment)

abbrev pub sentence_text : Sentence → List ℕ
sentence_text s =
    heading_line s ++ joined (map node_line s.words) ++ joined (map node_line s.phrases)
    ++ keyword_line (bytes "#EOS" ∷ digits_of s.heading.number ∷ [])

unfoldable pub tidy_text : Meaning → List ℕ
unfolding digits_of parted
tidy_text m =
    keyword_line (bytes "#FORMAT" ∷ digits_of m.format ∷ []) ++ tables_text 0 m.tables ++ joined (map sentence_text m.sentences)
