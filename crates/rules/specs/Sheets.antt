-- Document 01, "The sheets".
use Rattle.std.specs.Prelude.{ℕ, suc, ◌+◌, ◌-◌, ◌*◌, ◌/◌, List, [], ◌∷◌, ◌++◌, map, length, replicate, eqb, Option, None, Some}
use Rattle.rules.specs.Lists.{pick, member, counting, joined}
use Rattle.rules.specs.Texts.{Text}
use Rattle.rules.specs.Numbers.{row_limit, edge_limit, sentence_number}
use Rattle.rules.specs.Tables.{Tables, Row, rows_of}
use Rattle.rules.specs.Sentences.{Edge, Node, Sentence, edges_of}
pub use Rattle.rules.specs.SheetFields.{leading_count, node_width, node_room, field_place}

-- unused room is zero
abbrev pub filled_up {ℓ} : {A : Type ℓ} → ℕ → A → List A → List A
filled_up size z xs = xs ++ replicate (size - length xs) z

-- start and length
abbrev pub span : Text → List ℕ
span t = t.start ∷ length t.bytes ∷ []

-- ---- the table sheet: seven counts, then for each table 256 rows of 6

abbrev pub table_count : ℕ
table_count = 7

abbrev pub row_width : ℕ
row_width = 6

-- the numbers that a table has room for
abbrev pub table_room : ℕ
table_room = row_limit * row_width

-- the place of row k of table n
abbrev pub row_place : ℕ → ℕ → ℕ
row_place n k = table_count + table_room * n + row_width * k

abbrev pub table_sheet_size : ℕ
table_sheet_size = row_place table_count 0

-- 0 absent, else rows + 1
abbrev pub count : Option (List Row) → ℕ
count None = 0
count (Some rs) = suc (length rs)

abbrev pub row_numbers : Row → List ℕ
row_numbers r = r.id1 ∷ span r.first ++ span r.second ++ (r.flag ∷ [])

unfoldable pub rows_room : List Row → List ℕ
rows_room rs = filled_up table_room 0 (joined (map row_numbers rs))

unfoldable pub table_sheet : Tables → List ℕ
unfolding rows_room
table_sheet ts = map count ts ++ joined (map (λ (t : Option (List Row)). rows_room (rows_of t)) ts)

-- ---- the seen set: number n is bit n mod 8 (bit 0 weighs 1) of byte n / 8

abbrev pub seen_set_size : ℕ
seen_set_size = suc sentence_number.highest / 8

-- a bit and those behind it, each weighing twice the one before
abbrev pub weighed : List ℕ → List ℕ → ℕ
weighed ns [] = 0
weighed ns (n ∷ bits) = pick (member n ns) 1 0 + 2 * weighed ns bits

abbrev pub seen_byte : List ℕ → ℕ → ℕ
seen_byte ns k = weighed ns (counting (8 * k) 8)

unfoldable pub seen_set : List ℕ → List ℕ
seen_set ns = map (seen_byte ns) (counting 0 seen_set_size)

-- ---- the sentence sheet: nine numbers, then 1,000 node records of 11 at the node's number

abbrev pub sentence_sheet_size : ℕ
sentence_sheet_size = leading_count + node_width * node_room

abbrev pub nodes : Sentence → List Node
nodes s = s.words ++ s.phrases

abbrev pub leading : Sentence → List ℕ
leading s =
    s.heading.number ∷ s.heading.editor1 ∷ s.heading.date ∷ s.heading.origin ∷ span s.heading.comment
    ++ (length s.words ∷ length s.phrases ∷ edges_of s ∷ [])

abbrev pub node_numbers : Node → List ℕ
node_numbers n =
    span n.word ++ span n.tag ++ span n.morphology ++ span n.edge ++ (n.parent ∷ span n.comment)

-- the record at a node's number, zeros where there is no such node
abbrev pub record_at : List Node → ℕ → List ℕ
record_at [] k = replicate node_width 0
record_at (n ∷ ns) k = let later = record_at ns k in pick (eqb n.number k) (node_numbers n) later

unfoldable pub sentence_sheet : Sentence → List ℕ
sentence_sheet s = leading s ++ joined (map (record_at (nodes s)) (counting 0 node_room))

-- ---- the secondary edges, in file order of their lines

pub record EdgeRecord : Type 0 where
  pub child : ℕ
  pub label_start : ℕ
  pub label_length : ℕ
  pub parent : ℕ

abbrev pub no_edge : EdgeRecord
no_edge = record { child = 0; label_start = 0; label_length = 0; parent = 0 }

abbrev pub edge_record : ℕ → Edge → EdgeRecord
edge_record child e =
    record { child = child; label_start = e.label.start; label_length = length e.label.bytes; parent = e.parent }

unfoldable pub edge_list : Sentence → List EdgeRecord
edge_list s = filled_up edge_limit no_edge (joined (map (λ (n : Node). map (edge_record n.number) n.secondary) (nodes s)))
