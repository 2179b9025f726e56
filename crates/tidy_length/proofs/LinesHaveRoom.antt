-- A line that is taken has room for its tidy line: keyword lines, headings, words and phrases. From the columns and the comment
-- that the line says.
use Prim.Native.Nat.{ℕ, suc, ◌≤◌}
use native.Mathlib.Omega.{arith}
use mathlib.Core.Path.{◌≡◌, refl, ap, subst}
use mathlib.Core.Bool.{not}
use mathlib.Core.List.{List, [], ◌∷◌, ◌++◌}
use lib.ListN.{length}
use Rattle.rules.specs.Lists.{pick, bytes, empty}
use Rattle.rules.specs.Sentences.{Node, Sentence}
use Rattle.rules.specs.Tidy.{digits_of, id_digits, space, tab, keyword_line, commented, node_name, node_line, heading_line}
use Rattle.rules.specs.GrammarColumns.{Begins, no_column, Columns, Parted}
use Rattle.rules.specs.AsWritten.{LineSaid, HeadSaid, columns_behind, WordSaid, PhraseSaid}
use Rattle.tidy_length.proofs.ColumnRoom.{columns_append, parted_length, begins_room, begins_given, begins_parted, comment_room, said_room}

-- ---- keyword lines

pub columns_room : (l c : List ℕ) (cs : List (List ℕ)) → Columns l (c ∷ cs) → length (keyword_line (c ∷ cs)) ≤ suc (length l)
columns_room l c cs (rest, b, w) = omega (arith, parted_length space c cs, begins_room b)

-- ---- nodes

-- whatever its first column
node_room : (l c : List ℕ) (n : Node) → node_name n ≡ c → LineSaid l (c ∷ columns_behind n) n.comment.bytes → length (node_line n) ≤ suc (length l)
node_room l c n e s =
    let name : length (node_name n) ≡ length c = ap length e in
    omega (arith, parted_length tab (node_name n) (columns_behind n ++ commented n.comment), columns_append (columns_behind n) (commented n.comment), said_room l c (columns_behind n) n.comment s)

name_given : (n : Node) → 1 ≤ length n.word.bytes → node_name n ≡ n.word.bytes
name_given n h = by n.word.bytes h
  where
    by : (xs : List ℕ) → 1 ≤ length xs → pick (not (empty xs)) xs (35 ∷ digits_of n.number) ≡ xs
    by [] h = absurd (omega arith)
    by (b ∷ bs) h = refl

pub word_room : (n : Node) (l : List ℕ) → WordSaid n l → length (node_line n) ≤ suc (length l)
word_room n l s = node_room l n.word.bytes n (name_given n (begins_given s.begins)) s

pub phrase_room : (n : Node) (l : List ℕ) → PhraseSaid n l → length (node_line n) ≤ suc (length l)
phrase_room n l s = node_room l (35 ∷ digits_of n.number) n (rw s.no_word) s.columns

-- ---- headings

nothing_before : {l rest : List ℕ} → Begins l [] rest → l ≡ rest
nothing_before no_column = refl

pub head_room : (s : Sentence) (l : List ℕ) → HeadSaid s.heading l → length (heading_line s) ≤ suc (length l)
head_room s l h =
    let p : Parted h.comment.rest = subst Parted (nothing_before h.comment.begins) (begins_parted h.columns) in
    let same_rest : length h.rest ≡ length h.comment.rest = ap length (nothing_before h.comment.begins) in
    omega (
      arith,
      parted_length space (bytes "#BOS") (digits_of s.heading.number ∷ id_digits s.heading.editor1 ∷ digits_of s.heading.date ∷ digits_of s.heading.origin ∷ commented s.heading.comment),
      begins_room h.columns,
      comment_room s.heading.comment h.comment.rest p h.comment.comment,
    )
