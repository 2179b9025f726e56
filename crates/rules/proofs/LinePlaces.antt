-- What a line is taken for has its texts in the line: rows, the comment of a heading, nodes. Of a line that stands in a
-- file they stand in the file.
use Prim.Native.Nat.{ℕ, zero, suc}
use native.Mathlib.Omega.{arith}
use mathlib.Core.Path.{◌≡◌, refl, sym, ap, ◌∙◌}
use mathlib.Core.Logic.{inl, inr}
use mathlib.Core.Bool.{Bool, true, false}
use Rattle.std.specs.Prelude.{Option, None, Some}
use mathlib.Core.List.{List, [], ◌∷◌, ◌++◌, append_assoc}
use lib.ListN.{length, take, drop, get_or}
use lib.Seq.{take_at, drop_at}
use lib.Dec.{eqb}
use Rattle.rules.specs.Lists.{pick, Each}
use Rattle.rules.specs.Bytes.{percents}
use Rattle.rules.specs.Texts.{Text, no_text, given, reads, trim, front_bytes, behind_from, in_front, behind}
use Rattle.rules.specs.Columns.{Column, columns, column, text, fields, comment}
use Rattle.rules.specs.Rules.{Rule, broken, unless, checked}
use Rattle.rules.specs.Tables.{Tables, Row, origins, editors, word_tags}
use Rattle.rules.specs.Rows.{origin_row, editor_row, tag_row, row_of}
use Rattle.rules.specs.Sentences.{Edge, Node, SoFar}
use Rattle.rules.specs.Pairs.{Pair, pairs, as_edge}
use Rattle.rules.specs.Nodes.{its_pairs, pairs_field, node_of, word_of, phrase_of}
use Rattle.rules.specs.Keywords.{first_column}
use Rattle.rules.specs.Phases.{Answer, refuse, next}
use Rattle.rules.specs.Places.{LiesIn, RowLies, NodeLies}
use Rattle.rules.proofs.EachElement.{each_then, each_map}
use Rattle.rules.proofs.Same.{same_eq}
use Rattle.rules.proofs.LineFit.{LineFit}
use Rattle.rules.proofs.AnyLine.{begun_by}
use Rattle.rules.proofs.FirstColumns.{reads_given}
use Rattle.rules.proofs.Steps.{first_there}
use Rattle.rules.proofs.TextPlaces.{Part, Loose, Placed, part_part, placed_part, lies, trim_placed, front_part, behind_loose, ColumnIn, columns_in}

-- ---- texts of a line

module _ (at : ℕ) (bs : List ℕ) where
  abbrev Ins : List Column → Type 0
  Ins cs = Each (ColumnIn at bs) cs

  pub written_placed : (cs : List Column) (n : ℕ) → Ins cs → Placed at bs (column cs n).text
  written_placed [] n k = inl refl
  written_placed (c ∷ cs) zero k = inr (k.0.text, k.0.some)
  written_placed (c ∷ cs) (suc n) k = written_placed cs n k.1

  pub after_loose : (cs : List Column) (n : ℕ) → Ins cs → Loose at bs (column cs n).after
  after_loose [] n k = inl refl
  after_loose (c ∷ cs) zero k = inr k.0.after
  after_loose (c ∷ cs) (suc n) k = after_loose cs n k.1

  ins_drop : (n : ℕ) (cs : List Column) → Ins cs → Ins (drop n cs)
  ins_drop zero cs k = k
  ins_drop (suc n) [] k = tt
  ins_drop (suc n) (c ∷ cs) k = ins_drop n cs k.1

  comment_placed : (cs : List Column) → Ins cs → Placed at bs (comment cs)
  unfolding comment
  comment_placed [] k = inl refl
  comment_placed (c ∷ cs) k = by (reads percents c.text) (comment_placed cs k.1)
    where
      by : (t : Bool) → Placed at bs (comment cs) → Placed at bs (pick t (trim c.after) (comment cs))
      by true p = trim_placed at bs c.after (inr k.0.after)
      by false p = p

  fields_placed : (cs : List Column) → Ins cs → Each (Placed at bs) (fields cs)
  unfolding fields
  fields_placed [] k = tt
  fields_placed (c ∷ cs) k = by (reads percents c.text) (fields_placed cs k.1)
    where
      by : (t : Bool) → Each (Placed at bs) (fields cs) → Each (Placed at bs) (pick t [] (c.text ∷ fields cs))
      by true p = tt
      by false p = (inr (k.0.text, k.0.some), p)

  text_placed : (fs : List Text) (n : ℕ) → Each (Placed at bs) fs → Placed at bs (text fs n)
  text_placed [] n k = inl refl
  text_placed (f ∷ fs) zero k = k.0
  text_placed (f ∷ fs) (suc n) k = text_placed fs n k.1

  drop_placed : (n : ℕ) (fs : List Text) → Each (Placed at bs) fs → Each (Placed at bs) (drop n fs)
  drop_placed zero fs k = k
  drop_placed (suc n) [] k = tt
  drop_placed (suc n) (f ∷ fs) k = drop_placed n fs k.1

  labels_placed : (fs : List Text) → Each (Placed at bs) fs → Each (λ (p : Pair). Placed at bs p.label) (pairs fs)
  unfolding pairs
  labels_placed [] k = tt
  labels_placed (l ∷ []) k = tt
  labels_placed (l ∷ p ∷ fs) k = (k.0, labels_placed fs k.1.1)

  -- in front of the two percent signs behind a column, and behind them
  pub front_placed : (t : Text) → Loose at bs t → Placed at bs (trim (in_front t))
  unfolding front_bytes
  front_placed t (inl e) = trim_placed at bs (in_front t) (inl (ap in_front e))
  front_placed t (inr p) = trim_placed at bs (in_front t) (inr (part_part at bs t (in_front t) p (front_part t)))

  pub behind_placed : (t : Text) → Loose at bs t → Placed at bs (trim (behind t))
  unfolding behind_from
  behind_placed t (inl e) = trim_placed at bs (behind t) (inl (ap behind e))
  behind_placed t (inr p) = trim_placed at bs (behind t) (by (behind_loose t))
    where
      by : Loose t.start t.bytes (behind t) → Loose at bs (behind t)
      by (inl e) = inl e
      by (inr q) = inr (part_part at bs t (behind t) p q)

-- what is made of a line by its rules: if they hold, what they grant
pub if_granted : (P : Answer → Type 0) → ((r : Rule) → P (refuse r)) → {A : Type 0} (f : A → Answer) (rs : List Rule) (a : A) → P (f a) → P (next f (checked rs a))
unfolding checked
if_granted P bad f rs a p = by (broken rs)
  where
    by : (o : Option Rule) → P (next f (unless o a))
    by None = p
    by (Some r) = bad r

-- ---- of a line that stands in a file

module _ (file : List ℕ) (line : Text) (stands : Part 0 file line) where
  lies_too : (t : Text) → Placed line.start line.bytes t → LiesIn file t
  lies_too t p = lies file t (placed_part 0 file line t stands p)

  abbrev cs : List Column
  cs = columns line

  ins : Each (ColumnIn line.start line.bytes) cs
  ins = columns_in line.start line.bytes

  column_lies : (n : ℕ) → LiesIn file (column cs n).text
  column_lies n = lies_too (column cs n).text (written_placed line.start line.bytes cs n ins)

  rest_lies : (n : ℕ) → LiesIn file (trim (column cs n).after)
  rest_lies n = lies_too (trim (column cs n).after) (trim_placed line.start line.bytes (column cs n).after (after_loose line.start line.bytes cs n ins))

  field_lies : (n : ℕ) → LiesIn file (text (fields cs) n)
  field_lies n = lies_too (text (fields cs) n) (text_placed line.start line.bytes (fields cs) n (fields_placed line.start line.bytes cs ins))

  node_lies : (format its_number : ℕ) (word : Text) → LiesIn file word → NodeLies file (node_of format (fields cs) its_number word (comment cs))
  unfolding pairs
  node_lies format its_number word w =
      let fs = fields_placed line.start line.bytes cs ins in
      record {
        word = w;
        tag = field_lies 1;
        morphology = field_lies 2;
        edge = field_lies 3;
        comment = lies_too (comment cs) (comment_placed line.start line.bytes cs ins);
        labels = each_map as_edge (λ (e : Edge). LiesIn file e.label) (its_pairs format (fields cs))
            (each_then (λ (p : Pair). Placed line.start line.bytes p.label) (λ (p : Pair). LiesIn file p.label) (λ p k. lies_too p.label k) (its_pairs format (fields cs))
            (labels_placed line.start line.bytes (drop (pairs_field format) (fields cs)) (drop_placed line.start line.bytes (pairs_field format) (fields cs) fs)));
      }

  module _ (P : Answer → Type 0) (bad : (r : Rule) → P (refuse r)) where
    module _ (f : Row → Answer) (good : (r : Row) → RowLies file r → P (f r)) where
      origin_lies : (rs : List Row) → P (next f (origin_row rs line))
      unfolding origin_row
      origin_lies rs =
          let after = (column cs 0).after in
          let loose = after_loose line.start line.bytes cs 0 ins in
          if_granted P bad f _ _
          (good _ (record {
            first = lies_too (trim (in_front after)) (front_placed line.start line.bytes after loose);
            second = lies_too (trim (behind after)) (behind_placed line.start line.bytes after loose);
          }))

      editor_lies : (rs : List Row) → P (next f (editor_row rs line))
      unfolding editor_row
      editor_lies rs = if_granted P bad f _ _ (good _ (record { first = column_lies 1; second = rest_lies 1 }))

      tag_lies : (n : ℕ) (rs : List Row) → P (next f (tag_row n rs line))
      unfolding tag_row
      tag_lies n rs = if_granted P bad f _ _ (good _ (record { first = column_lies 1; second = by (eqb n word_tags) }))
        where
          by : (t : Bool) → LiesIn file (trim (pick t (column cs 2) (column cs 1)).after)
          by true = rest_lies 2
          by false = rest_lies 1

      pub row_lies : (n : ℕ) (rs : List Row) → P (next f (row_of n rs line))
      row_lies n rs = by (eqb n origins) (eqb n editors)
        where
          by : (t u : Bool) → P (next f (pick t (origin_row rs line) (pick u (editor_row rs line) (tag_row n rs line))))
          by true u = origin_lies rs
          by false true = editor_lies rs
          by false false = tag_lies n rs

    module _ (f : Node → Answer) (good : (n : Node) → NodeLies file n → P (f n)) where
      pub word_lies : (format : ℕ) (ts : Tables) (s : SoFar) → P (next f (word_of format ts s line))
      unfolding word_of
      word_lies format ts s =
          if_granted P bad f _ _
          (good _ (node_lies format s.words (text (fields cs) 0) (field_lies 0)))

      pub phrase_lies : (format : ℕ) (ts : Tables) (s : SoFar) → P (next f (phrase_of format ts s line))
      unfolding phrase_of
      phrase_lies format ts s = if_granted P bad f _ _ (good _ (node_lies format _ no_text (record { found = refl; absent = λ z. refl })))

  pub heading_lies : LiesIn file (comment (drop 5 cs))
  heading_lies = lies_too (comment (drop 5 cs)) (comment_placed line.start line.bytes (drop 5 cs) (ins_drop line.start line.bytes 5 cs ins))

  -- a line whose first column is a keyword begins with it
  pub keyword_lies : LineFit line.bytes → (word : List ℕ) → given (record { start = 0; bytes = word }) ≡ true → reads word (first_column line) ≡ true → take (length word) (drop line.start file) ≡ word
  keyword_lies fit word g e =
      let o = first_there line fit (reads_given word (first_column line) g e) in
      let b = begun_by line.start line.bytes o.starts in
      let same_first : b.first ≡ o.first = ap (λ (l : List Column). get_or l 0 b.first) (sym b.form ∙ o.form) in
      let its : b.first.text.bytes ≡ word = ap (λ (c : Column). c.text.bytes) same_first ∙ sym (ap (λ (t : Text). t.bytes) o.column) ∙ same_eq (first_column line).bytes word e in
      let whole : line.bytes ≡ word ++ b.first.after.bytes = b.whole ∙ ap (λ (w : List ℕ). w ++ b.first.after.bytes) its in
      let at : length stands.front ≡ line.start = omega (arith, stands.place) in
      ap (λ (l : List ℕ). take (length word) (drop line.start l)) stands.parts
      ∙ ap (take (length word)) (drop_at stands.front (line.bytes ++ stands.back) line.start at ∙ ap (λ (l : List ℕ). l ++ stands.back) whole ∙ append_assoc word b.first.after.bytes stands.back)
      ∙ take_at word (b.first.after.bytes ++ stands.back) (length word) refl
