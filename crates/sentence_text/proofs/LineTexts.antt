-- The lines of a sentence part by part: what the parts are together is document 01's line.
use Prim.Native.Nat.{ℕ, ◌-◌, ◌*◌, ◌<◌}
use native.Mathlib.Omega.{arith}
use mathlib.Core.Path.{◌≡◌, refl, sym, ap, ◌∙◌}
use mathlib.Core.List.{List, [], ◌∷◌, ◌++◌, map, append_assoc, append-nil}
use lib.ListN.{length, get_or, drop, length-drop}
use lib.Seq.{length-take-le}
use mathlib.Core.Bool.{not}
use Rattle.rules.specs.Lists.{bytes, pick, empty, counting, joined}
use Rattle.rules.specs.Bytes.{newline}
use Rattle.rules.specs.Numbers.{phrase_number}
use Rattle.rules.specs.SheetFields.{number_place, editor_place, date_place, origin_place, remark_start, remark_length}
use Rattle.rules.specs.SheetFields.{word_start, word_length, tag_start, morphology_start, edge_start, comment_start, field_place}
use Rattle.rules.specs.Sheets.{EdgeRecord}
use Rattle.rules.specs.Tidy.{space, tab, digits_of, id_digits, keyword_line, commented, edge_columns, node_line, heading_line, sentence_text}
use Rattle.sentence_sheet.specs.FlatEdges.{edge_width}
use Rattle.printing.specs.Further.{further, text_of}
use Rattle.printing.specs.Fields.{field_text, FieldInside}
use Rattle.printing.proofs.LineLaws.{parted_is, further_append}
use Rattle.sentence_text.specs.EdgesRead.{edges_from, together, own_edges, first_from, edge_in, edges_text}
use Rattle.sentence_text.specs.SheetRead.{node_text, parent_text, node_with, name_text, columns_text, rest_text, numbers_text, words_counted, phrases_counted, edges_counted, edges_on_sheet, node_in, sentence_in}
use Rattle.sentence_text.specs.Readable.{TextInside}
use Rattle.sentence_text.proofs.FirstEdges.{own_along}

-- ---- a node's first column

field_length : (file sheet : List ℕ) (start len : ℕ) → FieldInside file sheet start len → length (field_text file sheet start len) ≡ get_or sheet len 0
field_length file sheet start len inside =
    let from = get_or sheet start 0 in
    length-take-le (get_or sheet len 0) (drop from file) (omega (arith, length-drop from file, inside.inside))

chosen : (xs ys : List ℕ) → 0 < length xs → xs ≡ pick (not (empty xs)) xs ys
chosen [] ys h = absurd (omega arith)
chosen (x ∷ xs) ys h = refl

left_out : (xs ys : List ℕ) → length xs ≡ 0 → ys ≡ pick (not (empty xs)) xs ys
left_out [] ys h = refl
left_out (x ∷ xs) ys h = absurd (omega (arith, h))

module _ (file sheet : List ℕ) (k : ℕ) where
  abbrev word_text : List ℕ
  word_text = node_text file sheet word_start k

  pub word_text_lem : TextInside file sheet word_start k → 0 < get_or sheet (field_place word_length k) 0 → word_text ≡ name_text file sheet k
  unfolding name_text
  word_text_lem inside h = chosen word_text (35 ∷ digits_of k) (omega (arith, field_length file sheet (field_place word_start k) (field_place word_length k) inside))

  pub phrase_text : (len : ℕ) → len ≡ field_place word_length k → TextInside file sheet word_start k → get_or sheet len 0 ≡ 0
      → 35 ∷ digits_of k ≡ name_text file sheet k
  unfolding name_text
  phrase_text len p inside h =
      left_out word_text (35 ∷ digits_of k)
      (field_length file sheet (field_place word_start k) (field_place word_length k) inside ∙ ap (λ (i : ℕ). get_or sheet i 0) (sym p) ∙ h)

  -- ---- columns one behind the other

  pub columns_text_lem : (tab ∷ node_text file sheet tag_start k) ++ (tab ∷ node_text file sheet morphology_start k) ++ (tab ∷ node_text file sheet edge_start k)
      ++ (tab ∷ parent_text sheet k)
      ≡ columns_text file sheet k
  unfolding columns_text
  columns_text_lem = simp (append_assoc, append-nil)

  pub rest_text_lem : further tab (commented (text_of (node_text file sheet comment_start k))) ++ (newline ∷ []) ≡ rest_text file sheet k
  unfolding rest_text
  rest_text_lem = refl

pub numbers_text_lem : (sheet : List ℕ)
    → bytes "#BOS" ++ (space ∷ digits_of (get_or sheet number_place 0)) ++ (space ∷ []) ++ id_digits (get_or sheet editor_place 0) ++ (space ∷ digits_of (get_or sheet date_place 0))
    ++ (space ∷ digits_of (get_or sheet origin_place 0))
    ≡ numbers_text sheet
unfolding numbers_text
numbers_text_lem sheet = simp (append_assoc, append-nil)

-- ---- lines

pub heading_text : (file sheet : List ℕ)
    → numbers_text sheet ++ further space (commented (text_of (field_text file sheet remark_start remark_length))) ++ (newline ∷ []) ≡ heading_line (sentence_in file sheet [])
unfolding numbers_text sentence_in
heading_text file sheet =
    let four = digits_of (get_or sheet number_place 0) ∷ id_digits (get_or sheet editor_place 0) ∷ digits_of (get_or sheet date_place 0) ∷ digits_of (get_or sheet origin_place 0) ∷ [] in
    let note = commented (text_of (field_text file sheet remark_start remark_length)) in
    ap (λ (l : List ℕ). l ++ (newline ∷ []))
    (append_assoc (bytes "#BOS") (further space four) (further space note)
    ∙ ap (λ (l : List ℕ). bytes "#BOS" ++ l) (further_append space four note))
    ∙ parted_is space (bytes "#BOS") (four ++ note)

pub node_text_lem : (file sheet list : List ℕ) (k first : ℕ) → first ≡ first_from 0 k (edges_on_sheet sheet list)
    → name_text file sheet k ++ columns_text file sheet k
    ++ edges_text (map (edge_in file) (together k (edges_from list (edge_width * first) (edges_counted sheet - first))))
    ++ rest_text file sheet k
    ≡ node_line (node_in file sheet (edges_on_sheet sheet list) k)
unfolding name_text columns_text rest_text node_in
node_text_lem file sheet list k first f =
    let es = map (edge_in file) (own_edges k (edges_on_sheet sheet list)) in
    let n = node_with file sheet k es in
    let four = n.tag.bytes ∷ n.morphology.bytes ∷ n.edge.bytes ∷ digits_of n.parent ∷ [] in
    let note = commented n.comment in
    let name = name_text file sheet k in
    let before = name ++ further tab four ++ edges_text es in
    ap (λ (i : ℕ). name_text file sheet k ++ columns_text file sheet k ++ edges_text (map (edge_in file) (together k (edges_from list (edge_width * i) (edges_counted sheet - i)))) ++ rest_text file sheet k) f
    ∙ ap (λ (l : List EdgeRecord). name ++ further tab four ++ edges_text (map (edge_in file) l) ++ rest_text file sheet k) (own_along list (edges_counted sheet) k)
    ∙ sym (append_assoc before (further tab note) (newline ∷ []))
    ∙ ap (λ (l : List ℕ). l ++ (newline ∷ []))
    (ap (λ (l : List ℕ). l ++ further tab note) (append_assoc name (further tab four) (edges_text es))
    ∙ append_assoc name (further tab four ++ edges_text es) (further tab note)
    ∙ ap (λ (l : List ℕ). name ++ l)
    (ap (λ (l : List ℕ). l ++ further tab note) (further_append tab four (joined (map edge_columns es)))
    ∙ further_append tab (four ++ joined (map edge_columns es)) note))
    ∙ parted_is tab name (four ++ joined (map edge_columns es) ++ note)

-- ---- all lines

pub sentence_text_lem : (file sheet list : List ℕ)
    → heading_line (sentence_in file sheet [])
    ++ joined (map node_line (map (node_in file sheet (edges_on_sheet sheet list)) (counting 0 (words_counted sheet))))
    ++ joined (map node_line (map (node_in file sheet (edges_on_sheet sheet list)) (counting phrase_number.lowest (phrases_counted sheet))))
    ++ keyword_line (bytes "#EOS" ∷ digits_of (get_or sheet number_place 0) ∷ [])
    ≡ sentence_text (sentence_in file sheet list)
unfolding sentence_in
sentence_text_lem file sheet list = refl
