-- The sentence sheet and the list of secondary edges read back: the sentence whose texts stand in the file where they say.
-- Document 01, "The sheets". Texts are taken without their places.
use Rattle.std.specs.Prelude.{ℕ, ◌+◌, List, [], ◌∷◌, ◌++◌, map, get_or}
use Rattle.rules.specs.Lists.{bytes, counting}
use Rattle.rules.specs.Bytes.{newline}
use Rattle.rules.specs.Numbers.{phrase_number}
use Rattle.rules.specs.Sentences.{Edge, Node, Heading, Sentence}
use Rattle.rules.specs.SheetFields.{number_place, editor_place, date_place, origin_place, remark_start, remark_length, words_place, phrases_place, edges_place}
use Rattle.rules.specs.SheetFields.{word_start, tag_start, morphology_start, edge_start, parent_place, comment_start, field_place}
use Rattle.rules.specs.Sheets.{EdgeRecord}
use Rattle.rules.specs.Tidy.{space, tab, digits_of, id_digits, commented, node_name}
use Rattle.printing.specs.Further.{further, text_of}
use Rattle.printing.specs.Fields.{field_text}
use Rattle.sentence_text.specs.EdgesRead.{edges_from, own_edges, edge_in}

-- a text of a node, by the field of its start, behind which stands that of its length
abbrev pub node_text : List ℕ → List ℕ → ℕ → ℕ → List ℕ
node_text file sheet field k = field_text file sheet (field_place field k) (field_place (field + 1) k)

abbrev pub parent_text : List ℕ → ℕ → List ℕ
parent_text sheet k = digits_of (get_or sheet (field_place parent_place k) 0)

abbrev pub node_with : List ℕ → List ℕ → ℕ → List Edge → Node
node_with file sheet k es =
    record {
      number = k;
      word = text_of (node_text file sheet word_start k);
      tag = text_of (node_text file sheet tag_start k);
      morphology = text_of (node_text file sheet morphology_start k);
      edge = text_of (node_text file sheet edge_start k);
      parent = get_or sheet (field_place parent_place k) 0;
      secondary = es;
      comment = text_of (node_text file sheet comment_start k);
    }

unfoldable pub node_in : List ℕ → List ℕ → List EdgeRecord → ℕ → Node
node_in file sheet es k = node_with file sheet k (map (edge_in file) (own_edges k es))

abbrev pub heading_on_sheet : List ℕ → List ℕ → Heading
heading_on_sheet file sheet =
    record {
      number = get_or sheet number_place 0;
      editor1 = get_or sheet editor_place 0;
      date = get_or sheet date_place 0;
      origin = get_or sheet origin_place 0;
      comment = text_of (field_text file sheet remark_start remark_length);
    }

-- ---- parts of lines

-- the first column of a node's line
unfoldable pub name_text : List ℕ → List ℕ → ℕ → List ℕ
name_text file sheet k = node_name (node_with file sheet k [])

-- tag, morphology, edge and parent
unfoldable pub columns_text : List ℕ → List ℕ → ℕ → List ℕ
columns_text file sheet k =
    further tab
    (node_text file sheet tag_start k ∷ node_text file sheet morphology_start k ∷ node_text file sheet edge_start k ∷ parent_text sheet k ∷ [])

-- the comment, if there is one, and the newline
unfoldable pub rest_text : List ℕ → List ℕ → ℕ → List ℕ
rest_text file sheet k = further tab (commented (text_of (node_text file sheet comment_start k))) ++ (newline ∷ [])

-- #BOS and four numbers
unfoldable pub numbers_text : List ℕ → List ℕ
numbers_text sheet =
    bytes "#BOS"
    ++ further space
    (digits_of (get_or sheet number_place 0) ∷ id_digits (get_or sheet editor_place 0) ∷ digits_of (get_or sheet date_place 0)
    ∷ digits_of (get_or sheet origin_place 0) ∷ [])

-- ---- the whole

-- how many words, phrases and secondary edges there are
abbrev pub words_counted : List ℕ → ℕ
words_counted sheet = get_or sheet words_place 0

abbrev pub phrases_counted : List ℕ → ℕ
phrases_counted sheet = get_or sheet phrases_place 0

abbrev pub edges_counted : List ℕ → ℕ
edges_counted sheet = get_or sheet edges_place 0

abbrev pub edges_on_sheet : List ℕ → List ℕ → List EdgeRecord
edges_on_sheet sheet list = edges_from list 0 (edges_counted sheet)

unfoldable pub sentence_in : List ℕ → List ℕ → List ℕ → Sentence
sentence_in file sheet list =
    record {
      start = 0;
      heading = heading_on_sheet file sheet;
      words = map (node_in file sheet (edges_on_sheet sheet list)) (counting 0 (words_counted sheet));
      phrases = map (node_in file sheet (edges_on_sheet sheet list)) (counting phrase_number.lowest (phrases_counted sheet));
    }
