-- Document 02, request 4: which columns of a line break the rule of a number, for the numbers that point at a column: 8, 10, 15,
-- 18 and 19. Column by column, in no order; a text that runs to the line's end is one too.
use Rattle.std.specs.Prelude.{ℕ, ◌≤◌, ◌<◌, ◌≡◌, false, List, [], ◌∷◌, length, eqb}
use Rattle.rules.specs.Lists.{pick, bytes}
use Rattle.rules.specs.Texts.{Text, reads, trim, in_front, behind, behind_hash}
use Rattle.rules.specs.Columns.{Column, columns, column, written, text, fields}
use Rattle.rules.specs.Numbers.{phrase_number, origin_id, number, signed_id, value}
use Rattle.rules.specs.Tables.{Tables, origins, editors, word_tags, node_tags, known}
use Rattle.rules.specs.Sentences.{Sentence, known_editor, known_origin}
use Rattle.rules.specs.Pairs.{Pair, secondary_parent}
use Rattle.rules.specs.Nodes.{parent_field, its_tag, its_morphology, its_edge, its_parent, its_pairs}
use Rattle.rules.specs.Keywords.{first_column, starts_phrase}
use Rattle.rules.specs.Phases.{Phase, start, top, in_table, in_sentence, behind_sentence}
use Rattle.rules.specs.GrammarNames.{comment_sign, no_tag, of_morphtag, of_edgetag, of_secedgetag}
use Rattle.rules.specs.GrammarNumbers.{Range, NumberIn, format_range, sentence_range, date_range, origin_range, phrase_range, IdIn, ParentWritten, tag_bytes}
use Rattle.rules.specs.GrammarLines.{In}

-- the numbers of refusal that point at a column
abbrev pub pointing : List ℕ
pointing = 8 ∷ 10 ∷ 15 ∷ 18 ∷ 19 ∷ []

abbrev pub NoNumber : Range → Text → Type 0
NoNumber r t = ((v : ℕ) × NumberIn r t.bytes v) → ⊥

abbrev pub NoId : Text → Type 0
NoId t = ((i : ℕ) × IdIn t.bytes i) → ⊥

abbrev pub Longer : ℕ → Text → Type 0
Longer limit t = limit < length t.bytes

-- #FORMAT number, #EOS number
pub data KeywordBreaks (r : Range) (cs : List Column) : ℕ → Text → Type 0 where
  its_number : NoNumber r (written cs 1) → KeywordBreaks r cs 8 (written cs 1)

-- #BOS number editor date origin
pub data HeadingBreaks (ts : Tables) (cs : List Column) : ℕ → Text → Type 0 where
  its_number : NoNumber sentence_range (written cs 1) → HeadingBreaks ts cs 8 (written cs 1)
  editor : NoId (written cs 2) → HeadingBreaks ts cs 8 (written cs 2)
  date : NoNumber date_range (written cs 3) → HeadingBreaks ts cs 8 (written cs 3)
  origin : NoNumber origin_range (written cs 4) → HeadingBreaks ts cs 8 (written cs 4)
  unknown_editor : known_editor ts (value (signed_id (written cs 2).bytes)) ≡ false → HeadingBreaks ts cs 15 (written cs 2)
  unknown_origin : known_origin ts (value (number origin_id (written cs 4).bytes)) ≡ false → HeadingBreaks ts cs 15 (written cs 4)

-- ---- rows

-- the name ends at the first two adjacent percent signs
abbrev pub origin_name : List Column → Text
origin_name cs = trim (in_front (column cs 0).after)

abbrev pub origin_comment : List Column → Text
origin_comment cs = trim (behind (column cs 0).after)

pub data OriginBreaks (cs : List Column) : ℕ → Text → Type 0 where
  id : NoNumber origin_range (written cs 0) → OriginBreaks cs 8 (written cs 0)
  name : Longer 128 (origin_name cs) → OriginBreaks cs 10 (origin_name cs)
  comment : Longer 160 (origin_comment cs) → OriginBreaks cs 10 (origin_comment cs)

abbrev pub full_name : List Column → Text
full_name cs = trim (column cs 1).after

pub data EditorBreaks (cs : List Column) : ℕ → Text → Type 0 where
  id : NoId (written cs 0) → EditorBreaks cs 8 (written cs 0)
  login : Longer 16 (written cs 1) → EditorBreaks cs 10 (written cs 1)
  full_name_lem : Longer 40 (full_name cs) → EditorBreaks cs 10 (full_name cs)

-- behind the tag, in WORDTAG behind the flag
abbrev pub row_description : ℕ → List Column → Text
row_description which cs = trim (pick (eqb which word_tags) (column cs 2) (column cs 1)).after

pub data TagBreaks (which : ℕ) (cs : List Column) : ℕ → Text → Type 0 where
  id : NoId (written cs 0) → TagBreaks which cs 8 (written cs 0)
  long_tag : Longer (tag_bytes which) (written cs 1) → TagBreaks which cs 10 (written cs 1)
  tag_is_sign : (written cs 1).bytes ≡ comment_sign → TagBreaks which cs 10 (written cs 1)
  flag : which ≡ word_tags → ((written cs 2).bytes ≡ bytes "Y" → ⊥) → ((written cs 2).bytes ≡ bytes "N" → ⊥) → TagBreaks which cs 10 (written cs 2)
  long_description : Longer 80 (row_description which cs) → TagBreaks which cs 10 (row_description which cs)

abbrev pub RowBreaks : ℕ → List Column → ℕ → Text → Type 0
RowBreaks which cs n t = pick (eqb which origins) (OriginBreaks cs n t) (pick (eqb which editors) (EditorBreaks cs n t) (TagBreaks which cs n t))

-- ---- words and phrases; tags is the table of the node's own tag, fs are the columns in front of the comment

module _ (format : ℕ) (ts : Tables) (tags itself : ℕ) (fs : List Text) where
  pub data NodeBreaks : ℕ → Text → Type 0 where
    parent : (((v : ℕ) × ParentWritten (text fs (parent_field format)).bytes v) → ⊥) → NodeBreaks 8 (text fs (parent_field format))
    secondary_parent_lem : (p : Pair) → In p (its_pairs format fs) → NoNumber phrase_range p.parent → NodeBreaks 8 p.parent
    long_tag : Longer (tag_bytes tags) (its_tag format fs) → NodeBreaks 10 (its_tag format fs)
    long_morphology : Longer (tag_bytes of_morphtag) (its_morphology format fs) → NodeBreaks 10 (its_morphology format fs)
    long_edge : Longer (tag_bytes of_edgetag) (its_edge format fs) → NodeBreaks 10 (its_edge format fs)
    long_label : (p : Pair) → In p (its_pairs format fs) → Longer (tag_bytes of_secedgetag) p.label → NodeBreaks 10 p.label
    unknown_tag_lem : known ts tags (its_tag format fs) ≡ false → NodeBreaks 18 (its_tag format fs)
    unknown_morphology : known ts of_morphtag (its_morphology format fs) ≡ false → NodeBreaks 18 (its_morphology format fs)
    unknown_edge : known ts of_edgetag (its_edge format fs) ≡ false → NodeBreaks 18 (its_edge format fs)
    unknown_label : (p : Pair) → In p (its_pairs format fs) → known ts of_secedgetag p.label ≡ false → NodeBreaks 18 p.label
    -- parent 0 needs the edge --; another is larger than the node's number
    unbound : value (its_parent format fs) ≡ 0 → ((its_edge format fs).bytes ≡ no_tag → ⊥) → NodeBreaks 19 (text fs (parent_field format))
    not_larger : 1 ≤ value (its_parent format fs) → value (its_parent format fs) ≤ itself → NodeBreaks 19 (text fs (parent_field format))
    -- a secondary parent is another phrase
    to_itself : (p : Pair) → In p (its_pairs format fs) → value (secondary_parent p) ≡ itself → NodeBreaks 19 p.parent

-- # with its number at once after it
abbrev pub phrase_itself : List Text → ℕ
phrase_itself fs = value (number phrase_number (behind_hash (text fs 0)).bytes)

pub data PhraseBreaks (format : ℕ) (ts : Tables) (fs : List Text) : ℕ → Text → Type 0 where
  its_number : NoNumber phrase_range (behind_hash (text fs 0)) → PhraseBreaks format ts fs 8 (text fs 0)
  as_node : {n : ℕ} {t : Text} → NodeBreaks format ts node_tags (phrase_itself fs) fs n t → PhraseBreaks format ts fs n t

abbrev pub SentenceBreaks : ℕ → Tables → Sentence → Text → ℕ → Text → Type 0
SentenceBreaks format ts s line n t =
    let cs = columns line in
    pick (reads (bytes "#EOS") (first_column line)) (KeywordBreaks sentence_range cs n t)
    (pick (starts_phrase (first_column line)) (PhraseBreaks format ts (fields cs) n t) (NodeBreaks format ts word_tags (length s.words) (fields cs) n t))

-- ---- by where the line stands: this column of the line breaks the rule of this number
abbrev pub Breaks : Phase → Text → ℕ → Text → Type 0
Breaks start line n t = KeywordBreaks format_range (columns line) n t
Breaks (top p) line n t = HeadingBreaks p.tables (columns line) n t
Breaks (in_table p which rs) line n t = RowBreaks which (columns line) n t
Breaks (in_sentence p s) line n t = SentenceBreaks p.format p.tables s line n t
Breaks (behind_sentence p) line n t = HeadingBreaks p.tables (columns line) n t
