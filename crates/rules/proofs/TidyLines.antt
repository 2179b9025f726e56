-- The tidy text of an accepted file is, line by line, what document 01 says: the lines of what the file contains, in their order,
-- parted by one space or one tab. By the columns of each line, and one step along rows, tables, nodes and sentences.
use Prim.Native.String.{String}
use Prim.Native.Nat.{ℕ, suc}
use mathlib.Core.Path.{◌≡◌, refl, sym, ap, ◌∙◌, subst}
use mathlib.Core.Bool.{true, false, not}
use Rattle.std.specs.Prelude.{Option, None, Some}
use mathlib.Core.List.{List, [], ◌∷◌, ◌++◌, map}
use lib.ListN.{take}
use Rattle.rules.specs.Lists.{bytes, empty, every, same, joined, sorted, Each}
use Rattle.rules.specs.Bytes.{percents}
use Rattle.rules.specs.Texts.{given}
use Rattle.rules.specs.Tables.{Tables, Row}
use Rattle.rules.specs.Sentences.{Node, Sentence}
use Rattle.rules.specs.Reading.{Handed}
use Rattle.rules.specs.Survey.{Survey, survey_of}
use Rattle.rules.specs.Meaning.{bare_node, node_number, sentence_number_of, meant_sentence, meant_tables, meant_sentences, meaning_of}
use Rattle.rules.specs.GrammarNumbers.{sentence_range}
use Rattle.rules.specs.GrammarContent.{Content}
use Rattle.rules.specs.GrammarSurvey.{row_read, table_read, edge_read, node_read, head_read, sentence_read, content_of}
use Rattle.rules.specs.Grammar.{Contains}
use Rattle.rules.specs.Tidy.{digits_of, id_digits, commented, flagged, second_text, edge_columns, keyword_line, row_line, table_name, table_text, tables_text, node_name, node_line, heading_line, sentence_text, tidy_text}
use Rattle.rules.specs.Writing.{tidy_of, WritingOutcome}
use Rattle.rules.specs.WritingRule.{GrantedWriting}
use Rattle.rules.specs.TidyLines.{Saying, the_text, the_phrase, Says, tidy_comment, tidy_flag, tidy_second, tidy_edge, tidy_row, with_title, tidy_table, tidy_tables, tidy_node, tidy_word, tidy_phrase, tidy_head, with_number, tidy_sentence, tidy_lines}
use Rattle.rules.specs.TidyOrder.{WrittenTidily}
use Rattle.rules.proofs.Conjunctions.{and_left, every_first}
use Rattle.rules.proofs.PrintedLines.{black, solid, field}
use Rattle.rules.proofs.EachElement.{each_then, each_map, each_mapped_then}
use Rattle.rules.proofs.Sorting.{all_sorted}
use Rattle.rules.proofs.HandedKept.{handed_kept}
use Rattle.rules.proofs.NodesKept.{tail_columns, WordKept, PhraseKept}
use Rattle.rules.proofs.SentencesKept.{bare_sentence, SentenceKept}
use Rattle.rules.proofs.SameFields.{Any, each_any}
use Rattle.rules.proofs.NumbersDiffer.{numbers_differ}
use Rattle.rules.proofs.AcceptedExactly.{as_written}
use Rattle.rules.proofs.TidyColumns.{digits_numeral, id_says, phrase_says, all_more, comment_says, flag_says, second_says, edges_say, Lined, no_line, one_line, then_lines, lines_of}
use Rattle.rules.proofs.TidyOrder.{tidy_content, tidy_order}

-- ---- lines of keywords

title_line : (keyword : String) (n : ℕ) → Lined (with_title keyword n ∷ []) (keyword_line (bytes keyword ∷ table_name n ∷ []))
title_line keyword n = one_line (with_title keyword n) (bytes keyword ∷ table_name n ∷ []) (refl, (refl, tt))

number_line : (keyword : String) (n : ℕ) → Lined (with_number keyword n ∷ []) (keyword_line (bytes keyword ∷ digits_of n ∷ []))
number_line keyword n = one_line (with_number keyword n) (bytes keyword ∷ digits_of n ∷ []) (refl, (digits_numeral n, tt))

-- ---- tables

row_line_lem : (n : ℕ) (r : Row) → Lined (tidy_row n (row_read r) ∷ []) (row_line n r)
row_line_lem n r =
    let further =
    all_more (tidy_flag n r.flag) (tidy_second n r.second.bytes) (flagged n r) (second_text n r) (flag_says n r) (second_says n r) in
    one_line (tidy_row n (row_read r)) (id_digits r.id1 ∷ r.first.bytes ∷ flagged n r ++ second_text n r)
    (id_says r.id1, (refl, further))

table_lines : (n : ℕ) (o : Option (List Row)) → Lined (tidy_table n (table_read o)) (table_text n o)
table_lines n None = no_line
table_lines n (Some rs) =
    let rows = lines_of Any row_read (tidy_row n) (row_line n) (λ r a. row_line_lem n r) rs (each_any rs) in
    then_lines (then_lines (title_line "#BOT" n) rows) (title_line "#EOT" n)

tables_lines : (n : ℕ) (ts : Tables) → Lined (tidy_tables n (map table_read ts)) (tables_text n ts)
tables_lines n [] = no_line
tables_lines n (t ∷ ts) = then_lines (table_lines n t) (tables_lines (suc n) ts)

-- ---- sentences

head_line : (s : Sentence) → Lined (tidy_head (head_read s.heading) ∷ []) (heading_line s)
head_line s =
    let h = s.heading in
    one_line (tidy_head (head_read h))
    (bytes "#BOS" ∷ digits_of h.number ∷ id_digits h.editor1 ∷ digits_of h.date ∷ digits_of h.origin ∷ commented h.comment) (
      refl,
      (
        digits_numeral h.number,
        (
          id_says h.editor1,
          (digits_numeral h.date, (digits_numeral h.origin, comment_says h.comment)),
        ),
      ),
    )

node_line_lem : (format : ℕ) (first : Saying) (n : Node) → Says first (node_name n)
    → Lined (tidy_node format first (node_read n) ∷ []) (node_line n)
node_line_lem format first n s =
    let pairs = joined (map edge_columns n.secondary) in
    let further =
    all_more (joined (map tidy_edge (map edge_read n.secondary))) (tidy_comment n.comment.bytes) pairs (commented n.comment)
    (edges_say n.secondary) (comment_says n.comment) in
    one_line (tidy_node format first (node_read n))
    (node_name n ∷ n.tag.bytes ∷ n.morphology.bytes ∷ n.edge.bytes ∷ digits_of n.parent ∷ pairs ++ commented n.comment)
    (s, (refl, (refl, (refl, (digits_numeral n.parent, further)))))

-- a word is given, a phrase has none
abbrev Wordy : Node → Type 0
Wordy n = given n.word ≡ true

abbrev Wordless : Node → Type 0
Wordless n = given n.word ≡ false

word_line : (format : ℕ) (n : Node) → Wordy n → Lined (tidy_word format (node_read n) ∷ []) (node_line n)
word_line format n w = node_line_lem format (the_text n.word.bytes) n (rw w)

phrase_line : (format : ℕ) (n : Node) → Wordless n → Lined (tidy_phrase format (node_read n) ∷ []) (node_line n)
phrase_line format n w = node_line_lem format (the_phrase n.number) n (rw w (phrase_says n.number))

record Named (s : Sentence) : Type 0 where
  words : Each Wordy s.words
  phrases : Each Wordless s.phrases

sentence_lines : (format : ℕ) (s : Sentence) → Named s → Lined (tidy_sentence format (sentence_read s)) (sentence_text s)
sentence_lines format s k =
    let words = lines_of Wordy node_read (tidy_word format) node_line (word_line format) s.words k.words in
    let phrases = lines_of Wordless node_read (tidy_phrase format) node_line (phrase_line format) s.phrases k.phrases in
    then_lines (then_lines (then_lines (head_line s) words) phrases) (number_line "#EOS" s.heading.number)

sentences_lines : (format : ℕ) (ss : List Sentence) → Each Named ss
    → Lined (joined (map (tidy_sentence format) (map sentence_read ss))) (joined (map sentence_text ss))
sentences_lines format [] k = no_line
sentences_lines format (s ∷ ss) k = then_lines (sentence_lines format s k.0) (sentences_lines format ss k.1)

-- ---- the words and phrases of a file

word_given : (format : ℕ) (ts : Tables) (n : Node) → WordKept format ts (bare_node n) → Wordy n
word_given format ts n k =
    let name = node_name n in
    let is_field = every_first field name (tail_columns (bare_node n)) k.node.columns in
    let is_solid = and_left (solid name) (not (same name percents)) is_field in
    sym (ap (λ (m : Node). given m.word) k.node.again) ∙ and_left (not (empty name)) (every black name) is_solid

no_word : (format : ℕ) (ts : Tables) (n : Node) → PhraseKept format ts (bare_node n) → Wordless n
no_word format ts n k = ap (λ (m : Node). given m.word) (sym k.node.again)

sentence_named : (format : ℕ) (ts : Tables) (s : Sentence) → SentenceKept format ts (bare_sentence s) → Named s
sentence_named format ts s k =
    record {
      words = each_mapped_then (WordKept format ts) Wordy bare_node (word_given format ts) s.words k.part.words;
      phrases = each_mapped_then (PhraseKept format ts) Wordless bare_node (no_word format ts) s.phrases k.part.phrases;
    }

abbrev AllNamed : Survey → Type 0
AllNamed v = Each (λ (h : Handed). Named h.sentence) v.handed

all_named : (file : List ℕ) → AllNamed (survey_of file)
all_named file = handed_kept (λ v s. Named s) (λ v s k. sentence_named v.format (meant_tables v.tables) s k) file

meant_named : (s : Sentence) → Named s → Named (meant_sentence s)
meant_named s k =
    record {
      words = each_map bare_node Wordy s.words k.words;
      phrases = each_map bare_node Wordless (sorted node_number s.phrases) (all_sorted node_number Wordless s.phrases k.phrases);
    }

sentences_named : (v : Survey) → AllNamed v → Each Named (meant_sentences v.handed)
sentences_named v k =
    let meant : Handed → Sentence = λ h. meant_sentence h.sentence in
    all_sorted sentence_number_of Named (map meant v.handed)
    (each_map meant Named v.handed (each_then _ (λ (h : Handed). Named (meant h)) (λ h n. meant_named h.sentence n) v.handed k))

-- ---- the whole text

survey_lines : (v : Survey) → AllNamed v → Lined (tidy_lines (tidy_content v)) (tidy_text (meaning_of v))
unfolding tidy_text meaning_of
survey_lines v k =
    then_lines (then_lines (number_line "#FORMAT" v.format) (tables_lines 0 (meant_tables v.tables)))
    (sentences_lines v.format (meant_sentences v.handed) (sentences_named v k))

-- of what is read of any file, so of every file that is accepted
pub tidy_lines_lem : (file : List ℕ) → WrittenTidily (content_of (survey_of file)) (tidy_of file)
unfolding tidy_of
tidy_lines_lem file =
    record {
      in_order = tidy_content (survey_of file);
      ordered = tidy_order (survey_of file) (numbers_differ file);
      consists = (survey_lines (survey_of file) (all_named file)).consists;
    }

-- and of what the grammar says that a file contains
pub tidy_as_said : (file : List ℕ) (content : Content) → Contains sentence_range file content → WrittenTidily content (tidy_of file)
tidy_as_said file content c = subst (λ (d : Content). WrittenTidily d (tidy_of file)) (as_written file content c) (tidy_lines_lem file)

-- and of what a granted writing has written
pub written_tidily : (file output : List ℕ) (o : WritingOutcome) → GrantedWriting file output o
    → WrittenTidily (content_of (survey_of file)) (take o.answer.written o.output)
written_tidily file output o g = subst (WrittenTidily (content_of (survey_of file))) (sym g.text) (tidy_lines_lem file)
