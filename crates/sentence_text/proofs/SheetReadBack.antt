-- A sentence's sheet and list of secondary edges can be read, and what is read back is the sentence, in order and without
-- places.
use Prim.Native.Nat.{ℕ, ◌+◌, ◌*◌, ◌≤◌, ◌<◌}
use native.Mathlib.Nat.{zero-add}
use native.Mathlib.Omega.{arith}
use mathlib.Core.Path.{◌≡◌, refl, sym, ap, ap₂, ◌∙◌}
use mathlib.Core.Bool.{Bool, true, false}
use mathlib.Core.List.{List, [], ◌∷◌, map}
use lib.ListN.{length, get_or}
use lib.Dec.{eqb}
use Rattle.rules.specs.Lists.{pick, counting, sorted, Each}
use Rattle.rules.specs.Texts.{Text}
use Rattle.rules.specs.Numbers.{edge_limit}
use Rattle.rules.specs.Sentences.{Edge, Node, Heading, Sentence, edge_count, edges_of}
use Rattle.rules.specs.SheetFields.{remark_start, remark_length, word_start, tag_start, morphology_start, edge_start, comment_start, node_width, node_room}
use Rattle.rules.specs.Sheets.{EdgeRecord, no_edge, edge_record, node_numbers, record_at, nodes, sentence_sheet, sentence_sheet_size}
use Rattle.rules.specs.Meaning.{bare_heading, bare_node, node_number, meant_sentence}
use Rattle.rules.specs.Tidy.{sentence_text}
use Rattle.rules.specs.Places.{LiesIn, NodeLies}
use Rattle.rules.specs.Layout.{SentenceLaid}
use Rattle.rules.proofs.EachElement.{each_then, each_both, each_front, each_back, each_joined}
use Rattle.rules.proofs.Sorting.{Distinct, all_sorted}
use Rattle.rules.proofs.SentencesKept.{edges_append}
use Rattle.rules.proofs.FieldsOnSheet.{field_at, FieldsStand, fields_stand}
use Rattle.rules.proofs.Rooms.{each_at}
use Rattle.rules.proofs.SentenceNumbers.{sentence_laid}
use Rattle.rules.proofs.LiesInside.{lies_inside}
use Rattle.sentence_sheet.specs.FlatEdges.{edge_width, edges_among, flat_edges}
use Rattle.sentence_text.specs.EdgesRead.{edge_record_at, edges_from, own_edges}
use Rattle.sentence_text.specs.SheetRead.{heading_on_sheet, words_counted, phrases_counted, edges_counted, edges_on_sheet, node_in, sentence_in}
use Rattle.sentence_text.specs.Readable.{TextInside, NodeInside, EdgeInside, SheetReadable}
use Rattle.sentence_text.specs.Printable.{Apart, Printable, Sheeted}
use Rattle.sentence_text.proofs.TextsInside.{text_back}
use Rattle.sentence_text.proofs.OwnEdges.{records_of, records_among, each_own}
use Rattle.sentence_text.proofs.EdgesReadBack.{edges_read_back, count_records, edge_at, length_flat}
use Rattle.sentence_text.proofs.NodesReadBack.{node_back, nodes_back}

apart_distinct : (ns : List Node) → Apart ns → Distinct node_number ns
apart_distinct [] a = tt
apart_distinct (n ∷ ns) a = (a.0, apart_distinct ns a.1)

-- ---- texts inside the file

module _ (file : List ℕ) where
  -- start and length at a field of a node's record
  abbrev Within : List ℕ → ℕ → Type 0
  Within r field = get_or r field 0 + get_or r (field + 1) 0 ≤ length file

  pub record RecordInside (r : List ℕ) : Type 0 where
    pub word : Within r word_start
    pub tag : Within r tag_start
    pub morphology : Within r morphology_start
    pub edge : Within r edge_start
    pub comment : Within r comment_start

  record_inside : (ns : List Node) (k : ℕ) → Each (NodeLies file) ns → RecordInside (record_at ns k)
  record_inside [] k a = record { word = omega arith; tag = omega arith; morphology = omega arith; edge = omega arith; comment = omega arith }
  record_inside (n ∷ ns) k a = by (eqb n.number k) (record_inside ns k a.1)
    where
      by : (t : Bool) → RecordInside (record_at ns k) → RecordInside (pick t (node_numbers n) (record_at ns k))
      by true more =
          let l = a.0 in
          record {
            word = lies_inside file n.word l.word;
            tag = lies_inside file n.tag l.tag;
            morphology = lies_inside file n.morphology l.morphology;
            edge = lies_inside file n.edge l.edge;
            comment = lies_inside file n.comment l.comment;
          }
      by false more = more

module _ (file : List ℕ) (s : Sentence) (size : length (sentence_sheet s) ≡ sentence_sheet_size) (k : ℕ) (h : k < node_room) where
  text_inside : (field : ℕ) → field + 1 < node_width → Within file (record_at (nodes s) k) field → TextInside file (sentence_sheet s) field k
  text_inside field low w =
      record {
        start_room = omega (arith, size);
        length_room = omega (arith, size);
        inside = omega (arith, field_at s field k (omega arith) h, field_at s (field + 1) k low h, w);
      }

  node_inside : Each (NodeLies file) (nodes s) → NodeInside file (sentence_sheet s) k
  node_inside lies =
      let r = record_inside file (nodes s) k lies in
      record {
        word = text_inside word_start (omega arith) r.word;
        tag = text_inside tag_start (omega arith) r.tag;
        morphology = text_inside morphology_start (omega arith) r.morphology;
        edge = text_inside edge_start (omega arith) r.edge;
        comment = text_inside comment_start (omega arith) r.comment;
      }

-- ---- edges inside the file

module _ (file : List ℕ) where
  pub record RecordSound (e : EdgeRecord) : Type 0 where
    pub child : e.child < node_room
    pub label : e.label_start + e.label_length ≤ length file

  own_sound : (child : ℕ) → child < node_room → (es : List Edge) → Each (λ (e : Edge). LiesIn file e.label) es → Each RecordSound (map (edge_record child) es)
  own_sound child low [] a = tt
  own_sound child low (e ∷ es) a = (record { child = low; label = lies_inside file e.label a.0 }, own_sound child low es a.1)

  records_sound : (ns : List Node) → Each (NodeLies file) ns → Each (λ (n : Node). n.number < node_room) ns → Each RecordSound (records_among ns)
  records_sound [] a b = tt
  records_sound (n ∷ ns) a b =
      each_joined RecordSound (records_of n) (records_among ns) (own_sound n.number b.0 n.secondary a.0.labels) (records_sound ns a.1 b.1)

  edge_inside : (ns : List Node) → edge_count ns ≤ edge_limit → Each RecordSound (records_among ns) → (i : ℕ) → i < edge_count ns
      → EdgeInside file (flat_edges (edges_among ns)) (edge_width * i)
  edge_inside ns few sound i h =
      let list = flat_edges (edges_among ns) in
      let below : i < length (records_among ns) = omega (arith, count_records ns) in
      let is : get_or (records_among ns) i no_edge ≡ edge_record_at list (0 + edge_width * i) =
      ap (λ (es : List EdgeRecord). get_or es i no_edge) (sym (edges_read_back ns)) ∙ edge_at list 0 (length (records_among ns)) i no_edge below in
      let p : 0 + edge_width * i ≡ edge_width * i = zero-add (edge_width * i) in
      let r : RecordSound (edge_record_at list (edge_width * i)) = rw (is, p) at (each_at RecordSound (records_among ns) i no_edge sound below) in
      record {
        child = r.child;
        room = omega (arith, length_flat ns few);
        label = record { start_room = omega (arith, length_flat ns few); length_room = omega (arith, length_flat ns few); inside = r.label };
      }

-- ---- the sentence

module _ (file : List ℕ) (s : Sentence) (p : Printable file s) where
  abbrev sheet : List ℕ
  sheet = sentence_sheet s

  abbrev list : List ℕ
  list = flat_edges (edges_among (nodes s))

  laid : SentenceLaid s
  laid = sentence_laid s (apart_distinct (nodes s) p.apart) p.in_room p.few_edges

  counted : edges_of s ≡ edge_count (nodes s)
  counted = sym (edges_append s.words s.phrases)

  list_count : edges_counted sheet ≡ edge_count (nodes s)
  unfolding sentence_sheet
  list_count = counted

  pub readable : SheetReadable file sheet list
  readable =
      let few : edge_count (nodes s) ≤ edge_limit = omega (arith, p.few_edges, counted) in
      record {
        size = laid.size;
        words = omega (arith, laid.words, p.few_words);
        phrases = omega (arith, laid.phrases, p.few_phrases);
        few = omega (arith, list_count);
        room = omega (arith, list_count, length_flat (nodes s) few);
        comment =
            record {
              start_room = omega (arith, laid.size);
              length_room = omega (arith, laid.size);
              inside = omega (arith, laid.comment_start, laid.comment_length, lies_inside file s.heading.comment p.comment);
            };
        each_node = λ k h. node_inside file s laid.size k h p.each_lies;
        each_edge =
            λ i h. edge_inside file (nodes s) few (records_sound file (nodes s) p.each_lies p.in_room) i (omega (arith, list_count));
      }

  edges_back : edges_on_sheet sheet list ≡ records_among (nodes s)
  edges_back = ap (edges_from list 0) (list_count ∙ sym (count_records (nodes s))) ∙ edges_read_back (nodes s)

  heading_back : heading_on_sheet file sheet ≡ bare_heading s.heading
  unfolding sentence_sheet
  heading_back =
      let h = s.heading in
      ap (λ (c : Text). record { number = h.number; editor1 = h.editor1; date = h.date; origin = h.origin; comment = c })
      (text_back file sheet remark_start remark_length h.comment p.comment refl refl)

  abbrev Back : Node → Type 0
  Back n = node_in file sheet (edges_on_sheet sheet list) n.number ≡ bare_node n

  each_node_back : Each Back (nodes s)
  each_node_back =
      each_then (λ (n : Node). NodeLies file n × (FieldsStand sheet n × (own_edges n.number (records_among (nodes s)) ≡ records_of n))) Back
      (λ n k. ap (λ (es : List EdgeRecord). node_in file sheet es n.number) edges_back ∙ node_back file sheet n k.0 k.1.0 (records_among (nodes s)) k.1.1)
      (nodes s)
      (each_both (NodeLies file) _ (nodes s) p.each_lies
      (each_both (FieldsStand sheet) _ (nodes s) (fields_stand s (apart_distinct (nodes s) p.apart) p.in_room) (each_own (nodes s) p.apart)))

  pub read_back : sentence_in file sheet list ≡ meant_sentence s
  unfolding sentence_in
  read_back =
      let node = node_in file sheet (edges_on_sheet sheet list) in
      let words : map node (counting 0 (words_counted sheet)) ≡ map bare_node s.words =
      ap (λ (n : ℕ). map node (counting 0 n)) laid.words
      ∙ nodes_back node s.words (counting 0 (length s.words)) p.in_order (each_front Back s.words s.phrases each_node_back) in
      let phrases : map node (counting 500 (phrases_counted sheet)) ≡ map bare_node (sorted node_number s.phrases) =
      ap (λ (n : ℕ). map node (counting 500 n)) laid.phrases
      ∙ nodes_back node (sorted node_number s.phrases) (counting 500 (length s.phrases)) p.no_gap
      (all_sorted node_number Back s.phrases (each_back Back s.words s.phrases each_node_back)) in
      ap₂ (λ (h : Heading) (ws : List Node). record { start = 0; heading = h; words = ws; phrases = map node (counting 500 (phrases_counted sheet)) }) heading_back words
      ∙ ap (λ (ps : List Node). record { start = 0; heading = bare_heading s.heading; words = map bare_node s.words; phrases = ps }) phrases

-- ---- a sheet and a list that hold the sentence

module _ (file : List ℕ) (s : Sentence) (sheet list : List ℕ) (h : Sheeted file s sheet list) where
  pub sheeted_readable : SheetReadable file sheet list
  sheeted_readable = rw (h.sheet_is, h.list_is) (readable file s h.printable)

  pub sheeted_back : sentence_in file sheet list ≡ meant_sentence s
  sheeted_back = ap₂ (sentence_in file) h.sheet_is h.list_is ∙ read_back file s h.printable

  pub sheeted_text : sentence_text (sentence_in file sheet list) ≡ sentence_text (meant_sentence s)
  sheeted_text = ap sentence_text sheeted_back
