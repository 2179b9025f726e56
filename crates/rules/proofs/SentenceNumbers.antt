-- The sentence sheet and the list of secondary edges, number by number: of a sentence whose node numbers differ and are
-- below 1,000, with at most 512 edges. By the widths of what stands in front.
use Prim.Native.Nat.{ℕ, zero, suc, ◌+◌, ◌-◌, ◌*◌, ◌≤◌, ◌<◌}
use native.Mathlib.Omega.{arith}
use mathlib.Core.Path.{◌≡◌, refl, sym, ap, ap₂, ◌∙◌}
use mathlib.Core.List.{List, [], ◌∷◌, ◌++◌, map, append_assoc}
use lib.ListN.{length, get_or, replicate, length-append, length-map, length-replicate}
use lib.Seq.{get_or_at}
use Rattle.rules.specs.Lists.{counting, joined, Each}
use Rattle.rules.specs.Sentences.{Edge, Node, Sentence, edge_count, edges_of}
use Rattle.rules.specs.SheetFields.{field_place}
use Rattle.rules.specs.Sheets.{leading, node_numbers, record_at, sentence_sheet, EdgeRecord, edge_record, edge_list}
use Rattle.rules.specs.Meaning.{node_number}
use Rattle.rules.specs.Layout.{NodeLaid, edges_in, zero_record, SentenceLaid}
use Rattle.rules.proofs.EachElement.{each_then, each_of}
use Rattle.rules.proofs.Counting.{length_counting}
use Rattle.rules.proofs.Elements.{map_append}
use Rattle.rules.proofs.Sorting.{Distinct}
use Rattle.rules.proofs.SentencesKept.{edges_append}
use Rattle.rules.proofs.NodeNumbers.{InRoom}
use Rattle.rules.proofs.FieldsOnSheet.{record_wide, FieldsStand, fields_stand, no_field}
use Rattle.rules.proofs.Rooms.{behind_at, joined_around, length_joined}

-- ---- the nodes' records

module _ (s : Sentence) where
  abbrev ns : List Node
  ns = s.words ++ s.phrases

  abbrev records : List ℕ
  records = joined (map (record_at ns) (counting 0 1000))

  sheet_size : length (sentence_sheet s) ≡ 11009
  unfolding sentence_sheet
  sheet_size =
      length-append (leading s) records
      ∙ ap (λ (m : ℕ). 9 + m)
      (length_joined (record_at ns) 11 (counting 0 1000) (each_of (λ (k : ℕ). length (record_at ns k) ≡ 11) (record_wide ns) (counting 0 1000))
      ∙ ap (λ (m : ℕ). 11 * m) (length_counting 0 1000))

  node_laid : (n : Node) → FieldsStand (sentence_sheet s) n → NodeLaid (sentence_sheet s) (9 + 11 * n.number) n
  node_laid n own =
      record {
        word_start = at 0 (omega arith);
        word_length = at 1 (omega arith);
        tag_start = at 2 (omega arith);
        tag_length = at 3 (omega arith);
        morphology_start = at 4 (omega arith);
        morphology_length = at 5 (omega arith);
        edge_start = at 6 (omega arith);
        edge_length = at 7 (omega arith);
        parent = at 8 (omega arith);
        comment_start = at 9 (omega arith);
        comment_length = at 10 (omega arith);
      }
    where
      at : (j : ℕ) → j < 11 → get_or (sentence_sheet s) (9 + 11 * n.number + j) 0 ≡ get_or (node_numbers n) j 0
      at j h =
          let place : 9 + 11 * n.number + j ≡ field_place j n.number = omega arith in
          ap (λ (m : ℕ). get_or (sentence_sheet s) m 0) place ∙ own j h

-- ---- secondary edges

count_edges : (ns : List Node) → edge_count ns ≡ length (edges_in ns)
count_edges [] = refl
count_edges (n ∷ ns) = omega (arith, length-append n.secondary (edges_in ns), count_edges ns)

abbrev records_of : Node → List EdgeRecord
records_of n = map (edge_record n.number) n.secondary

length_records : (ns : List Node) → length (joined (map records_of ns)) ≡ length (edges_in ns)
length_records [] = refl
length_records (n ∷ ns) =
    length-append (records_of n) (joined (map records_of ns)) ∙ ap₂ ◌+◌ (length-map n.secondary (edge_record n.number)) (length_records ns)
    ∙ sym (length-append n.secondary (edges_in ns))

module _ (s : Sentence) where
  abbrev all : List EdgeRecord
  all = joined (map records_of (s.words ++ s.phrases))

  abbrev zeros : List EdgeRecord
  zeros = replicate (512 - length all) zero_record

  list_size : length (edges_in (s.words ++ s.phrases)) ≤ 512 → length (edge_list s) ≡ 512
  unfolding edge_list
  list_size h =
      let e : length all ≡ length (edges_in (s.words ++ s.phrases)) = length_records (s.words ++ s.phrases) in
      length-append all zeros ∙ ap (λ (m : ℕ). length all + m) (length-replicate {A = EdgeRecord} (512 - length all) zero_record)
      ∙ (let g : length all + (512 - length all) ≡ 512 = omega arith in g)

  -- the record of an edge, and those behind it
  edge_at : (front : List Node) (n : Node) (back : List Node) (before : List Edge) (e : Edge) (behind : List Edge)
      → s.words ++ s.phrases ≡ front ++ (n ∷ back) → n.secondary ≡ before ++ (e ∷ behind)
      → get_or (edge_list s) (length (edges_in front) + length before) zero_record ≡ edge_record n.number e
  unfolding edge_list
  edge_at front n back before e behind p q =
      let m = n.number in
      let xs = joined (map records_of front) in
      let ys = map (edge_record m) before in
      let rest = joined (map records_of back) ++ zeros in
      let parts : all ++ zeros ≡ xs ++ (ys ++ (edge_record m e ∷ map (edge_record m) behind ++ rest)) =
      ap (λ (l : List EdgeRecord). l ++ zeros)
      (ap (λ (l : List Node). joined (map records_of l)) p ∙ joined_around records_of front n back
      ∙ ap (λ (l : List Edge). xs ++ (map (edge_record m) l ++ joined (map records_of back))) q
      ∙ ap (λ (l : List EdgeRecord). xs ++ (l ++ joined (map records_of back))) (map_append (edge_record m) before (e ∷ behind)))
      ∙ simp append_assoc in
      ap (λ (l : List EdgeRecord). get_or l (length (edges_in front) + length before) zero_record) parts
      ∙ behind_at xs (ys ++ (edge_record m e ∷ map (edge_record m) behind ++ rest)) (length (edges_in front)) (length before) zero_record (length_records front)
      ∙ get_or_at ys (edge_record m e) (map (edge_record m) behind ++ rest) zero_record (length before) (length-map before (edge_record m))

  none_behind : (k : ℕ) → length (edges_in (s.words ++ s.phrases)) ≤ k → get_or (edge_list s) k zero_record ≡ zero_record
  unfolding edge_list
  none_behind k h =
      let e : length all ≡ length (edges_in (s.words ++ s.phrases)) = length_records (s.words ++ s.phrases) in
      let p : k ≡ length all + (k - length all) = omega arith in
      ap (λ (i : ℕ). get_or (all ++ zeros) i zero_record) p
      ∙ behind_at all zeros (length all) (k - length all) zero_record refl
      ∙ same_replicated (512 - length all) (k - length all)
    where
      same_replicated : (m i : ℕ) → get_or (replicate m zero_record) i zero_record ≡ zero_record
      same_replicated zero i = refl
      same_replicated (suc m) zero = refl
      same_replicated (suc m) (suc i) = same_replicated m i

-- ---- the whole

pub sentence_laid : (s : Sentence) → Distinct node_number (s.words ++ s.phrases) → Each InRoom (s.words ++ s.phrases) → edges_of s ≤ 512 → SentenceLaid s
unfolding sentence_sheet
sentence_laid s distinct room few =
    let ms = s.words ++ s.phrases in
    let counted : edges_of s ≡ length (edges_in ms) = sym (edges_append s.words s.phrases) ∙ count_edges ms in
    record {
      size = sheet_size s;
      number = refl;
      editor = refl;
      date = refl;
      origin = refl;
      comment_start = refl;
      comment_length = refl;
      words = refl;
      phrases = refl;
      edges = counted;
      nodes =
          each_then (FieldsStand (sentence_sheet s)) (λ (n : Node). NodeLaid (sentence_sheet s) (9 + 11 * n.number) n) (node_laid s) ms (fields_stand s distinct room);
      no_node =
          λ k j h l e.
          let place : 9 + 11 * k + j ≡ field_place j k = omega arith in
          ap (λ (m : ℕ). get_or (sentence_sheet s) m 0) place ∙ no_field s j k l h e;
      list_size = list_size s (omega (arith, counted));
      edge =
          λ front n back before e behind p q.
          let at = edge_at s front n back before e behind p q in
          record { child = ap (λ (r : EdgeRecord). r.child) at; label_start = ap (λ (r : EdgeRecord). r.label_start) at; label_length = ap (λ (r : EdgeRecord). r.label_length) at; parent = ap (λ (r : EdgeRecord). r.parent) at };
      no_edge = none_behind s;
    }
