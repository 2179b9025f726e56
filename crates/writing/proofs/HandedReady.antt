-- Every sentence that the index of a file finds is ready to be read, printed and cleared: its words are numbered from 0 and its
-- phrases from 500 without a gap, so the rest of its sheet is zero.
use Prim.Native.Nat.{ℕ, zero, suc, ◌+◌, ◌≤◌, ◌<◌}
use native.Mathlib.Omega.{arith}
use mathlib.Core.Path.{◌≡◌, refl, sym, ap, ◌∙◌}
use mathlib.Core.Logic.{◌⊎◌, inl, inr}
use mathlib.Core.Bool.{Bool, true, false}
use Rattle.std.specs.Prelude.{Some}
use mathlib.Core.List.{List, [], ◌∷◌, map}
use lib.ListN.{length, get_or}
use lib.Dec.{eqb}
use borrow.Author.Tests.{ne_eqb}
use Rattle.rules.specs.Lists.{pick, member, counting, sorted, Each}
use Rattle.rules.specs.Numbers.{edge_limit}
use Rattle.rules.specs.Sentences.{Node, Sentence, edge_count, listed}
use Rattle.rules.specs.Reading.{Handed}
use Rattle.rules.specs.SheetFields.{edges_place, node_room}
use Rattle.rules.specs.Sheets.{nodes, sentence_sheet}
use Rattle.rules.specs.Survey.{survey_of}
use Rattle.rules.specs.Index.{beginning, beginnings, index_size}
use Rattle.rules.specs.SentenceFrom.{sentence_from}
use Rattle.rules.specs.Meaning.{node_number, meant_sentence}
use Rattle.rules.specs.Tidy.{sentence_text}
use Rattle.rules.specs.Layout.{SentenceLaid}
use Rattle.rules.proofs.EachElement.{each_then, each_both, each_of, each_map}
use Rattle.rules.proofs.Sorting.{any_sorted}
use Rattle.rules.proofs.NoGap.{listed_member}
use Rattle.rules.proofs.SentencesKept.{edges_append}
use Rattle.rules.proofs.FieldsOnSheet.{no_field}
use Rattle.rules.proofs.LaidOut.{laid_out}
use Rattle.rules.proofs.FromThere.{from_there}
use Rattle.sentence_sheet.specs.FlatEdges.{edges_among, flat_edges}
use Rattle.sentences.specs.UsedRoom.{Unused, UsedOnly}
use Rattle.sentences.proofs.Growing.{listed_apart, flat_behind}
use Rattle.sentence_text.specs.Printable.{Printable}
use Rattle.sentence_text.proofs.EdgesReadBack.{length_flat}
use Rattle.sentence_text.proofs.HandedPrintable.{handed_printable}
use Rattle.writing.specs.TextParts.{sentence_long}
use Rattle.writing.specs.Ready.{ReadyToPrint, Entry}
use Rattle.writing.proofs.TextLengths.{handed_short}

-- ---- numbers that no node has

abbrev Outside : ℕ → ℕ → ℕ → Type 0
Outside n from count = (n < from) ⊎ (from + count ≤ n)

not_counted : (n from count : ℕ) → Outside n from count → member n (counting from count) ≡ false
not_counted n from zero o = refl
not_counted n from (suc count) o =
    rw (ne_eqb n from (λ e. away o e)) (not_counted n (suc from) count (further o))
  where
    away : Outside n from (suc count) → n ≡ from → ⊥
    away (inl h) e = omega (arith, h, e)
    away (inr h) e = omega (arith, h, e)

    further : Outside n from (suc count) → Outside n (suc from) count
    further (inl h) = inl (omega (arith, h))
    further (inr h) = inr (omega (arith, h))

-- nodes with the numbers that are counted
not_listed : (ns : List Node) (n from count : ℕ) → map node_number ns ≡ counting from count → Outside n from count → listed ns n ≡ false
not_listed ns n from count e o = listed_member ns n ∙ ap (member n) e ∙ not_counted n from count o

-- ---- what a sentence left unused

module _ (file : List ℕ) (s : Sentence) (p : Printable file s) (laid : SentenceLaid s) where
  abbrev sheet : List ℕ
  sheet = sentence_sheet s

  no_node : (k : ℕ) → Outside k 0 (length s.words) → Outside k 500 (length s.phrases) → listed (nodes s) k ≡ false
  no_node k a b =
      listed_apart s.words s.phrases k (not_listed s.words k 0 (length s.words) p.in_order a)
      (sym (any_sorted node_number (λ (q : Node). eqb k q.number) s.phrases)
      ∙ not_listed (sorted node_number s.phrases) k 500 (length s.phrases) p.no_gap b)

  unused : (k : ℕ) → k < node_room → listed (nodes s) k ≡ false → Unused sheet k
  unused k h e field l = no_field s field k l h e

  edge_count_lem : get_or sheet edges_place 0 ≡ edge_count (nodes s)
  unfolding sentence_sheet
  edge_count_lem = sym (edges_append s.words s.phrases)

  few : edge_count (nodes s) ≤ edge_limit
  few = omega (arith, p.few_edges, edges_append s.words s.phrases)

  used_only : UsedOnly sheet (flat_edges (edges_among (nodes s)))
  used_only =
      record {
        sheet_size = laid.size;
        edges_size = length_flat (nodes s) few;
        words = omega (arith, laid.words, p.few_words);
        phrases = omega (arith, laid.phrases, p.few_phrases);
        few = omega (arith, edge_count_lem, few);
        no_word = λ k a b. unused k (omega (arith, b)) (no_node k (inr (omega (arith, a, laid.words))) (inl b));
        no_phrase = λ k a b. unused k b (no_node k (inr (omega (arith, a, p.few_words))) (inr (omega (arith, a, laid.phrases))));
        no_edge = λ k a. flat_behind (nodes s) k (omega (arith, a, edge_count_lem));
      }

-- ---- every sentence handed out

abbrev There : List ℕ → Handed → Type 0
There file h = sentence_from file h.sentence.start ≡ Some h.sentence

module _ (file : List ℕ) where
  abbrev handed : List Handed
  handed = (survey_of file).handed

  abbrev IsShort : Handed → Type 0
  IsShort h = length (sentence_text (meant_sentence h.sentence)) ≤ sentence_long

  each_ready : Each (λ (h : Handed). ReadyToPrint file h.sentence) handed
  each_ready =
      let printable = handed_printable file in
      let few = each_then (λ (h : Handed). Printable file h.sentence) (λ (h : Handed). length h.sentence.phrases ≤ 500) (λ h p. p.few_phrases) handed printable in
      each_then (λ (h : Handed). Printable file h.sentence × (SentenceLaid h.sentence × IsShort h)) (λ (h : Handed). ReadyToPrint file h.sentence)
      (λ h a. record { printable = a.0; used = used_only file h.sentence a.0 a.1.0; short = a.1.1 })
      handed (each_both _ _ handed printable (each_both _ _ handed (laid_out file).sentences (handed_short file few)))

  entry_of : (n : ℕ) (hs : List Handed) → Each (λ (h : Handed). There file h × ReadyToPrint file h.sentence) hs → Entry file (beginning hs n)
  entry_of n [] a = tt
  entry_of n (h ∷ hs) a = by (eqb n h.sentence.heading.number) (entry_of n hs a.1)
    where
      by : (t : Bool) → Entry file (beginning hs n) → Entry file (pick t (suc h.sentence.start) (beginning hs n))
      by true more = record { sentence = h.sentence; its = a.0.0; ready = a.0.1 }
      by false more = more

  pub entries_ready : Each (Entry file) (beginnings 0 index_size handed)
  unfolding beginnings
  entries_ready =
      each_map (beginning handed) (Entry file) (counting 0 index_size)
      (each_of (λ (n : ℕ). Entry file (beginning handed n)) (λ n. entry_of n handed (each_both (There file) _ handed (from_there file) each_ready)) (counting 0 index_size))
