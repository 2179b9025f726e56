-- Every sentence handed out is printable: of any file. By what is kept of it and by where its texts stand.
use Prim.Native.Nat.{ℕ, suc, ◌+◌, ◌≤◌, ◌<◌}
use native.Mathlib.Omega.{arith}
use mathlib.Core.Path.{◌≡◌, refl, sym, ap, ap₂, ◌∙◌}
use mathlib.Core.Bool.{Bool, true, false, ◌||◌}
use mathlib.Core.List.{List, [], ◌∷◌, map}
use lib.ListN.{length}
use lib.Dec.{leb, eqb}
use borrow.Author.Tests.{leb-true, eq-eqb}
use Rattle.rules.specs.Lists.{counting, sorted, Each}
use Rattle.rules.specs.Sentences.{Node, Sentence, listed}
use Rattle.rules.specs.Reading.{Handed}
use Rattle.rules.specs.Sheets.{nodes}
use Rattle.rules.specs.Survey.{Survey, survey_of}
use Rattle.rules.specs.Meaning.{bare_node, node_number, meant_tables}
use Rattle.rules.specs.Places.{LiesIn, NodeLies, HandedLies}
use Rattle.rules.proofs.Conjunctions.{both}
use Rattle.rules.proofs.EachElement.{each_then, each_both, each_joined}
use Rattle.rules.proofs.Sorting.{Distinct, Rising, all_sorted, rising_sorted, length_sorted}
use Rattle.rules.proofs.NoGap.{listed_is}
use Rattle.rules.proofs.SentencesKept.{bare_sentence, CountedFrom, SentenceKept, edges_bare, gapless_bare}
use Rattle.rules.proofs.NodeNumbers.{distinct_placed, nodes_distinct, each_numbered, numbered_apart, few_words, each_in_room}
use Rattle.rules.proofs.HandedKept.{handed_kept}
use Rattle.rules.proofs.LiesThere.{lies_there}
use Rattle.sentence_text.specs.Printable.{Apart, Printable}

-- ---- words in order

counted_order : (k : ℕ) (ws : List Node) → CountedFrom k (map bare_node ws) → map node_number ws ≡ counting k (length ws)
counted_order k [] c = refl
counted_order k (w ∷ ws) c = ap₂ (λ (n : ℕ) (ns : List ℕ). n ∷ ns) c.0 (counted_order (suc k) ws c.1)

distinct_apart : (ns : List Node) → Distinct node_number ns → Apart ns
distinct_apart [] d = tt
distinct_apart (n ∷ ns) d = (d.0, distinct_apart ns d.1)

-- ---- phrases without a gap

-- rising numbers below a bound are at most so many
rising_few : (k b : ℕ) (ns : List Node) → Rising node_number k ns → Each (λ (n : Node). n.number < b) ns → k ≤ b → k + length ns ≤ b
rising_few k b [] r a h = omega arith
rising_few k b (n ∷ ns) r a h = omega (arith, r.0, rising_few (suc n.number) b ns r.1 a.1 a.0)

-- and if they are so many, none is left out
rising_all : (k : ℕ) (ns : List Node) → Rising node_number k ns → Each (λ (n : Node). n.number < k + length ns) ns → map node_number ns ≡ counting k (length ns)
rising_all k [] r a = refl
rising_all k (n ∷ ns) r a =
    let most = rising_few (suc n.number) (k + suc (length ns)) ns r.1 a.1 a.0 in
    let first : n.number ≡ k = omega (arith, r.0, most) in
    let next : Rising node_number (suc k) ns = rw first at r.1 in
    let sum : k + suc (length ns) ≡ suc k + length ns = omega arith in
    let below : Each (λ (m : Node). m.number < suc k + length ns) ns = each_then (λ (m : Node). m.number < k + suc (length ns)) (λ (m : Node). m.number < suc k + length ns) (λ m h. omega (arith, h)) ns a.1 in
    ap₂ (λ (m : ℕ) (ms : List ℕ). m ∷ ms) first (rising_all (suc k) ns next below)

or_also : (a b : Bool) → b ≡ true → (a || b) ≡ true
or_also true b e = refl
or_also false b e = e

each_listed : (ps : List Node) → Each (λ (p : Node). listed ps p.number ≡ true) ps
each_listed [] = tt
each_listed (p ∷ ps) = (
  rw (eq-eqb p.number p.number refl),
  each_then (λ (q : Node). listed ps q.number ≡ true) (λ (q : Node). listed (p ∷ ps) q.number ≡ true)
      (λ q e. or_also (eqb q.number p.number) (listed ps q.number) e) ps (each_listed ps),
)

-- ---- a sentence handed out

module _ (v : Survey) (s : Sentence) (k : SentenceKept v.format (meant_tables v.tables) (bare_sentence s)) where
  abbrev ps : List Node
  ps = s.phrases

  below_all : Each (λ (p : Node). p.number < 500 + length ps) ps
  below_all =
      each_then (λ (p : Node). listed ps p.number ≡ true) (λ (p : Node). p.number < 500 + length ps)
      (λ p e.
      let inside = both (leb 500 p.number) (leb p.number (499 + length ps)) (sym (listed_is ps (numbered_apart ps (each_numbered v.format v.tables s k) (distinct_placed ps k.part.distinct)) (sym (gapless_bare ps) ∙ k.whole) p.number) ∙ e) in
      omega (arith, leb-true p.number (499 + length ps) inside.1))
      ps (each_listed ps)

  distinct : Distinct node_number ps
  distinct = distinct_placed ps k.part.distinct

  rising : Rising node_number 500 (sorted node_number ps)
  rising =
      rising_sorted node_number 500 ps
      (each_then _ (λ (p : Node). 500 ≤ p.number) (λ p a. a.0) ps (each_numbered v.format v.tables s k)) distinct

  in_number : map node_number (sorted node_number ps) ≡ counting 500 (length ps)
  in_number =
      let size : length (sorted node_number ps) ≡ length ps = length_sorted node_number ps in
      rising_all 500 (sorted node_number ps) rising
      (all_sorted node_number (λ (p : Node). p.number < 500 + length (sorted node_number ps)) ps
      (each_then (λ (p : Node). p.number < 500 + length ps) (λ (p : Node). p.number < 500 + length (sorted node_number ps)) (λ p h. omega (arith, size, h)) ps below_all))
      ∙ ap (counting 500) size

  pub kept_printable : (file : List ℕ) → LiesIn file s.heading.comment → Each (NodeLies file) (nodes s) → Printable file s
  kept_printable file note lies =
      let low = few_words v.format v.tables s k in
      record {
        comment = note;
        each_lies = lies;
        in_order = counted_order 0 s.words k.part.counted;
        no_gap = in_number;
        apart = distinct_apart (nodes s) (nodes_distinct ps (each_numbered v.format v.tables s k) 0 s.words k.part.counted low distinct);
        in_room = each_in_room v.format v.tables s k;
        few_words = omega (arith, low);
        few_phrases =
            omega (
              arith,
              length_sorted node_number ps,
              rising_few 500 1000 (sorted node_number ps) rising
                  (all_sorted node_number (λ (p : Node). p.number < 1000) ps
                  (each_then _ (λ (p : Node). p.number < 1000) (λ p a. omega (arith, a.1)) ps (each_numbered v.format v.tables s k)))
                  (omega arith),
            );
        few_edges = omega (arith, k.part.edges, edges_bare s.words, edges_bare ps);
      }

-- ---- any file

pub handed_printable : (file : List ℕ) → Each (λ (h : Handed). Printable file h.sentence) (survey_of file).handed
handed_printable file =
    let kept = handed_kept (λ (v : Survey) (s : Sentence). (f : List ℕ) → LiesIn f s.heading.comment → Each (NodeLies f) (nodes s) → Printable f s) kept_printable file in
    each_then (λ (h : Handed). HandedLies file h × ((f : List ℕ) → LiesIn f h.sentence.heading.comment → Each (NodeLies f) (nodes h.sentence) → Printable f h.sentence))
    (λ (h : Handed). Printable file h.sentence)
    (λ h a.
    let l = a.0.sentence in
    a.1 file l.comment (each_joined (NodeLies file) h.sentence.words h.sentence.phrases l.words l.phrases))
    (survey_of file).handed
    (each_both (HandedLies file) _ (survey_of file).handed (lies_there file).sentences kept)
