-- A sentence that is fit to be printed: its heading, its words in their order, phrases whose numbers differ, few enough
-- edges, and at its end no gap and no absent parent. It stays so with its phrases sorted.
use Prim.Native.Nat.{ℕ, suc, ◌+◌, ◌≤◌, ◌<◌}
use native.Mathlib.Nat.{add-zero}
use native.Mathlib.Omega.{arith}
use mathlib.Core.Path.{◌≡◌, refl, sym, ap, ap₂, ◌∙◌}
use mathlib.Core.Bool.{Bool, true, false, ◌&&◌, ◌||◌}
use mathlib.Core.List.{List, [], ◌∷◌, ◌++◌, map}
use lib.ListN.{length, length-append, length-map}
use lib.Dec.{eqb}
use Rattle.rules.specs.Lists.{every, counting, sorted, Each}
use Rattle.rules.specs.Numbers.{word_limit, edge_limit}
use Rattle.rules.specs.Tables.{Tables}
use Rattle.rules.specs.Sentences.{Edge, Node, Heading, Sentence, edge_count, edges_of, listed, gapless, parented}
use Rattle.rules.specs.Phases.{begun, with_word, with_phrase}
use Rattle.rules.specs.Meaning.{bare_edge, bare_node, bare_heading, node_number, meant_sentence}
use Rattle.rules.proofs.EachElement.{each_more}
use Rattle.rules.proofs.Conjunctions.{every_append, every_front, every_back, every_map}
use Rattle.rules.proofs.Elements.{any_map}
use Rattle.rules.proofs.Sorting.{Distinct, total, total_sorted, any_sorted, every_sorted, length_sorted, all_sorted, distinct_last, sorted_distinct, map_sorted}
use Rattle.rules.proofs.NodesKept.{WordKept, PhraseKept}
use Rattle.rules.proofs.Headings.{HeadingKept}

-- places don't count; the order of phrases is the file's
abbrev pub bare_sentence : Sentence → Sentence
bare_sentence s = record { start = 0; heading = bare_heading s.heading; words = map bare_node s.words; phrases = map bare_node s.phrases }

abbrev pub by_number : Sentence → Sentence
by_number s = record { start = s.start; heading = s.heading; words = s.words; phrases = sorted node_number s.phrases }

-- words count from k
abbrev pub CountedFrom : ℕ → List Node → Type 0
CountedFrom k [] = Unit {0}
CountedFrom k (n ∷ ns) = (n.number ≡ k) × CountedFrom (suc k) ns

-- a sentence that is being read
pub record PartKept (format : ℕ) (ts : Tables) (s : Sentence) : Type 0 where
  pub placeless : s.start ≡ 0
  pub heading : HeadingKept ts s.heading
  pub words : Each (WordKept format ts) s.words
  pub counted : CountedFrom 0 s.words
  pub few : length s.words ≤ word_limit
  pub phrases : Each (PhraseKept format ts) s.phrases
  pub distinct : Distinct node_number s.phrases
  pub edges : edges_of s ≤ edge_limit

-- a sentence handed out
pub record SentenceKept (format : ℕ) (ts : Tables) (s : Sentence) : Type 0 where
  pub part : PartKept format ts s
  pub whole : gapless s.phrases ≡ true
  pub parents : every (parented s.phrases) (s.words ++ s.phrases) ≡ true

-- ---- one more word, one more phrase

counted_last : (k : ℕ) (ns : List Node) (n : Node) → CountedFrom k ns → n.number ≡ k + length ns → CountedFrom k (ns ++ (n ∷ []))
counted_last k [] n c e = (e ∙ add-zero k, tt)
counted_last k (m ∷ ms) n c e = (c.0, counted_last (suc k) ms n c.1 (omega (arith, e)))

pub edges_append : (ns ms : List Node) → edge_count (ns ++ ms) ≡ edge_count ns + edge_count ms
edges_append [] ms = omega arith
edges_append (n ∷ ns) ms = omega (arith, edges_append ns ms)

pub edges_bare : (ns : List Node) → edge_count (map bare_node ns) ≡ edge_count ns
edges_bare [] = refl
edges_bare (n ∷ ns) = ap₂ ◌+◌ (length-map n.secondary bare_edge) (edges_bare ns)

module _ (format : ℕ) (ts : Tables) (s : Sentence) (k : PartKept format ts s) (n : Node) (room : edges_of s + length n.secondary ≤ edge_limit) where
  pub part_word : WordKept format ts n → n.number ≡ length s.words → length s.words < word_limit
      → PartKept format ts (with_word s n)
  part_word w e h =
      record {
        placeless = k.placeless;
        heading = k.heading;
        words = each_more (WordKept format ts) s.words n k.words w;
        counted = counted_last 0 s.words n k.counted (omega (arith, e));
        few = omega (arith, length-append s.words (n ∷ []));
        phrases = k.phrases;
        distinct = k.distinct;
        edges = omega (arith, edges_append s.words (n ∷ []));
      }

  pub part_phrase : PhraseKept format ts n → listed s.phrases n.number ≡ false
      → PartKept format ts (with_phrase s n)
  part_phrase p e =
      record {
        placeless = k.placeless;
        heading = k.heading;
        words = k.words;
        counted = k.counted;
        few = k.few;
        phrases = each_more (PhraseKept format ts) s.phrases n k.phrases p;
        distinct = distinct_last node_number s.phrases n k.distinct e;
        edges = omega (arith, edges_append s.phrases (n ∷ []));
      }

pub part_begun : (format : ℕ) (ts : Tables) (h : Heading) → HeadingKept ts h → PartKept format ts (begun 0 h)
part_begun format ts h k = record { placeless = refl; heading = k; words = tt; counted = tt; few = omega arith; phrases = tt; distinct = tt; edges = omega arith }

-- ---- which phrases are listed is all that its end asks

pub every_same : {A : Type 0} (f g : A → Bool) → ((x : A) → f x ≡ g x) → (xs : List A) → every f xs ≡ every g xs
every_same f g e [] = refl
every_same f g e (x ∷ xs) = ap₂ ◌&&◌ (e x) (every_same f g e xs)

module _ (ps qs : List Node) (same : (n : ℕ) → listed ps n ≡ listed qs n) where
  gapless_same : length ps ≡ length qs → gapless ps ≡ gapless qs
  gapless_same e = ap (λ (n : ℕ). every (listed ps) (counting 500 n)) e ∙ every_same (listed ps) (listed qs) same (counting 500 (length qs))

  parented_same : (n : Node) → parented ps n ≡ parented qs n
  parented_same n =
      ap₂ (λ (a b : Bool). (eqb n.parent 0 || a) && b) (same n.parent)
      (every_same (λ (e : Edge). listed ps e.parent) (λ (e : Edge). listed qs e.parent) (λ e. same e.parent) n.secondary)

  parents_same : (ns : List Node) → every (parented ps) ns ≡ every (parented qs) ns
  parents_same ns = every_same (parented ps) (parented qs) parented_same ns

pub listed_bare : (ps : List Node) (n : ℕ) → listed (map bare_node ps) n ≡ listed ps n
listed_bare ps n = any_map (λ (p : Node). eqb n p.number) bare_node ps

pub gapless_bare : (ps : List Node) → gapless (map bare_node ps) ≡ gapless ps
gapless_bare ps = gapless_same (map bare_node ps) ps (listed_bare ps) (length-map ps bare_node)

parented_bare : (ps : List Node) (n : Node) → parented ps (bare_node n) ≡ parented ps n
parented_bare ps n = ap (λ (b : Bool). (eqb n.parent 0 || listed ps n.parent) && b) (every_map (λ (e : Edge). listed ps e.parent) bare_edge n.secondary)

pub parents_bare : (ps ns : List Node) → every (parented (map bare_node ps)) (map bare_node ns) ≡ every (parented ps) ns
parents_bare ps ns =
    parents_same (map bare_node ps) ps (listed_bare ps) (map bare_node ns) ∙ every_map (parented ps) bare_node ns
    ∙ every_same (λ (n : Node). parented ps (bare_node n)) (parented ps) (parented_bare ps) ns

-- ---- phrases by number

edges_total : (ns : List Node) → edge_count ns ≡ total node_number (λ (n : Node). length n.secondary) ns
edges_total [] = refl
edges_total (n ∷ ns) = ap (λ (k : ℕ). length n.secondary + k) (edges_total ns)

pub sentence_sorted : (format : ℕ) (ts : Tables) (s : Sentence) → SentenceKept format ts s → SentenceKept format ts (by_number s)
sentence_sorted format ts s k =
    let ps = s.phrases in
    let qs = sorted node_number ps in
    let same : (n : ℕ) → listed qs n ≡ listed ps n = λ n. any_sorted node_number (λ (p : Node). eqb n p.number) ps in
    let count : edge_count qs ≡ edge_count ps = edges_total qs ∙ total_sorted node_number (λ (n : Node). length n.secondary) ps ∙ sym (edges_total ps) in
    record {
      part =
          record {
            placeless = k.part.placeless;
            heading = k.part.heading;
            words = k.part.words;
            counted = k.part.counted;
            few = k.part.few;
            phrases = all_sorted node_number (PhraseKept format ts) ps k.part.phrases;
            distinct = sorted_distinct node_number ps k.part.distinct;
            edges = omega (arith, k.part.edges, count);
          };
      whole = gapless_same qs ps same (length_sorted node_number ps) ∙ k.whole;
      parents =
          parents_same qs ps same (s.words ++ qs)
          ∙ every_append (parented ps) s.words qs (every_front (parented ps) s.words ps k.parents)
          (every_sorted node_number (parented ps) ps ∙ every_back (parented ps) s.words ps k.parents);
    }

-- what a sentence means is its bare sentence by number
pub meant_by_number : (s : Sentence) → meant_sentence s ≡ by_number (bare_sentence s)
meant_by_number s =
    ap (λ (ps : List Node). record { start = 0; heading = bare_heading s.heading; words = map bare_node s.words; phrases = ps })
    (map_sorted node_number node_number bare_node (λ n. refl) s.phrases)
