-- The printed sentences are read back: each one's heading, words, phrases and end, and the sentences by number. By one
-- step along the words, the phrases and the sentences.
use Prim.Native.Nat.{ℕ, suc, ◌+◌, ◌≤◌, ◌<◌}
use native.Mathlib.Omega.{arith}
use mathlib.Core.Path.{◌≡◌, refl, sym, ap, ap₂, ◌∙◌, subst}
use mathlib.Core.Bool.{Bool, true, false}
use mathlib.Core.List.{List, [], ◌∷◌, ◌++◌, map, append_assoc, append-nil}
use lib.ListN.{length, length-append, length-map}
use Rattle.rules.specs.Lists.{empty, every, bytes, joined, member, Each}
use Rattle.rules.specs.Bytes.{ignored}
use Rattle.rules.specs.Texts.{Text}
use Rattle.rules.specs.Numbers.{word_limit, edge_limit}
use Rattle.rules.specs.Rules.{granted}
use Rattle.rules.specs.Sentences.{Node, Heading, Sentence, edge_count, edges_of, listed, gapless, parented, heading_of, end_of, so_far}
use Rattle.rules.specs.Phases.{Preamble, Phase, top, in_sentence, behind_sentence, go, hand, next, begun, with_word, with_phrase}
use Rattle.rules.specs.Reading.{Reading, numbers, read}
use Rattle.rules.specs.Meaning.{bare_node, bare_heading, node_number, sentence_number_of}
use Rattle.rules.specs.Tidy.{space, digits_of, keyword_line, node_line, heading_line, sentence_text}
use Rattle.rules.proofs.Takings.{go_begun, answer_behind, answer_top, answer_nodes, answer_at}
use Rattle.rules.proofs.EachElement.{each_more, each_then}
use Rattle.rules.proofs.ReadLines.{read_append}
use Rattle.rules.proofs.Elements.{map_append}
use Rattle.rules.proofs.Sorting.{has, Rising, below_lacks}
use Rattle.rules.proofs.PrintedLines.{parted_printed, parted_plain}
use Rattle.rules.proofs.KeywordLines.{keyed, keyed_number_fit, end_passes}
use Rattle.rules.proofs.Headings.{heading_columns, printed_heading, HeadingKept, heading_back}
use Rattle.rules.proofs.LineFit.{LineFit}
use Rattle.rules.proofs.NodesKept.{printed_node, WordKept, PhraseKept}
use Rattle.rules.proofs.NodesBack.{node_printed, NodeBack, word_back, phrase_back}
use Rattle.rules.proofs.SentencesKept.{bare_sentence, CountedFrom, SentenceKept, edges_append, edges_bare, listed_bare, gapless_bare, parents_bare}
use Rattle.rules.proofs.Kept.{means}
use Rattle.rules.proofs.KeptReading.{used_same}
use Rattle.rules.proofs.Stands.{Stands, next_line, line_go, line_hand, step_printed}

-- in a sentence that is this one without places
pub record PartRead (p : Preamble) (s : Sentence) (ss : List Sentence) (x : Reading) : Type 0 where
  pub sentence : Sentence
  pub same : bare_sentence sentence ≡ s
  pub stands : Stands (in_sentence p sentence) ss x

abbrev made : Heading → List Node → List Node → Sentence
made h ws ps = record { start = 0; heading = h; words = ws; phrases = ps }

empty_map : {A B : Type 0} (f : A → B) (xs : List A) → empty (map f xs) ≡ empty xs
empty_map f [] = refl
empty_map f (x ∷ xs) = refl

module _ (p : Preamble) (ss : List Sentence) (h : Heading) where
  -- what is counted of a sentence that was read
  edges_same : (s t : Sentence) → bare_sentence s ≡ t → edges_of s ≡ edges_of t
  edges_same s t e = sym (ap₂ ◌+◌ (edges_bare s.words) (edges_bare s.phrases)) ∙ ap edges_of e

  node_read_lem : (s : Sentence) (more : Node → Sentence) (n : Node) (x : Reading) → (b : NodeBack p s more (numbers x.handed) x.line_start n) → LineFit (printed_node n)
      → Stands (in_sentence p s) ss x → Stands (in_sentence p (more b.read)) ss (read x (node_line n))
  node_read_lem s more n x b f st =
      subst (λ (l : List ℕ). Stands (in_sentence p (more b.read)) ss (read x l)) (sym (node_printed n))
      (line_go (in_sentence p s) ss x (printed_node n) st f (in_sentence p (more b.read)) b.answer)

  word_read : (n : Node) (done : List Node) (x : Reading) → WordKept p.format (means p) n → n.number ≡ length done → length done < word_limit → edge_count done + length n.secondary ≤ edge_limit
      → PartRead p (made h done []) ss x → PartRead p (made h (done ++ (n ∷ [])) []) ss (read x (node_line n))
  word_read n done x k e few room r =
      let s = r.sentence in
      let words : map bare_node s.words ≡ done = ap (λ (t : Sentence). t.words) r.same in
      let phrases : map bare_node s.phrases ≡ [] = ap (λ (t : Sentence). t.phrases) r.same in
      let count : length s.words ≡ length done = sym (length-map s.words bare_node) ∙ ap length words in
      let none_yet : empty s.phrases ≡ true = sym (empty_map bare_node s.phrases) ∙ ap empty phrases in
      let b =
      word_back p s (numbers x.handed) x.line_start n (omega (arith, edges_same s (made h done []) r.same, room)) k none_yet (e ∙ sym count)
      (omega (arith, count, few)) in
      record {
        sentence = with_word s b.read;
        same =
            ap (λ (ws : List Node). made (bare_heading s.heading) ws (map bare_node s.phrases)) (map_append bare_node s.words (b.read ∷ []))
            ∙ ap₂ (λ (t : Sentence) (m : Node). with_word t m) r.same b.same;
        stands = node_read_lem s (with_word s) n x b k.node.fit r.stands;
      }

  words_read : (todo done : List Node) (x : Reading) → Each (WordKept p.format (means p)) todo → CountedFrom (length done) todo → length done + length todo ≤ word_limit
      → edge_count done + edge_count todo ≤ edge_limit → PartRead p (made h done []) ss x → PartRead p (made h (done ++ todo) []) ss (read x (joined (map node_line todo)))
  words_read [] done x k c few room r = subst (λ (ws : List Node). PartRead p (made h ws []) ss x) (sym (append-nil done)) r
  words_read (n ∷ todo) done x k c few room r =
      let one = word_read n done x k.0 c.0 (omega arith) (omega arith) r in
      let longer = length-append done (n ∷ []) in
      let counted : CountedFrom (length (done ++ (n ∷ []))) todo = subst (λ (i : ℕ). CountedFrom i todo) (omega (arith, longer)) c.1 in
      let all = words_read todo (done ++ (n ∷ [])) (read x (node_line n)) k.1 counted (omega (arith, longer)) (omega (arith, edges_append done (n ∷ []))) one in
      subst (λ (y : Reading). PartRead p (made h (done ++ (n ∷ todo)) []) ss y) (sym (read_append x (node_line n) (joined (map node_line todo))))
      (subst (λ (ws : List Node). PartRead p (made h ws []) ss (read (read x (node_line n)) (joined (map node_line todo)))) (append_assoc done (n ∷ []) todo) all)

  module _ (ws : List Node) where
    phrase_read : (n : Node) (done : List Node) (x : Reading) → PhraseKept p.format (means p) n → listed done n.number ≡ false → edge_count ws + edge_count done + length n.secondary ≤ edge_limit
        → PartRead p (made h ws done) ss x → PartRead p (made h ws (done ++ (n ∷ []))) ss (read x (node_line n))
    phrase_read n done x k new room r =
        let s = r.sentence in
        let phrases : map bare_node s.phrases ≡ done = ap (λ (t : Sentence). t.phrases) r.same in
        let absent : listed s.phrases n.number ≡ false = sym (listed_bare s.phrases n.number) ∙ ap (λ (ps : List Node). listed ps n.number) phrases ∙ new in
        let b = phrase_back p s (numbers x.handed) x.line_start n (omega (arith, edges_same s (made h ws done) r.same, room)) k absent in
        record {
          sentence = with_phrase s b.read;
          same =
              ap (λ (ps : List Node). made (bare_heading s.heading) (map bare_node s.words) ps) (map_append bare_node s.phrases (b.read ∷ []))
              ∙ ap₂ (λ (t : Sentence) (m : Node). with_phrase t m) r.same b.same;
          stands = node_read_lem s (with_phrase s) n x b k.node.fit r.stands;
        }

    phrases_read : (todo : List Node) (i : ℕ) (done : List Node) (x : Reading) → Each (PhraseKept p.format (means p)) todo → Each (λ (n : Node). n.number < i) done → Rising node_number i todo
        → edge_count ws + edge_count done + edge_count todo ≤ edge_limit → PartRead p (made h ws done) ss x → PartRead p (made h ws (done ++ todo)) ss (read x (joined (map node_line todo)))
    phrases_read [] i done x k below rise room r = subst (λ (ps : List Node). PartRead p (made h ws ps) ss x) (sym (append-nil done)) r
    phrases_read (n ∷ todo) i done x k below rise room r =
        let m = n.number in
        let one = phrase_read n done x k.0 (below_lacks node_number i m done below rise.0) (omega arith) r in
        let more =
        each_more (λ (q : Node). q.number < suc m) done n
        (each_then (λ (q : Node). q.number < i) (λ (q : Node). q.number < suc m) (λ q z. omega (arith, rise.0)) done below) (omega arith) in
        let all = phrases_read todo (suc m) (done ++ (n ∷ [])) (read x (node_line n)) k.1 more rise.1 (omega (arith, edges_append done (n ∷ []))) one in
        subst (λ (y : Reading). PartRead p (made h ws (done ++ (n ∷ todo))) ss y) (sym (read_append x (node_line n) (joined (map node_line todo))))
        (subst (λ (ps : List Node). PartRead p (made h ws ps) ss (read (read x (node_line n)) (joined (map node_line todo)))) (append_assoc done (n ∷ []) todo) all)

-- ---- a sentence's first line: among the tables, or behind a sentence

abbrev pub front : Bool → Preamble → Phase
front true p = top p
front false p = behind_sentence p

module _ (p : Preamble) (ss : List Sentence) where
  begins : (t : Bool) (used : List ℕ) (line : Text) (at : ℕ) (h : Heading) → heading_of p.tables (λ n. member n used) line ≡ granted h
      → answer_at (front t p) used line (record { start = at; bytes = bytes "#BOS" }) ≡ go (in_sentence p (begun line.start h))
  unfolding answer_at answer_top answer_behind
  begins true used line at h e = ap (next (go_begun p line.start)) e
  begins false used line at h e = ap (next (go_begun p line.start)) e

  heading_read : (t : Bool) (s : Sentence) (x : Reading) → HeadingKept (means p) s.heading → has sentence_number_of s.heading.number ss ≡ false → Stands (front t p) ss x
      → PartRead p (made s.heading [] []) ss (read x (heading_line s))
  heading_read t s x k new st =
      let h = s.heading in
      let used = numbers x.handed in
      let unused : member h.number used ≡ false = used_same x.handed h.number ∙ ap (has sentence_number_of h.number) st.handed ∙ new in
      let b = heading_back p.tables h k (λ n. member n used) x.line_start unused in
      let q = in_sentence p (begun x.line_start b.read) in
      let e =
      step_printed space refl (front t p) used x.line_start (bytes "#BOS") (heading_columns h) h.comment.bytes refl k.fit
      ∙ begins t used (next_line x (printed_heading h)) x.line_start b.read b.answer in
      record {
        sentence = begun x.line_start b.read;
        same = ap (λ (g : Heading). made g [] []) b.same;
        stands =
            subst (λ (l : List ℕ). Stands q ss (read x l)) (sym (parted_printed space (bytes "#BOS") (heading_columns h) h.comment))
            (line_go (front t p) ss x (printed_heading h) st k.fit q e);
      }

  -- ---- its last line

  eos_seen : ignored (bytes "#EOS") ≡ false
  unfolding ignored
  eos_seen = refl

  hands : (s : Sentence) (used : List ℕ) (line : Text) (at : ℕ) → end_of (so_far s) line ≡ granted s.heading.number → answer_at (in_sentence p s) used line (record { start = at; bytes = bytes "#EOS" }) ≡ hand p s
  unfolding answer_at answer_nodes
  hands s used line at e = ap (next (λ n. hand p s)) e

  end_read : (s : Sentence) (x : Reading) → SentenceKept p.format (means p) s → PartRead p s ss x
      → Stands (behind_sentence p) (ss ++ (s ∷ [])) (read x (keyword_line (bytes "#EOS" ∷ digits_of s.heading.number ∷ [])))
  end_read s x k r =
      let t = r.sentence in
      let n = s.heading.number in
      let number : t.heading.number ≡ n = ap (λ (u : Sentence). u.heading.number) r.same in
      let range = k.part.heading.number in
      let whole : gapless t.phrases ≡ true = sym (gapless_bare t.phrases) ∙ ap (λ (u : Sentence). gapless u.phrases) r.same ∙ k.whole in
      let parents : every (parented t.phrases) (t.words ++ t.phrases) ≡ true =
      sym (parents_bare t.phrases (t.words ++ t.phrases)) ∙ ap (every (parented (map bare_node t.phrases))) (map_append bare_node t.words t.phrases)
      ∙ ap (λ (u : Sentence). every (parented u.phrases) (u.words ++ u.phrases)) r.same ∙ k.parents in
      let line = keyed (bytes "#EOS") (digits_of n) in
      let fit = keyed_number_fit (bytes "#EOS") n refl eos_seen refl (omega arith) (omega (arith, range.1)) in
      let grant : end_of (so_far t) (next_line x line) ≡ granted t.heading.number =
      ap (λ (i : ℕ). end_of (so_far t) (next_line x (keyed (bytes "#EOS") (digits_of i)))) (sym number)
      ∙ end_passes t x.line_start (omega (arith, number, range.0)) (omega (arith, number, range.1)) whole parents in
      let e =
      step_printed space refl (in_sentence p t) (numbers x.handed) x.line_start (bytes "#EOS") (digits_of n ∷ []) [] refl fit
      ∙ hands t (numbers x.handed) (next_line x line) x.line_start grant in
      subst (λ (u : Sentence). Stands (behind_sentence p) (ss ++ (u ∷ [])) (read x (keyword_line (bytes "#EOS" ∷ digits_of n ∷ [])))) r.same
      (subst (λ (l : List ℕ). Stands (behind_sentence p) (ss ++ (bare_sentence t ∷ [])) (read x l)) (sym (parted_plain space (bytes "#EOS") (digits_of n ∷ [])))
      (line_hand (in_sentence p t) ss x line r.stands fit p t e))

  -- ---- a whole sentence, its phrases by number

  sentence_read : (t : Bool) (s : Sentence) (x : Reading) → SentenceKept p.format (means p) s → Rising node_number 0 s.phrases → has sentence_number_of s.heading.number ss ≡ false
      → Stands (front t p) ss x → Stands (behind_sentence p) (ss ++ (s ∷ [])) (read x (sentence_text s))
  sentence_read t s x k rise new st =
      let h = s.heading in
      let a = heading_line s in
      let b = joined (map node_line s.words) in
      let c = joined (map node_line s.phrases) in
      let d = keyword_line (bytes "#EOS" ∷ digits_of h.number ∷ []) in
      let part = k.part in
      let r1 = heading_read t s x part.heading new st in
      let r2 = words_read p ss h s.words [] (read x a) part.words part.counted (omega (arith, part.few)) (omega (arith, part.edges)) r1 in
      let r3 = phrases_read p ss h s.words s.phrases 0 [] (read (read x a) b) part.phrases tt rise (omega (arith, part.edges)) r2 in
      let here : made h s.words s.phrases ≡ s = ap (λ (i : ℕ). record { start = i; heading = h; words = s.words; phrases = s.phrases }) (sym part.placeless) in
      let r4 = end_read s (read (read (read x a) b) c) k (subst (λ (u : Sentence). PartRead p u ss (read (read (read x a) b) c)) here r3) in
      let whole : read x (sentence_text s) ≡ read (read (read (read x a) b) c) d =
      read_append x ((a ++ b) ++ c) d ∙ ap (λ (y : Reading). read y d) (read_append x (a ++ b) c ∙ ap (λ (y : Reading). read y c) (read_append x a b)) in
      subst (Stands (behind_sentence p) (ss ++ (s ∷ []))) (sym whole) r4

-- ---- the sentences by number

module _ (p : Preamble) where
  pub sentences_read : (todo : List Sentence) (i : ℕ) (done : List Sentence) (x : Reading) → Each (λ (s : Sentence). SentenceKept p.format (means p) s × Rising node_number 0 s.phrases) todo
      → Each (λ (s : Sentence). sentence_number_of s < i) done → Rising sentence_number_of i todo → Stands (behind_sentence p) done x
      → Stands (behind_sentence p) (done ++ todo) (read x (joined (map sentence_text todo)))
  sentences_read [] i done x k below rise st = subst (λ (ss : List Sentence). Stands (behind_sentence p) ss x) (sym (append-nil done)) st
  sentences_read (s ∷ todo) i done x k below rise st =
      let n = sentence_number_of s in
      let one = sentence_read p done false s x k.0.0 k.0.1 (below_lacks sentence_number_of i n done below rise.0) st in
      let more =
      each_more (λ (q : Sentence). sentence_number_of q < suc n) done s
      (each_then (λ (q : Sentence). sentence_number_of q < i) (λ (q : Sentence). sentence_number_of q < suc n) (λ q z. omega (arith, rise.0)) done below) (omega arith) in
      let all = sentences_read todo (suc n) (done ++ (s ∷ [])) (read x (sentence_text s)) k.1 more rise.1 one in
      subst (Stands (behind_sentence p) (done ++ (s ∷ todo))) (sym (read_append x (sentence_text s) (joined (map sentence_text todo))))
      (subst (λ (ss : List Sentence). Stands (behind_sentence p) ss (read (read x (sentence_text s)) (joined (map sentence_text todo)))) (append_assoc done (s ∷ []) todo) all)

  -- the first stands behind the tables
  pub all_sentences_read : (s : Sentence) (todo : List Sentence) (x : Reading) → Each (λ (s : Sentence). SentenceKept p.format (means p) s × Rising node_number 0 s.phrases) (s ∷ todo)
      → Rising sentence_number_of 0 (s ∷ todo) → Stands (top p) [] x → Stands (behind_sentence p) (s ∷ todo) (read x (joined (map sentence_text (s ∷ todo))))
  all_sentences_read s todo x k rise st =
      let one = sentence_read p [] true s x k.0.0 k.0.1 refl st in
      subst (Stands (behind_sentence p) (s ∷ todo)) (sym (read_append x (sentence_text s) (joined (map sentence_text todo))))
      (sentences_read todo (suc (sentence_number_of s)) (s ∷ []) (read x (sentence_text s)) k.1 (omega arith, tt) rise.1 one)
