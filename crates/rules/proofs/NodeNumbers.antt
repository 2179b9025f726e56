-- The node numbers of every sentence handed out: words have those below 500, phrases have 500 to 999, no two nodes have the
-- same; so the parent that a number has is that of its node. By one step along words and phrases.
use Prim.Native.Nat.{ℕ, suc, ◌+◌, ◌≤◌, ◌<◌}
use native.Mathlib.Omega.{arith}
use mathlib.Core.Path.{◌≡◌, refl, sym, ap, ◌∙◌}
use mathlib.Core.Bool.{Bool, true, false, not, ◌||◌}
use mathlib.Core.List.{List, [], ◌∷◌, ◌++◌, map}
use lib.ListN.{length, length-map}
use lib.Dec.{leb, eqb}
use borrow.Author.Tests.{eqb-true, eq-eqb, ne_eqb, le-leb}
use Rattle.rules.specs.Lists.{every, member, Each, pick}
use Rattle.rules.specs.Numbers.{phrase_number, word_limit}
use Rattle.rules.specs.Tables.{Tables}
use Rattle.rules.specs.Sentences.{Node, Sentence, listed}
use Rattle.rules.specs.Reading.{Handed}
use Rattle.rules.specs.SheetFields.{node_room}
use Rattle.rules.specs.Sheets.{nodes}
use Rattle.rules.specs.Survey.{Survey, survey_of}
use Rattle.rules.specs.Meaning.{bare_node, node_number, meant_tables}
use Rattle.rules.specs.Climbing.{parent_among, parent_in}
use Rattle.rules.proofs.Conjunctions.{and_both, or_left, or_right}
use Rattle.rules.proofs.EachElement.{each_then, each_joined, each_mapped_then}
use Rattle.rules.proofs.Sorting.{Distinct, has}
use Rattle.rules.proofs.DifferentNumbers.{distinct}
use Rattle.rules.proofs.NoGap.{phrase_numbers, NewNumbers, listed_member}
use Rattle.rules.proofs.NumbersAgain.{number_range}
use Rattle.rules.proofs.NodesKept.{PhraseKept}
use Rattle.rules.proofs.SentencesKept.{CountedFrom, bare_sentence, SentenceKept, listed_bare}
use Rattle.rules.proofs.HandedKept.{handed_kept}

-- a phrase's number
abbrev pub PhraseNumbered : Node → Type 0
PhraseNumbered n = (500 ≤ n.number) × (n.number ≤ 999)

abbrev pub InRoom : Node → Type 0
InRoom n = n.number < node_room

phrase_numbered : (format : ℕ) (ts : Tables) (n : Node) → PhraseKept format ts (bare_node n) → PhraseNumbered n
phrase_numbered format ts n k = number_range phrase_number _ n.number k.number

all_low : (ps : List Node) → Each PhraseNumbered ps → every (leb 500) (phrase_numbers ps) ≡ true
all_low [] a = refl
all_low (p ∷ ps) a = and_both (leb 500 p.number) (every (leb 500) (phrase_numbers ps)) (le-leb 500 p.number a.0.0) (all_low ps a.1)

all_apart : (ps : List Node) → Distinct node_number ps → distinct (phrase_numbers ps) ≡ true
all_apart [] d = refl
all_apart (p ∷ ps) d =
    and_both (not (member p.number (phrase_numbers ps))) (distinct (phrase_numbers ps)) (ap not (sym (listed_member ps p.number) ∙ d.0)) (all_apart ps d.1)

pub numbered_apart : (ps : List Node) → Each PhraseNumbered ps → Distinct node_number ps → NewNumbers ps
numbered_apart ps a d = record { low = all_low ps a; apart = all_apart ps d }

pub distinct_placed : (ps : List Node) → Distinct node_number (map bare_node ps) → Distinct node_number ps
distinct_placed [] d = tt
distinct_placed (p ∷ ps) d = (sym (listed_bare ps p.number) ∙ d.0, distinct_placed ps d.1)

-- a number that a phrase has
pub listed_highest : (ps : List Node) → Each PhraseNumbered ps → (n : ℕ) → listed ps n ≡ true → n ≤ 999
listed_highest [] a n e = absurd (let z : ◌≡◌ {A = ℕ} 0 1 = cc in omega arith)
listed_highest (p ∷ ps) a n e = by (eqb n p.number) refl e (listed_highest ps a.1 n)
  where
    by : (t : Bool) → eqb n p.number ≡ t → (t || listed ps n) ≡ true → (listed ps n ≡ true → n ≤ 999) → n ≤ 999
    by true q e more = omega (arith, eqb-true n p.number q, a.0.1)
    by false q e more = more e

-- ---- words in front of phrases

words_in_room : (k : ℕ) (ws : List Node) → CountedFrom k (map bare_node ws) → k + length ws ≤ word_limit → Each InRoom ws
words_in_room k [] c h = tt
words_in_room k (w ∷ ws) c h = (omega (arith, c.0), words_in_room (suc k) ws c.1 (omega arith))

module _ (ps : List Node) (new_numbers : Each PhraseNumbered ps) where
  phrases_lack : (m : ℕ) (qs : List Node) → Each PhraseNumbered qs → m < 500 → has node_number m qs ≡ false
  phrases_lack m [] a h = refl
  phrases_lack m (q ∷ qs) a h = rw (ne_eqb m q.number (λ z. omega (arith, a.0.0))) (phrases_lack m qs a.1 h)

  -- a number below those that words count on from
  nodes_lack : (m k : ℕ) (ws : List Node) → CountedFrom k (map bare_node ws) → m < k → m < 500 → has node_number m (ws ++ ps) ≡ false
  nodes_lack m k [] c h l = phrases_lack m ps new_numbers l
  nodes_lack m k (w ∷ ws) c h l = rw (ne_eqb m w.number (λ z. omega (arith, c.0))) (nodes_lack m (suc k) ws c.1 (omega arith) l)

  pub nodes_distinct : (k : ℕ) (ws : List Node) → CountedFrom k (map bare_node ws) → k + length ws ≤ word_limit → Distinct node_number ps → Distinct node_number (ws ++ ps)
  nodes_distinct k [] c h d = d
  nodes_distinct k (w ∷ ws) c h d =
      (nodes_lack w.number (suc k) ws c.1 (omega (arith, c.0)) (omega (arith, c.0)), nodes_distinct (suc k) ws c.1 (omega arith) d)

-- ---- what is looked up by a node's number is the node's own

module _ {A : Type 0} (found : List Node → ℕ → A) (own : Node → A)
    (along : (m : Node) (ms : List Node) (k : ℕ) → found (m ∷ ms) k ≡ pick (eqb m.number k) (own m) (found ms k)) where
  abbrev pub Own : List Node → Node → Type 0
  Own ns n = found ns n.number ≡ own n

  first_own : (m : Node) (ms : List Node) (k : ℕ) (t : Bool) → eqb m.number k ≡ t → found (m ∷ ms) k ≡ pick t (own m) (found ms k)
  first_own m ms k t e = along m ms k ∙ ap (λ (b : Bool). pick b (own m) (found ms k)) e

  -- a node in front with another number
  others_own : (m : Node) (ms ns : List Node) → has node_number m.number ns ≡ false → Each (Own ms) ns → Each (Own (m ∷ ms)) ns
  others_own m ms [] e a = tt
  others_own m ms (n ∷ ns) e a =
      let differ = or_left (eqb m.number n.number) (has node_number m.number ns) e in
      (first_own m ms n.number false differ ∙ a.0, others_own m ms ns (or_right (eqb m.number n.number) (has node_number m.number ns) e) a.1)

  pub each_own : (ns : List Node) → Distinct node_number ns → Each (Own ns) ns
  each_own [] d = tt
  each_own (n ∷ ns) d = (first_own n ns n.number true (eq-eqb n.number n.number refl), others_own n ns ns d.0 (each_own ns d.1))

abbrev HasParent : List Node → Node → Type 0
HasParent ns n = parent_among ns n.number ≡ n.parent

-- ---- a sentence handed out

module _ (format : ℕ) (ts : Tables) (s : Sentence) (k : SentenceKept format (meant_tables ts) (bare_sentence s)) where
  pub each_numbered : Each PhraseNumbered s.phrases
  each_numbered = each_mapped_then (PhraseKept format (meant_tables ts)) PhraseNumbered bare_node (phrase_numbered format (meant_tables ts)) s.phrases k.part.phrases

  pub few_words : 0 + length s.words ≤ word_limit
  few_words = omega (arith, length-map s.words bare_node, k.part.few)

  pub each_in_room : Each InRoom (nodes s)
  each_in_room =
      each_joined InRoom s.words s.phrases (words_in_room 0 s.words k.part.counted few_words)
      (each_then PhraseNumbered InRoom (λ n a. omega (arith, a.1)) s.phrases each_numbered)

  each_parent : Each (HasParent (nodes s)) (nodes s)
  each_parent =
      each_own parent_among (λ (n : Node). n.parent) (λ m ms k. refl) (nodes s) (nodes_distinct s.phrases each_numbered 0 s.words k.part.counted few_words (distinct_placed s.phrases k.part.distinct))

-- the parent that a node's number has is the node's
pub parents_found : (f : List ℕ) → Each (λ (h : Handed). Each (λ (n : Node). parent_in h.sentence n.number ≡ n.parent) (nodes h.sentence)) (survey_of f).handed
parents_found f = handed_kept (λ (v : Survey) (s : Sentence). Each (HasParent (nodes s)) (nodes s)) (λ v s k. each_parent v.format v.tables s k) f
