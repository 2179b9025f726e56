-- What is counted and marked of a sentence, with one word or one phrase more.
use Prim.Native.Nat.{ℕ, zero, suc, ◌+◌, ◌-◌, ◌≤◌, ◌<◌}
use native.Mathlib.Omega.{arith}
use mathlib.Core.Path.{◌≡◌, refl, sym, ap, ◌∙◌}
use mathlib.Core.Bool.{Bool, true, false, ◌||◌, and-false}
use mathlib.Core.List.{List, [], ◌∷◌, ◌++◌, append-nil, append_assoc}
use lib.Dec.{leb, eqb}
use lib.ListN.{length, get_or, set, replicate, length-append}
use lib.Seq.{get_or-set_same, get_or-set_other}
use borrow.Author.Tests.{eq-eqb, ne_eqb, le-leb, eqb-true, eqb-false, leb-true}
use Rattle.rules.specs.Lists.{empty}
use Rattle.rules.specs.Sentences.{Node, Sentence, edge_count, edges_of, listed}
use Rattle.rules.specs.Highest.{larger, largest, highest_parent}
use Rattle.rules.specs.Phases as rules
use Rattle.rules.proofs.Largest.{largest_added}
use Rattle.rules.proofs.NoGap.{highest_added}
use Rattle.steps.specs.Steps.{node_said}
use Rattle.judging.specs.States.{tally_of, counted_word, counted_phrase}
use Rattle.nodes.specs.NodeLines.{marked}
use Rattle.judging.proofs.Knowing.{Stamped, Telling}

pub one_more : {A : Type 0} (xs : List A) (x : A) → length (xs ++ (x ∷ [])) ≡ length xs + 1
one_more xs x = length-append xs (x ∷ [])

none_left : {A : Type 0} (xs : List A) → empty xs ≡ true → xs ≡ []
none_left [] e = refl
none_left (x ∷ xs) e = cc

edges_added : (ns : List Node) (n : Node) → edge_count (ns ++ (n ∷ [])) ≡ edge_count ns + length n.secondary
edges_added [] n = omega arith
edges_added (m ∷ ns) n = omega (arith, edges_added ns n)

-- ---- a word

module _ (s : Sentence) (n : Node) (first : empty s.phrases ≡ true) where
  highest_with_word : larger (largest highest_parent (s.words ++ s.phrases)) (highest_parent n) ≡ largest highest_parent ((s.words ++ (n ∷ [])) ++ s.phrases)
  highest_with_word =
      rw (none_left s.phrases first, append-nil s.words, append-nil (s.words ++ (n ∷ [])))
      (sym (largest_added highest_parent s.words n))

  pub edges_with_word : edges_of s + length n.secondary ≡ edges_of (rules.with_word s n)
  edges_with_word = omega (arith, edges_added s.words n)

  pub tally_with_word : counted_word (tally_of s) (node_said n) ≡ tally_of (rules.with_word s n)
  tally_with_word = rw (highest_with_word, edges_with_word, ← one_more s.words n)

-- ---- a phrase

module _ (s : Sentence) (n : Node) (low : 500 ≤ n.number) where
  highest_with_phrase : larger (largest highest_parent (s.words ++ s.phrases)) (highest_parent n) ≡ largest highest_parent (s.words ++ (s.phrases ++ (n ∷ [])))
  highest_with_phrase =
      sym (ap (largest highest_parent) (sym (append_assoc s.words s.phrases (n ∷ [])))
      ∙ largest_added highest_parent (s.words ++ s.phrases) n)

  pub edges_with_phrase : edges_of s + length n.secondary ≡ edges_of (rules.with_phrase s n)
  edges_with_phrase = omega (arith, edges_added s.phrases n)

  pub tally_with_phrase : counted_phrase (tally_of s) (node_said n) ≡ tally_of (rules.with_phrase s n)
  tally_with_phrase =
      rw (highest_with_phrase, edges_with_phrase, ← one_more s.phrases n, ← highest_added s.phrases n low)

-- ---- marks

or_none : (b : Bool) → (b || false) ≡ b
or_none true = refl
or_none false = refl

or_all : (b : Bool) → (b || true) ≡ true
or_all true = refl
or_all false = refl

or_assoc : (a b c : Bool) → (a || (b || c)) ≡ ((a || b) || c)
or_assoc true b c = refl
or_assoc false b c = refl

listed_added : (ps : List Node) (p : Node) (n : ℕ) → listed (ps ++ (p ∷ [])) n ≡ (listed ps n || eqb n p.number)
listed_added [] p n = or_none (eqb n p.number)
listed_added (q ∷ ps) p n =
    ap (λ (b : Bool). eqb n q.number || b) (listed_added ps p n)
    ∙ or_assoc (eqb n q.number) (listed ps n) (eqb n p.number)

-- nothing is marked
pub none_marked : (n : ℕ) → Stamped (replicate n 0) 0
none_marked zero k = omega arith
none_marked (suc n) zero = omega arith
none_marked (suc n) (suc k) = none_marked n k

-- before a sentence has phrases, no mark has its stamp
pub fresh_marks : (marks : List ℕ) (count : ℕ) → Stamped marks count → (n : ℕ) → marked marks (suc count) n ≡ false
fresh_marks marks count h n =
    let k : get_or marks (n - 500) 0 ≤ count = h (n - 500) in
    rw (ne_eqb (get_or marks (n - 500) 0) (suc count) (λ z. omega arith)) (and-false (leb 500 n))

-- a phrase's mark set with the sentence's stamp tells it too
module _ (marks : List ℕ) (count : ℕ) (s : Sentence) (told : Telling marks count s) (n : Node) (low : 500 ≤ n.number) (room : n.number - 500 < length marks) where
  abbrev place : ℕ
  place = n.number - 500

  abbrev marks⁺ : List ℕ
  marks⁺ = set marks place (suc count)

  stamped⁺ : Stamped marks⁺ (suc count)
  stamped⁺ k = by (eqb k place) refl
    where
      by : (t : Bool) → eqb k place ≡ t → get_or marks⁺ k 0 ≤ suc count
      by true e = rw (eqb-true k place e, get_or-set_same marks place (suc count) 0 room) (omega arith)
      by false e = rw (get_or-set_other marks place k (suc count) 0 (eqb-false k place e)) (told.stamped k)

  tell⁺ : (m : ℕ) → marked marks⁺ (suc count) m ≡ listed (s.phrases ++ (n ∷ [])) m
  tell⁺ m = by (leb 500 m) refl (eqb m n.number) refl
    where
      by : (t : Bool) → leb 500 m ≡ t → (u : Bool) → eqb m n.number ≡ u → marked marks⁺ (suc count) m ≡ listed (s.phrases ++ (n ∷ [])) m
      by t p true q =
          rw (listed_added s.phrases n m, q, eqb-true m n.number q, le-leb 500 n.number low, get_or-set_same marks place (suc count) 0 room, eq-eqb (suc count) (suc count) refl)
          (sym (or_all (listed s.phrases n.number)))
      by true p false q =
          let high : 500 ≤ m = leb-true 500 m p in
          let other : (m ≡ n.number → ⊥) = eqb-false m n.number q in
          let apart : (m - 500 ≡ place → ⊥) = λ z. other (omega arith) in
          rw (get_or-set_other marks place (m - 500) (suc count) 0 apart, listed_added s.phrases n m, q)
          (told.tell m ∙ sym (or_none (listed s.phrases m)))
      by false p false q =
          rw (listed_added s.phrases n m, q, p) (sym (or_none (listed s.phrases m) ∙ sym (told.tell m) ∙ rw p))

  pub telling_more : Telling marks⁺ count (rules.with_phrase s n)
  telling_more = record { stamped = stamped⁺; tell = tell⁺ }
