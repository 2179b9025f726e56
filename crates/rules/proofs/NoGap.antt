-- Phrases that are numbered from 500 on and differ in their numbers leave no gap exactly where the highest number is
-- 499 and their count: as many different numbers as there are fill the room below it.
use Prim.Native.Nat.{ℕ, suc, ◌+◌, ◌≤◌, ◌<◌}
use native.Mathlib.Omega.{arith}
use mathlib.Core.Path.{◌≡◌, refl, sym, ap, ◌∙◌}
use mathlib.Core.Bool.{Bool, true, false, not, ◌&&◌, ◌||◌}
use mathlib.Core.List.{List, [], ◌∷◌, ◌++◌, map}
use lib.Dec.{leb, ltb, eqb}
use lib.ListN.{length}
use borrow.Author.Tests.{eqb-true, eq-eqb, leb-true, le-leb, lt-ltb, le-ltb, ltb-true, ltb-false}
use Rattle.rules.specs.Lists.{pick, every, member, counting}
use Rattle.rules.specs.Sentences.{Node, listed, gapless}
use Rattle.rules.specs.Highest.{larger, topmost, highest_phrase}
use Rattle.rules.proofs.Conjunctions.{and_left, and_right, and_both, false_if_never, or_found, every_append}
use Rattle.rules.proofs.Counting.{length_counting}
use Rattle.rules.proofs.Largest.{larger_left, larger_right, larger_assoc}
use Rattle.rules.proofs.DifferentNumbers.{both_ways, distinct, distinct_added, among, no_more, every_member, every_of_members, counting_told, counting_inside, counting_distinct}

-- ---- the highest of numbers from 500 on

top_floor : (ns : List ℕ) → 499 ≤ topmost ns
top_floor [] = omega arith
top_floor (n ∷ ns) = omega (arith, top_floor ns, larger_right n (topmost ns))

top_bounds : (ns : List ℕ) (k : ℕ) → member k ns ≡ true → k ≤ topmost ns
top_bounds [] k e = absurd (let z : ◌≡◌ {A = ℕ} 0 1 = cc in omega arith)
top_bounds (n ∷ ns) k e = by (eqb k n) refl e (top_bounds ns k)
  where
    by : (t : Bool) → eqb k n ≡ t → (t || member k ns) ≡ true → (member k ns ≡ true → k ≤ topmost ns) → k ≤ larger n (topmost ns)
    by true q e more = omega (arith, eqb-true k n q, larger_left n (topmost ns))
    by false q e more = omega (arith, more e, larger_right n (topmost ns))

-- the highest is one of them
top_reached : (ns : List ℕ) → 499 < topmost ns → member (topmost ns) ns ≡ true
top_reached [] h = absurd (omega arith)
top_reached (n ∷ ns) h = by (ltb n (topmost ns)) h (top_reached ns)
  where
    by : (t : Bool) → 499 < pick t (topmost ns) n → (499 < topmost ns → member (topmost ns) ns ≡ true) → (eqb (pick t (topmost ns) n) n || member (pick t (topmost ns) n) ns) ≡ true
    by true h more = or_found (eqb (topmost ns) n) (member (topmost ns) ns) (more h)
    by false h more = rw (eq-eqb n n refl)

-- ---- different numbers from 500 on fill what is below the highest exactly where that is 499 and their count

abbrev from_phrases : List ℕ → Bool
from_phrases ns = every (leb 500) ns

abbrev filled : List ℕ → Bool
filled ns = every (among ns) (counting 500 (length ns))

module _ (ns : List ℕ) (low : from_phrases ns ≡ true) (apart : distinct ns ≡ true) where
  in_range : (k : ℕ) → member k ns ≡ true → (500 ≤ k) × (k ≤ topmost ns)
  in_range k m = (leb-true 500 k (every_member (leb 500) ns k low m), top_bounds ns k m)

  reaches : (k : ℕ) → filled ns ≡ true → 500 ≤ k → k ≤ 499 + length ns → member k ns ≡ true
  reaches k e h l = every_member (among ns) (counting 500 (length ns)) k e (counting_inside k 500 (length ns) h (omega arith))

  no_higher : filled ns ≡ true → 499 + length ns < topmost ns → ⊥
  no_higher e h =
      let outside : member (topmost ns) (counting 500 (length ns)) ≡ false =
      false_if_never (member (topmost ns) (counting 500 (length ns))) (λ m. omega (arith, (counting_told (topmost ns) 500 (length ns) m).1)) in
      let more = no_more (topmost ns ∷ counting 500 (length ns)) ns
      (and_both (not (member (topmost ns) (counting 500 (length ns)))) (distinct (counting 500 (length ns))) (ap not outside) (counting_distinct 500 (length ns)))
      (and_both (among ns (topmost ns)) (filled ns) (top_reached ns (omega arith)) e) in
      omega (arith, more, length_counting 500 (length ns))

  no_lower : filled ns ≡ true → 499 + length ns ≤ topmost ns
  no_lower e = by (ltb 0 (length ns)) refl
    where
      by : (t : Bool) → ltb 0 (length ns) ≡ t → 499 + length ns ≤ topmost ns
      by true q = let some : 0 < length ns = ltb-true 0 (length ns) q in top_bounds ns (499 + length ns) (reaches (499 + length ns) e (omega arith) (omega arith))
      by false q = omega (arith, ltb-false 0 (length ns) q, top_floor ns)

  filled_top : filled ns ≡ true → topmost ns ≡ 499 + length ns
  filled_top e = by (ltb (499 + length ns) (topmost ns)) refl
    where
      by : (t : Bool) → ltb (499 + length ns) (topmost ns) ≡ t → topmost ns ≡ 499 + length ns
      by true q = absurd (no_higher e (ltb-true (499 + length ns) (topmost ns) q))
      by false q = omega (arith, ltb-false (499 + length ns) (topmost ns) q, no_lower e)

  top_filled : topmost ns ≡ 499 + length ns → filled ns ≡ true
  top_filled e = every_of_members (among ns) (counting 500 (length ns)) (λ k m. by k m (member k ns) refl)
    where
      inside : (k : ℕ) → member k ns ≡ true → member k (counting 500 (length ns)) ≡ true
      inside k m = let p = in_range k m in counting_inside k 500 (length ns) p.0 (omega (arith, p.1))

      by : (k : ℕ) → member k (counting 500 (length ns)) ≡ true → (t : Bool) → member k ns ≡ t → t ≡ true
      by k m true q = refl
      by k m false q =
          let more = no_more (k ∷ ns) (counting 500 (length ns))
          (and_both (not (member k ns)) (distinct ns) (ap not q) apart)
          (and_both (among (counting 500 (length ns)) k) (every (among (counting 500 (length ns))) ns) m (every_of_members (among (counting 500 (length ns))) ns inside)) in
          absurd (omega (arith, more, length_counting 500 (length ns)))

  filled_is : filled ns ≡ eqb (topmost ns) (499 + length ns)
  filled_is =
      both_ways (filled ns) (eqb (topmost ns) (499 + length ns)) (λ e. eq-eqb (topmost ns) (499 + length ns) (filled_top e))
      (λ e. top_filled (eqb-true (topmost ns) (499 + length ns) e))

  member_is : filled ns ≡ true → (n : ℕ) → member n ns ≡ (leb 500 n && leb n (499 + length ns))
  member_is e n =
      both_ways (member n ns) (leb 500 n && leb n (499 + length ns))
      (λ m.
      let p = in_range n m in
      and_both (leb 500 n) (leb n (499 + length ns)) (le-leb 500 n p.0) (le-leb n (499 + length ns) (omega (arith, p.1, filled_top e))))
      (λ b. reaches n e (leb-true 500 n (and_left (leb 500 n) (leb n (499 + length ns)) b)) (leb-true n (499 + length ns) (and_right (leb 500 n) (leb n (499 + length ns)) b)))

-- ---- the same, of the phrases of a sentence

abbrev pub phrase_numbers : List Node → List ℕ
phrase_numbers ps = map (λ (p : Node). p.number) ps

-- phrases as lines are read: each number is 500 at least, and was not listed before
pub record NewNumbers (ps : List Node) : Type 0 where
  pub low : from_phrases (phrase_numbers ps) ≡ true
  pub apart : distinct (phrase_numbers ps) ≡ true

pub listed_member : (ps : List Node) (n : ℕ) → listed ps n ≡ member n (phrase_numbers ps)
listed_member [] n = refl
listed_member (p ∷ ps) n = ap (λ (b : Bool). eqb n p.number || b) (listed_member ps n)

pub none_numbered : NewNumbers []
none_numbered = record { low = refl; apart = refl }

numbers_added : (ps : List Node) (p : Node) → phrase_numbers (ps ++ (p ∷ [])) ≡ phrase_numbers ps ++ (p.number ∷ [])
numbers_added [] p = refl
numbers_added (q ∷ ps) p = ap (λ (ns : List ℕ). q.number ∷ ns) (numbers_added ps p)

pub numbered_added : (ps : List Node) (p : Node) → NewNumbers ps → 500 ≤ p.number → listed ps p.number ≡ false → NewNumbers (ps ++ (p ∷ []))
numbered_added ps p known h new =
    record {
      low = rw (numbers_added ps p) (every_append (leb 500) (phrase_numbers ps) (p.number ∷ []) known.low (rw (le-leb 500 p.number h)));
      apart = rw (numbers_added ps p) (distinct_added (phrase_numbers ps) p.number known.apart (sym (listed_member ps p.number) ∙ new));
    }

top_added : (ns : List ℕ) (n : ℕ) → 500 ≤ n → topmost (ns ++ (n ∷ [])) ≡ larger (topmost ns) n
top_added [] n h = rw (le-ltb n 499 (omega arith), lt-ltb 499 n (omega arith))
top_added (m ∷ ns) n h = ap (larger m) (top_added ns n h) ∙ larger_assoc m (topmost ns) n

pub highest_added : (ps : List Node) (p : Node) → 500 ≤ p.number → highest_phrase (ps ++ (p ∷ [])) ≡ larger (highest_phrase ps) p.number
highest_added ps p h = ap topmost (numbers_added ps p) ∙ top_added (phrase_numbers ps) p.number h

length_numbers : (ps : List Node) → length (phrase_numbers ps) ≡ length ps
length_numbers [] = refl
length_numbers (p ∷ ps) = ap suc (length_numbers ps)

every_same : (f g : ℕ → Bool) → ((n : ℕ) → f n ≡ g n) → (ns : List ℕ) → every f ns ≡ every g ns
every_same f g e [] = refl
every_same f g e (n ∷ ns) = rw (e n, every_same f g e ns)

module _ (ps : List Node) (known : NewNumbers ps) where
  filled_gapless : gapless ps ≡ filled (phrase_numbers ps)
  filled_gapless =
      every_same (listed ps) (among (phrase_numbers ps)) (listed_member ps) (counting 500 (length ps))
      ∙ ap (λ (n : ℕ). every (among (phrase_numbers ps)) (counting 500 n)) (sym (length_numbers ps))

  pub no_gap : gapless ps ≡ eqb (highest_phrase ps) (499 + length ps)
  no_gap =
      filled_gapless ∙ filled_is (phrase_numbers ps) known.low known.apart
      ∙ ap (λ (n : ℕ). eqb (highest_phrase ps) (499 + n)) (length_numbers ps)

  module _ (whole : gapless ps ≡ true) where
    pub listed_is : (n : ℕ) → listed ps n ≡ (leb 500 n && leb n (499 + length ps))
    listed_is n =
        listed_member ps n ∙ member_is (phrase_numbers ps) known.low known.apart (sym filled_gapless ∙ whole) n
        ∙ ap (λ (k : ℕ). leb 500 n && leb n (499 + k)) (length_numbers ps)
