-- The walk along the pairs of a line, whatever a rule asks of a pair: from the fifth field on up to a place every pair has
-- kept the rule, so the rest decides. One law for the start, a pair more, and each way out.
use Prim.Native.Nat.{ℕ, suc, ◌+◌, ◌-◌, ◌*◌, ◌≤◌, ◌<◌, ◌/◌}
use native.Mathlib.Numerals.{add-one}
use native.Mathlib.Omega.{arith}
use mathlib.Core.Path.{◌≡◌, refl, sym, ap, ◌∙◌}
use mathlib.Core.Bool.{Bool, true, false}
use mathlib.Core.List.{List, [], ◌∷◌, map}
use borrow.Author.Tests.{leb-true, leb-false}
use lib.Dec.{leb}
use lib.ListN.{length, drop, length-drop, drop_of_length-le}
use lib.Seq.{drop-cons}
use Rattle.std.specs.Prelude.{Ok, Err}
use Rattle.rules.specs.Lists.{pick}
use Rattle.rules.specs.Texts.{Text, no_text}
use Rattle.rules.specs.Columns.{text}
use Rattle.rules.specs.Rules.{Rule}
use Rattle.rules.specs.Pairs.{Pair, pairs, paired}
use Rattle.rules.specs.Numbers.{value}
use Rattle.rules.specs.Highest.{larger}
use Rattle.rules.proofs.Largest.{larger_assoc, larger_zero}
use Rattle.steps.specs.Faults.{broken_by, fault, fault_in}
use Rattle.steps.specs.declared.Fault.{Fault}
use Rattle.nodes.specs.NodeLines.{pairs_from, pair_of, phrase_in, highest_of, Whole, AsksPairs}
use Rattle.nodes.proofs.ListedFields.{twice_pairs}

abbrev pub pair_at : List Text → ℕ → Pair
pair_at fs k = record { label = text fs k; parent = text fs (k + 1) }

module _ (fs : List Text) (k : ℕ) where
  -- the fields from a place on, two of them taken apart
  two_more : k + 1 < length fs → drop k fs ≡ text fs k ∷ text fs (k + 1) ∷ drop (k + 2) fs
  two_more h =
      let a : drop k fs ≡ text fs k ∷ drop (k + 1) fs = rw (add-one k) (drop-cons fs k no_text (omega arith)) in
      let n : suc (k + 1) ≡ k + 2 = omega arith in
      let b : drop (k + 1) fs ≡ text fs (k + 1) ∷ drop (k + 2) fs = drop-cons fs (k + 1) no_text h ∙ ap (λ (n : ℕ). text fs (k + 1) ∷ drop n fs) n in
      a ∙ ap (λ (ts : List Text). text fs k ∷ ts) b

  pub pairs_end : length fs ≤ k → pairs_from fs k ≡ []
  unfolding pairs
  pairs_end h = rw (drop_of_length-le fs h)

  pub pairs_more : k + 1 < length fs → pairs_from fs k ≡ pair_at fs k ∷ pairs_from fs (k + 2)
  unfolding pairs
  pairs_more h = ap pairs (two_more h)

  -- a label has its parent
  pub has_parent : paired (drop k fs) ≡ true → k < length fs → k + 1 < length fs
  unfolding paired
  has_parent e h = by (leb (length fs) (k + 1)) refl
    where
      alone : length fs ≤ suc k → drop k fs ≡ text fs k ∷ []
      alone l = drop-cons fs k no_text h ∙ ap (λ (ts : List Text). text fs k ∷ ts) (drop_of_length-le fs l)

      by : (t : Bool) → leb (length fs) (k + 1) ≡ t → k + 1 < length fs
      by true q =
          let l : length fs ≤ suc k = omega (arith, leb-true (length fs) (k + 1) q) in
          let f : paired (drop k fs) ≡ false = ap paired (alone l) in
          absurd (let z : ◌≡◌ {A = ℕ} 0 1 = cc in omega arith)
      by false q = omega (arith, leb-false (length fs) (k + 1) q)

  pub paired_more : k + 1 < length fs → paired (drop k fs) ≡ true → paired (drop (k + 2) fs) ≡ true
  unfolding paired
  paired_more h e = rw (two_more h) at e

-- the walk has come to a field, and every pair in front of it has kept its rule
pub record Along (q : Pair → Rule) (fs : List Text) (k : ℕ) : Type 0 where
  pub even : paired (drop k fs) ≡ true
  pub rest : fault_in (map q (pairs_from fs k)) ≡ fault_in (map q (pairs_from fs 5))

module _ {fs : List Text} {count : ℕ} (w : Whole fs count) where
  pub along_start : (q : Pair → Rule) → Along q fs 5
  along_start q = record { even = w.even; rest = refl }

  module _ {q : Pair → Rule} {k : ℕ} (a : Along q fs k) where
    pub along_end : count ≤ k → Ok tt ≡ fault_in (map q (pairs_from fs 5))
    unfolding fault_in
    along_end h = sym (ap (λ (ps : List Pair). fault_in (map q ps)) (pairs_end fs k (omega (arith, w.counted)))) ∙ a.rest

    pub highest_end : (highest : ℕ) → count ≤ k → larger highest (highest_of (pairs_from fs k)) ≡ highest
    highest_end highest h =
        ap (λ (ps : List Pair). larger highest (highest_of ps)) (pairs_end fs k (omega (arith, w.counted))) ∙ larger_zero highest

    module _ (h : k < count) where
      with_parent : k + 1 < length fs
      with_parent = has_parent fs k a.even (omega (arith, w.counted))

      pub parent_field : k + 1 < count
      parent_field = omega (arith, with_parent, w.counted)

      here : pick (q (pair_at fs k)).holds (fault_in (map q (pairs_from fs (k + 2)))) (Err (broken_by (q (pair_at fs k)))) ≡ fault_in (map q (pairs_from fs 5))
      unfolding fault_in
      here = sym (ap (λ (ps : List Pair). fault_in (map q ps)) (pairs_more fs k with_parent)) ∙ a.rest

      pub along_more : (q (pair_at fs k)).holds ≡ true → Along q fs (k + 2)
      along_more e = record { even = paired_more fs k with_parent a.even; rest = rw e at here }

      pub along_stop : (q (pair_at fs k)).holds ≡ false → Err (broken_by (q (pair_at fs k))) ≡ fault_in (map q (pairs_from fs 5))
      along_stop e = rw e at here

      -- the highest secondary parent from here on
      pub highest_more : (highest : ℕ)
          → larger highest (highest_of (pairs_from fs k)) ≡ larger (larger highest (value (phrase_in (text fs (k + 1))))) (highest_of (pairs_from fs (k + 2)))
      highest_more highest =
          ap (λ (ps : List Pair). larger highest (highest_of ps)) (pairs_more fs k with_parent)
          ∙ larger_assoc highest (value (phrase_in (text fs (k + 1)))) (highest_of (pairs_from fs (k + 2)))

-- ---- pair by pair

module _ {fs : List Text} {count : ℕ} (w : Whole fs count) where
  all_pairs : count ≡ 5 + 2 * ((count - 5) / 2)
  all_pairs = omega (arith, w.counted, w.five, twice_pairs (drop 5 fs) w.even, length-drop 5 fs)

  module _ {n : ℕ} (e : n ≡ (count - 5) / 2) {j : ℕ} where
    pub pair_there : j < n → 6 + 2 * j < count
    pair_there h = omega (arith, e, all_pairs)

    pub pairs_over : n ≤ j → count ≤ 5 + 2 * j
    pairs_over h = omega (arith, e, all_pairs)

  module _ {q : Pair → Rule} (j : ℕ) (a : Along q fs (5 + 2 * j)) (h : 6 + 2 * j < count) where
    on : 5 + 2 * j + 2 ≡ 5 + 2 * (j + 1)
    on = omega arith

    beside : 5 + 2 * j + 1 ≡ 6 + 2 * j
    beside = omega arith

    there : 5 + 2 * j < count
    there = omega (arith, h)

    pub pair_more : (q (pair_of fs j)).holds ≡ true → Along q fs (5 + 2 * (j + 1))
    pair_more = rw (beside, on) at (along_more w a there)

    pub pair_stop : {f : Fault} → f ≡ broken_by (q (pair_of fs j)) → (q (pair_of fs j)).holds ≡ false → Err f ≡ fault_in (map q (pairs_from fs 5))
    pair_stop e b = ap Err e ∙ (rw beside at (along_stop w a there)) b

    -- by an answer that tells the rule
    module _ {number first : ℕ} {answers : ℕ → Bool → Type 0} (asks : AsksPairs fs number first answers q) {b : Bool} (answer : answers (first + 2 * j) b) where
      told : b ≡ (q (pair_of fs j)).holds
      told = asks.told j b (omega (arith, h, w.counted)) answer

      pub asked_more : b ≡ true → Along q fs (5 + 2 * (j + 1))
      asked_more e = pair_more (sym told ∙ e)

      pub asked_stop : {f : Fault} → f ≡ fault number (text fs (first + 2 * j)).start → b ≡ false → Err f ≡ fault_in (map q (pairs_from fs 5))
      asked_stop g e = pair_stop (g ∙ sym (asks.fault j)) (sym told ∙ e)

    pub highest_pair : (highest : ℕ)
        → larger highest (highest_of (pairs_from fs (5 + 2 * j))) ≡ larger (larger highest (value (phrase_in (text fs (6 + 2 * j))))) (highest_of (pairs_from fs (5 + 2 * (j + 1))))
    highest_pair = rw (beside, on) at (highest_more w a there)
