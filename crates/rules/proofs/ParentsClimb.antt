-- Demand 2, chains: in every sentence handed out, of any file, every chain of parents climbs to 0. Each node's parent is 0
-- or a larger phrase number, and no larger than the last.
use Prim.Native.Nat.{ℕ, suc, ◌+◌}
use mathlib.Core.Path.{◌≡◌, refl, sym, ◌∙◌}
use mathlib.Core.Logic.{◌⊎◌, inl, inr}
use mathlib.Core.Bool.{Bool, true, false, ◌&&◌}
use mathlib.Core.List.{List, [], ◌∷◌}
use lib.ListN.{length}
use lib.Dec.{leb, eqb}
use borrow.Author.Tests.{eqb-true, leb-true}
use Rattle.rules.specs.Lists.{pick, Each}
use Rattle.rules.specs.Sentences.{Node, Sentence, listed, parented}
use Rattle.rules.specs.Reading.{Handed}
use Rattle.rules.specs.Sheets.{nodes}
use Rattle.rules.specs.Survey.{survey_of}
use Rattle.rules.specs.Climbing.{parent_among, parent_in, Climbs, EveryChainClimbs}
use Rattle.rules.proofs.Conjunctions.{and_left, and_right}
use Rattle.rules.proofs.EachElement.{each_then, each_both, each_of}
use Rattle.rules.proofs.SaidOfLists.{every_each}
use Rattle.rules.proofs.NoGap.{listed_is}
use Rattle.rules.proofs.References.{parent_listed}
use Rattle.rules.proofs.NodeNumbers.{listed_highest, numbered_apart}
use Rattle.rules.proofs.Climbable.{Rises, Climbable, handed_climbable}
use Rattle.rules.proofs.Chains.{ZeroOrAbove, climbs_any}

-- ---- a node's parent

-- what a number's node has, each node's own parent being so
among_above : (count : ℕ) (ns : List Node) → Each (λ (n : Node). ZeroOrAbove count n.number n.parent) ns → (k : ℕ) → ZeroOrAbove count k (parent_among ns k)
among_above count [] a k = inl refl
among_above count (n ∷ ns) a k = by (eqb n.number k) refl (among_above count ns a.1 k)
  where
    by : (t : Bool) → eqb n.number k ≡ t → ZeroOrAbove count k (parent_among ns k) → ZeroOrAbove count k (pick t n.parent (parent_among ns k))
    by true q more = rw (← eqb-true n.number k q) a.0
    by false q more = more

-- ---- a sentence

module _ (s : Sentence) (k : Climbable s) where
  abbrev ps : List Node
  ps = s.phrases

  abbrev count : ℕ
  count = length ps

  listed_between : (n : ℕ) → listed ps n ≡ true → (leb 500 n && leb n (499 + count)) ≡ true
  listed_between n e = sym (listed_is ps (numbered_apart ps k.numbered k.apart) k.whole n) ∙ e

  abbrev NodeAbove : Node → Type 0
  NodeAbove n = ZeroOrAbove count n.number n.parent

  node_above : (n : Node) → Rises n → parented ps n ≡ true → NodeAbove n
  node_above n rises e = by rises (parent_listed ps n e)
    where
      by : Rises n → (n.parent ≡ 0) ⊎ (listed ps n.parent ≡ true) → NodeAbove n
      by (inl z) l = inl z
      by (inr h) (inl z) = inl z
      by (inr h) (inr l) =
          let b = listed_between n.parent l in
          inr (record {
            larger = h;
            phrase = leb-true 500 n.parent (and_left (leb 500 n.parent) (leb n.parent (499 + count)) b);
            last = leb-true n.parent (499 + count) (and_right (leb 500 n.parent) (leb n.parent (499 + count)) b);
            highest = listed_highest ps k.numbered n.parent l;
          })

  each_above : Each NodeAbove (nodes s)
  each_above =
      each_then (λ (n : Node). Rises n × (parented ps n ≡ true)) NodeAbove (λ n a. node_above n a.0 a.1) (nodes s)
      (each_both Rises (λ (n : Node). parented ps n ≡ true) (nodes s) k.rises (every_each (parented ps) (nodes s) k.parents))

  -- the parent of any number
  pub parent_above : (n : ℕ) → ZeroOrAbove count n (parent_in s n)
  parent_above n = among_above count (nodes s) each_above n

  pub sentence_climbs : (n : ℕ) → Climbs (parent_in s) (suc count) n
  sentence_climbs n = climbs_any (parent_in s) count parent_above n

  -- every chain of parents climbs
  pub chains_climb : EveryChainClimbs s (parent_in s)
  chains_climb = each_of (λ (n : Node). Climbs (parent_in s) (suc count) n.number) (λ n. sentence_climbs n.number) (nodes s)

-- in every sentence handed out
pub climbs : (f : List ℕ) → Each (λ (h : Handed). EveryChainClimbs h.sentence (parent_in h.sentence)) (survey_of f).handed
climbs f =
    each_then (λ (h : Handed). Climbable h.sentence) (λ (h : Handed). EveryChainClimbs h.sentence (parent_in h.sentence)) (λ h k. chains_climb h.sentence k) (survey_of f).handed
    (handed_climbable f)
