-- The columns of a node's line in front of its comment, as a reading takes them and as the grammar says them: five texts,
-- then pairs. By one step along the pairs.
use Prim.Native.Nat.{ℕ, ◌≤◌}
use native.Mathlib.Omega.{arith}
use mathlib.Core.Path.{◌≡◌, refl, ap}
use mathlib.Core.Bool.{true, false≢true}
use mathlib.Core.List.{List, [], ◌∷◌, map}
use lib.ListN.{length, drop}
use lib.Dec.{leb}
use borrow.Author.Tests.{leb-true, le-leb}
use Rattle.rules.specs.Lists.{joined, Each}
use Rattle.rules.specs.Texts.{Text}
use Rattle.rules.specs.Columns.{text}
use Rattle.rules.specs.Numbers.{value}
use Rattle.rules.specs.Sentences.{Edge, Node}
use Rattle.rules.specs.Pairs.{Pair, pairs, paired, secondary_parent}
use Rattle.rules.specs.Nodes.{parent_field, its_tag, its_morphology, its_edge, shaped, its_pairs}
use Rattle.rules.specs.GrammarNodes.{EdgeSaid, NodeLine, pair_columns, node_columns}
use Rattle.rules.proofs.AnyLine.{bytes_of}
use Rattle.rules.proofs.SaidOfLists.{and_both_ways}

-- ---- pairs

abbrev pub said_pair : Pair → EdgeSaid
said_pair p = record { label = p.label.bytes; parent_text = p.parent.bytes; parent = value (secondary_parent p) }

pub paired_columns : (gs : List Text) → paired gs ≡ true → bytes_of gs ≡ joined (map pair_columns (map said_pair (pairs gs)))
unfolding paired pairs
paired_columns [] e = refl
paired_columns (l ∷ []) e = absurd (false≢true e)
paired_columns (l ∷ p ∷ gs) e = ap (λ (xs : List (List ℕ)). l.bytes ∷ p.bytes ∷ xs) (paired_columns gs e)

-- pairs as read, and secondary edges as said, one by one
abbrev pub PairsAre : List Pair → List EdgeSaid → Type 0
PairsAre [] [] = Unit
PairsAre [] (e ∷ es) = ⊥
PairsAre (p ∷ ps) [] = ⊥
PairsAre (p ∷ ps) (e ∷ es) = ((p.label.bytes ≡ e.label) × (p.parent.bytes ≡ e.parent_text)) × PairsAre ps es

pub columns_paired : (es : List EdgeSaid) (gs : List Text) → bytes_of gs ≡ joined (map pair_columns es) → (paired gs ≡ true) × PairsAre (pairs gs) es
unfolding paired pairs
columns_paired [] [] q = (refl, tt)
columns_paired [] (g ∷ gs) q = absurd (let z : ◌≡◌ {A = ℕ} 0 1 = cc in omega arith)
columns_paired (e ∷ es) [] q = absurd (let z : ◌≡◌ {A = ℕ} 0 1 = cc in omega arith)
columns_paired (e ∷ es) (l ∷ []) q = absurd (let z : ◌≡◌ {A = ℕ} 0 1 = cc in omega arith)
columns_paired (e ∷ es) (l ∷ p ∷ gs) q =
    let more = columns_paired es gs (cc) in
    (more.0, (((cc), (cc)), more.1))

module _ (P : EdgeSaid → Type 0) (Q : Pair → Type 0)
    (f : (p : Pair) (e : EdgeSaid) → p.label.bytes ≡ e.label → p.parent.bytes ≡ e.parent_text → P e → Q p) where
  pub each_pair : (ps : List Pair) (es : List EdgeSaid) → PairsAre ps es → Each P es → Each Q ps
  each_pair [] [] a h = tt
  each_pair [] (e ∷ es) a h = absurd a
  each_pair (p ∷ ps) [] a h = absurd a
  each_pair (p ∷ ps) (e ∷ es) a h = (f p e a.0.0 a.0.1 h.0, each_pair ps es a.1 h.1)

-- ---- five texts, then pairs

pub shaped_columns : (format : ℕ) (fs : List Text) → shaped format fs ≡ true
    → bytes_of fs ≡ (text fs 0).bytes ∷ (its_tag format fs).bytes ∷ (its_morphology format fs).bytes ∷ (its_edge format fs).bytes ∷ (text fs (parent_field format)).bytes ∷ joined (map pair_columns (map said_pair (its_pairs format fs)))
shaped_columns format fs h =
    let b = (and_both_ways (leb 5 (length fs)) (paired (drop 5 fs))).0 h in
    by fs (leb-true 5 (length fs) b.0) (paired_columns (drop 5 fs) b.1)
  where
    by : (fs : List Text) → 5 ≤ length fs → bytes_of (drop 5 fs) ≡ joined (map pair_columns (map said_pair (its_pairs format fs)))
        → bytes_of fs ≡ (text fs 0).bytes ∷ (its_tag format fs).bytes ∷ (its_morphology format fs).bytes ∷ (its_edge format fs).bytes ∷ (text fs (parent_field format)).bytes ∷ joined (map pair_columns (map said_pair (its_pairs format fs)))
    by [] h e = absurd (omega arith)
    by (a ∷ []) h e = absurd (omega arith)
    by (a ∷ b ∷ []) h e = absurd (omega arith)
    by (a ∷ b ∷ c ∷ []) h e = absurd (omega arith)
    by (a ∷ b ∷ c ∷ d ∷ []) h e = absurd (omega arith)
    by (a ∷ b ∷ c ∷ d ∷ p ∷ gs) h e = ap (λ (xs : List (List ℕ)). a.bytes ∷ b.bytes ∷ c.bytes ∷ d.bytes ∷ p.bytes ∷ xs) e

pub record Shaped (format : ℕ) (fs : List Text) (n : NodeLine) : Type 0 where
  pub whole : shaped format fs ≡ true
  pub at_first : (text fs 0).bytes ≡ n.first
  pub at_tag : (its_tag format fs).bytes ≡ n.tag
  pub at_morphology : (its_morphology format fs).bytes ≡ n.morphology
  pub at_edge : (its_edge format fs).bytes ≡ n.edge
  pub at_parent : (text fs (parent_field format)).bytes ≡ n.parent_text
  pub at_pairs : PairsAre (its_pairs format fs) n.secondary

pub columns_shaped : (format : ℕ) (fs : List Text) (n : NodeLine) → bytes_of fs ≡ node_columns format n → Shaped format fs n
columns_shaped format [] n e = absurd (let z : ◌≡◌ {A = ℕ} 0 1 = cc in omega arith)
columns_shaped format (a ∷ []) n e = absurd (let z : ◌≡◌ {A = ℕ} 0 1 = cc in omega arith)
columns_shaped format (a ∷ b ∷ []) n e = absurd (let z : ◌≡◌ {A = ℕ} 0 1 = cc in omega arith)
columns_shaped format (a ∷ b ∷ c ∷ []) n e = absurd (let z : ◌≡◌ {A = ℕ} 0 1 = cc in omega arith)
columns_shaped format (a ∷ b ∷ c ∷ d ∷ []) n e = absurd (let z : ◌≡◌ {A = ℕ} 0 1 = cc in omega arith)
columns_shaped format (a ∷ b ∷ c ∷ d ∷ p ∷ gs) n e =
    let more = columns_paired n.secondary gs (cc) in
    record {
      whole = (and_both_ways (leb 5 (length (a ∷ b ∷ c ∷ d ∷ p ∷ gs))) (paired gs)).1 (le-leb 5 (length (a ∷ b ∷ c ∷ d ∷ p ∷ gs)) (omega arith), more.0);
      at_first = (cc);
      at_tag = (cc);
      at_morphology = (cc);
      at_edge = (cc);
      at_parent = (cc);
      at_pairs = more.1;
    }

-- ---- a node's parents

pub record Side : Type 0 where
  pub parent : ℕ
  pub others : List ℕ

abbrev pub side_of : Node → Side
side_of n = record { parent = n.parent; others = map (λ (e : Edge). e.parent) n.secondary }

abbrev pub side_said : NodeLine → Side
side_said n = record { parent = n.parent; others = map (λ (e : EdgeSaid). e.parent) n.secondary }
