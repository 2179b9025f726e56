-- The columns in front of a comment stand from left to right, and so do the labels and the parents of the pairs among them; rules
-- of one number, one for each pair, are then from left to right. By one step along the columns.
use Prim.Native.Nat.{ℕ, zero, suc, ◌≤◌, ◌<◌}
use native.Mathlib.Omega.{arith}
use mathlib.Core.Path.{refl}
use mathlib.Core.Logic.{inl, inr}
use mathlib.Core.Bool.{Bool}
use mathlib.Core.List.{List, [], ◌∷◌, map}
use lib.ListN.{length, drop}
use Rattle.rules.specs.Lists.{Each}
use Rattle.rules.specs.Texts.{Text}
use Rattle.rules.specs.Columns.{text}
use Rattle.rules.specs.Rules.{Rule, rule}
use Rattle.rules.specs.Pairs.{Pair, pairs}
use Rattle.rules.specs.GrammarLines.{In}
use Rattle.rules.proofs.EachElement.{each_then, each_map}
use Rattle.rules.proofs.LeftmostRules.{NotLeft, LeftToRight}
use Rattle.rules.proofs.ColumnsRise.{NotBefore, Sorted}

-- ---- columns of a list, and pairs of them

pub field_each : (P : Text → Type 0) (fs : List Text) → Each P fs → (n : ℕ) → n < length fs → P (text fs n)
field_each P [] k n h = absurd (omega arith)
field_each P (f ∷ fs) k zero h = k.0
field_each P (f ∷ fs) k (suc n) h = field_each P fs k.1 n (omega arith)

pub each_drop : (P : Text → Type 0) (n : ℕ) (fs : List Text) → Each P fs → Each P (drop n fs)
each_drop P zero fs k = k
each_drop P (suc n) [] k = tt
each_drop P (suc n) (f ∷ fs) k = each_drop P n fs k.1

pub sorted_drop : (n : ℕ) (fs : List Text) → Sorted fs → Sorted (drop n fs)
sorted_drop zero fs k = k
sorted_drop (suc n) [] k = tt
sorted_drop (suc n) (f ∷ fs) k = sorted_drop n fs k.1

pub sorted_at : (fs : List Text) → Sorted fs → (i j : ℕ) → i < j → j < length fs → NotBefore (text fs i) (text fs j)
sorted_at [] s i j h k = absurd (omega arith)
sorted_at (f ∷ fs) s i zero h k = absurd (omega arith)
sorted_at (f ∷ fs) s zero (suc j) h k = field_each (NotBefore f) fs s.0 j (omega arith)
sorted_at (f ∷ fs) s (suc i) (suc j) h k = sorted_at fs s.1 i j (omega arith) (omega arith)

pub sorted_before : (fs : List Text) → Sorted fs → (i n : ℕ) → i < n → n ≤ length fs → Each (NotBefore (text fs i)) (drop n fs)
sorted_before fs s i zero h k = absurd (omega arith)
sorted_before [] s i (suc n) h k = absurd (omega arith)
sorted_before (f ∷ fs) s zero (suc n) h k = each_drop (NotBefore f) n fs s.0
sorted_before (f ∷ fs) s (suc i) (suc n) h k = sorted_before fs s.1 i n (omega arith) (omega arith)

pub pairs_each : (P : Text → Type 0) (ts : List Text) → Each P ts → Each (λ (p : Pair). P p.label × P p.parent) (pairs ts)
unfolding pairs
pairs_each P [] k = tt
pairs_each P (l ∷ []) k = tt
pairs_each P (l ∷ p ∷ ts) k = ((k.0, k.1.0), pairs_each P ts k.1.1)

abbrev pub SortedBy : (Pair → Text) → List Pair → Type 0
SortedBy about [] = Unit
SortedBy about (p ∷ ps) = Each (λ (q : Pair). NotBefore (about p) (about q)) ps × SortedBy about ps

pub labels_sorted : (ts : List Text) → Sorted ts → SortedBy (λ (p : Pair). p.label) (pairs ts)
unfolding pairs
labels_sorted [] s = tt
labels_sorted (l ∷ []) s = tt
labels_sorted (l ∷ p ∷ ts) s = (
  each_then (λ (q : Pair). NotBefore l q.label × NotBefore l q.parent) (λ (q : Pair). NotBefore l q.label) (λ q k. k.0) (pairs ts) (pairs_each (NotBefore l) ts s.0.1),
  labels_sorted ts s.1.1,
)

pub parents_sorted : (ts : List Text) → Sorted ts → SortedBy (λ (p : Pair). p.parent) (pairs ts)
unfolding pairs
parents_sorted [] s = tt
parents_sorted (l ∷ []) s = tt
parents_sorted (l ∷ p ∷ ts) s = (
  each_then (λ (q : Pair). NotBefore p q.label × NotBefore p q.parent) (λ (q : Pair). NotBefore p q.parent) (λ q k. k.1) (pairs ts) (pairs_each (NotBefore p) ts s.1.0),
  parents_sorted ts s.1.1,
)

pub each_own : {A : Type 0} (xs : List A) → Each (λ (x : A). In x xs) xs
each_own [] = tt
each_own {A} (x ∷ xs) = (inl refl, each_then (λ (y : A). In y xs) (λ (y : A). In y (x ∷ xs)) (λ y i. inr i) xs (each_own xs))

-- ---- rules of one number, one for each pair

module _ (n : ℕ) (about : Pair → Text) (holds : Pair → Bool) where
  abbrev pub rule_of : Pair → Rule
  rule_of p = rule n (about p) (holds p)

  pub not_left : (t : Text) (b : Bool) (ps : List Pair) → Each (λ (p : Pair). NotBefore t (about p)) ps → Each (NotLeft (rule n t b)) (map rule_of ps)
  not_left t b ps k = each_map rule_of (NotLeft (rule n t b)) ps (each_then (λ (p : Pair). NotBefore t (about p)) (λ (p : Pair). NotLeft (rule n t b) (rule_of p)) (λ p h d e z. h) ps k)

  pub pairs_left : (ps : List Pair) → SortedBy about ps → LeftToRight (map rule_of ps)
  pairs_left [] s = tt
  pairs_left (p ∷ ps) s = (not_left (about p) (holds p) ps s.0, pairs_left ps s.1)

  pub pairs_numbered : (ps : List Pair) → Each (λ (r : Rule). (n ≤ r.number) × (r.number ≤ n)) (map rule_of ps)
  pairs_numbered [] = tt
  pairs_numbered (p ∷ ps) = ((omega arith, omega arith), pairs_numbered ps)
