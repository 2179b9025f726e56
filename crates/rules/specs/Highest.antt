-- The highest numbers that a sentence has: of its phrases and of the parents that it names. At #EOS they tell whether there
-- is a gap in the phrases, and whether a parent is absent.
use Rattle.std.specs.Prelude.{ℕ, List, [], ◌∷◌, map, ltb}
use Rattle.rules.specs.Lists.{pick}
use Rattle.rules.specs.Sentences.{Edge, Node}

abbrev pub larger : ℕ → ℕ → ℕ
larger m n = pick (ltb m n) n m

-- the largest of the numbers that the elements have, 0 if there is none
abbrev pub largest : {A : Type 0} → (A → ℕ) → List A → ℕ
largest f [] = 0
largest f (x ∷ xs) = larger (f x) (largest f xs)

-- the highest of numbers from 500 on, 499 if there is none
abbrev pub topmost : List ℕ → ℕ
topmost [] = 499
topmost (n ∷ ns) = larger n (topmost ns)

abbrev pub highest_phrase : List Node → ℕ
highest_phrase ps = topmost (map (λ (p : Node). p.number) ps)

abbrev pub edge_parent : Edge → ℕ
edge_parent e = e.parent

-- the largest of a node's parent and its secondary parents
abbrev pub highest_parent : Node → ℕ
highest_parent n = larger n.parent (largest edge_parent n.secondary)
