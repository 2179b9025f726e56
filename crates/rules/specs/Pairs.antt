-- Document 01, "The file from top to bottom", and document 02, request 1: in a node's line, any number of pairs of secondary
-- label and secondary parent.
use Rattle.std.specs.Prelude.{ℕ, Bool, true, false, not, List, [], ◌∷◌, eqb, Option}
use Rattle.rules.specs.Texts.{Text}
use Rattle.rules.specs.Numbers.{phrase_number, number, value}
use Rattle.rules.specs.Sentences.{Edge}

pub record Pair : Type 0 where
  pub label : Text
  pub parent : Text

unfoldable pub pairs : List Text → List Pair
pairs [] = []
pairs (l ∷ []) = []
pairs (l ∷ p ∷ ts) = record { label = l; parent = p } ∷ pairs ts

-- no label is without its parent
unfoldable pub paired : List Text → Bool
paired [] = true
paired (l ∷ []) = false
paired (l ∷ p ∷ ts) = paired ts

abbrev pub secondary_parent : Pair → Option ℕ
secondary_parent p = number phrase_number p.parent.bytes

abbrev pub as_edge : Pair → Edge
as_edge p = record { label = p.label; parent = value (secondary_parent p) }

-- a secondary parent is any phrase of the sentence other than the node itself
abbrev pub is_another : ℕ → Pair → Bool
is_another its_number p = not (eqb its_number (value (secondary_parent p)))
